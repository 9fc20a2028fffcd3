-- What a look has shown is kept.
use Rattle.std.proofs.Common.{◌≡◌, ℕ, Bool, true, false, refl, sym, ap, ◌∙◌, Option, Some, None}
use Rattle.std.specs.Prelude.{if◌then◌else◌, option_and_then}
use Rattle.q_core.proofs.PickLaws.{next_of, some_found}
use Rattle.q_core.specs.Agrees.{Matches, found_active, found_incoming, found_next}
use Rattle.q_core.specs.Changes.{looked_at, scan_ended}
use Rattle.q_core.specs.Facts.{is_nothing}
use Rattle.q_core.specs.Scanning.{scan_after, scan_at, scan_over}
use Rattle.q_core.specs.declared.decision.Found.{Found}
use Rattle.q_core.specs.declared.state.Core.{Core}
use Rattle.q_core.specs.declared.state.Seen.TheVariants.{Known}
use Rattle.q_model.specs.Book.{Book, message_of}
use Rattle.q_model.specs.Ledger.{Ledger}
use Rattle.q_model.specs.Scans.{new_scan, scan_next}
use Rattle.q_model.specs.Settings.{World}
use Rattle.q_model.specs.declared.rows.DeferredName.{DeferredName}
use Rattle.q_model.specs.declared.rows.Request.{Request}
use Rattle.q_model.specs.declared.rows.Scan.{Scan}

pub active_law : {w : World} {c : Core} {l : Ledger} (found : Found) → Matches w c l → found ≡ found_active l → Matches w (record c { active = Known found }) l
active_law found a e = let h = a.parts in record {
  parts = record {
    settings = h.settings;
    count = h.count;
    transports = h.transports;
    mode = h.mode;
    clock = h.clock;
    timed = h.timed;
    next_run = h.next_run;
    ignores = h.ignores;
    deferred_follows = h.deferred_follows;
    admitted = h.admitted;
    waiting = h.waiting;
    flights = h.flights;
    memory = h.memory;
    served = h.served;
    unsettled = h.unsettled;
    lines = h.lines;
    sites = h.sites;
    synced = h.synced;
    starts = h.starts;
    active = e;
    incoming = h.incoming;
  };
  scan = record { goes_on = a.scan.goes_on; seen = a.scan.seen };
}

pub incoming_law : {w : World} {c : Core} {l : Ledger} (found : Found) → Matches w c l → found ≡ found_incoming l → Matches w (record c { incoming = Known found }) l
incoming_law found a e = let h = a.parts in record {
  parts = record {
    settings = h.settings;
    count = h.count;
    transports = h.transports;
    mode = h.mode;
    clock = h.clock;
    timed = h.timed;
    next_run = h.next_run;
    ignores = h.ignores;
    deferred_follows = h.deferred_follows;
    admitted = h.admitted;
    waiting = h.waiting;
    flights = h.flights;
    memory = h.memory;
    served = h.served;
    unsettled = h.unsettled;
    lines = h.lines;
    sites = h.sites;
    synced = h.synced;
    starts = h.starts;
    active = h.active;
    incoming = e;
  };
  scan = record { goes_on = a.scan.goes_on; seen = a.scan.seen };
}

-- where the walk has a next name, it is the ledger's scan
known_law : {w : World} {c : Core} {l : Ledger} (found : Found) (walk : Scan) (o : Option DeferredName) → Matches w c l → c.scan ≡ Some walk → scan_next l.book walk ≡ o →
    scan_at l.book l.now walk c.asked o ≡ (l.scan, l.asked) → found ≡ found_next l o → is_nothing found ≡ false → Matches w (record c { deferred = Known found }) l
known_law found walk None a s e h f some = let bad : true ≡ false = ap is_nothing (sym f) ∙ some in cc
known_law {c = c} {l = l} found walk (Some n) a s e at f some =
    let h = a.parts in
    let same : Some walk ≡ l.scan = ap (λ (p : Option Scan × Option Request). p.0) at in
    record {
      parts = record {
        settings = h.settings;
        count = h.count;
        transports = h.transports;
        mode = h.mode;
        clock = h.clock;
        timed = h.timed;
        next_run = h.next_run;
        ignores = h.ignores;
        deferred_follows = h.deferred_follows;
        admitted = h.admitted;
        waiting = h.waiting;
        flights = h.flights;
        memory = h.memory;
        served = h.served;
        unsettled = h.unsettled;
        lines = h.lines;
        sites = h.sites;
        synced = h.synced;
        starts = h.starts;
        active = h.active;
        incoming = h.incoming;
      };
      scan = record { goes_on = a.scan.goes_on; seen = (s ∙ same, ap (λ (p : Option Scan × Option Request). p.1) at, f ∙ ap (found_next l) (sym e ∙ ap (next_of l.book) same)) };
    }

abbrev live_on : Scan → Option DeferredName → Option Scan
live_on s o = option_and_then (λ n. Some s) o

live_at : (b : Book) (n : ℕ) (s : Scan) (o : Option DeferredName) → ◌≡◌ {A = Option Scan × Option Request} (scan_at b n s None o) (live_on s o, None)
live_at b n s None = refl
live_at b n s (Some x) = refl

-- where it has none, the scan is over
ended_law : {w : World} {l : Ledger} (c : Core) (q : Option Request) → Matches w (record c { asked = q }) l → scan_over l.book l.now q ≡ (l.scan, l.asked) → Matches w (scan_ended (record c { asked = q }) q) l
ended_law c None a over = let h = a.parts in record {
  parts = record {
    settings = h.settings;
    count = h.count;
    transports = h.transports;
    mode = h.mode;
    clock = h.clock;
    timed = h.timed;
    next_run = h.next_run;
    ignores = h.ignores;
    deferred_follows = h.deferred_follows;
    admitted = h.admitted;
    waiting = h.waiting;
    flights = h.flights;
    memory = h.memory;
    served = h.served;
    unsettled = h.unsettled;
    lines = h.lines;
    sites = h.sites;
    synced = h.synced;
    starts = h.starts;
    active = h.active;
    incoming = h.incoming;
  };
  scan = record { goes_on = over; seen = tt };
}
ended_law {l = l} c (Some r) a over =
    let h = a.parts in
    let walk : new_scan c.clock.seconds r ≡ new_scan l.now r = ap (λ n. new_scan n r) h.clock in
    record {
      parts = record {
        settings = h.settings;
        count = h.count;
        transports = h.transports;
        mode = h.mode;
        clock = h.clock;
        timed = h.timed;
        next_run = h.next_run;
        ignores = h.ignores;
        deferred_follows = h.deferred_follows;
        admitted = h.admitted;
        waiting = h.waiting;
        flights = h.flights;
        memory = h.memory;
        served = h.served;
        unsettled = h.unsettled;
        lines = h.lines;
        sites = h.sites;
        synced = h.synced;
        starts = h.starts;
        active = h.active;
        incoming = h.incoming;
      };
      scan = record { goes_on = ap (λ s. scan_at l.book l.now s None (scan_next l.book s)) walk ∙ live_at l.book l.now (new_scan l.now r) (scan_next l.book (new_scan l.now r)) ∙ over; seen = tt };
    }

looked_case : {w : World} {c : Core} {l : Ledger} (found : Found) (walk : Scan) (o : Option DeferredName) → Matches w c l → c.scan ≡ Some walk → scan_next l.book walk ≡ o →
    scan_at l.book l.now walk c.asked o ≡ (l.scan, l.asked) → found ≡ found_next l o → (b : Bool) → is_nothing found ≡ b →
    Matches w (if b then scan_ended c c.asked else record c { deferred = Known found }) l
looked_case found walk o a s e h f false b = known_law found walk o a s e h f b
looked_case {c = c} found walk None a s e h f true b = ended_law c c.asked a h
looked_case {l = l} found walk (Some n) a s e h f true b = let bad : false ≡ true = sym (some_found l n.due n.id (message_of l.book n.id)) ∙ ap is_nothing (sym f) ∙ b in cc

pub deferred_law : {w : World} {c : Core} {l : Ledger} (found : Found) (walk : Scan) → Matches w c l → c.scan ≡ Some walk → found ≡ found_next l (scan_next l.book walk) → Matches w (looked_at c found) l
deferred_law {c = c} {l = l} found walk a e f =
    looked_case found walk (scan_next l.book walk) a e refl
    (ap (λ (o : Option Scan). scan_after l.book l.now o c.asked) (sym e) ∙ a.scan.goes_on) f (is_nothing found) refl
