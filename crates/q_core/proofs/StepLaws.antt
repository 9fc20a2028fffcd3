-- How agreement goes on from step to step.
use Rattle.std.proofs.Common.{◌≡◌, ℕ, ◌+◌, Bool, true, false, List, map, refl, sym, ap, ◌∙◌, subst, Option, Some, None, IsTrue}
use Rattle.std.specs.Prelude.{◌||◌, nat_le, if◌then◌else◌, is_none}
use Rattle.q_core.specs.Agrees.{Matches, AgreesButScan, IsScan, IsSeenScan, found_deferred}
use Rattle.q_core.specs.Changes.{IsWoken, asked_scan, asked_when_due, is_known, is_looked_at, request_by}
use Rattle.q_core.specs.UsedSites.{busy_in, wake_due_in}
use Rattle.q_core.specs.Scanning.{scan_after, scan_at}
use Rattle.q_core.specs.declared.state.Core.{Core}
use Rattle.q_core.specs.declared.state.Seen.{Seen}
use Rattle.q_core.specs.declared.state.Seen.TheVariants.{Known, Unknown}
use Rattle.q_model.specs.Book.{Book}
use Rattle.q_model.specs.Clock.{woken}
use Rattle.q_model.specs.Ledger.{Ledger}
use Rattle.q_model.specs.Revival.{is_due, wake_due, rest_ended}
use Rattle.q_model.specs.Routes.{world_without_table}
use Rattle.q_model.specs.Scans.{ask_scan, joined_request, scan_next}
use Rattle.q_model.specs.Settings.{Settings, World}
use Rattle.q_model.specs.Values.{SiteRecord}
use Rattle.q_model.specs.Windows.{revived}
use Rattle.q_model.specs.declared.rows.DeferredName.{DeferredName}
use Rattle.q_model.specs.declared.rows.Delivery.{Delivery}
use Rattle.q_model.specs.declared.rows.Request.{Request}
use Rattle.q_model.specs.declared.rows.Scan.{Scan}

-- the scan that was looked at still stands
abbrev pub IsStillSeen : Seen → Ledger → Type 0
IsStillSeen Unknown l = Unit {0}
IsStillSeen (Known found) l = (found ≡ found_deferred l) × (scan_after l.book l.now l.scan l.asked ≡ (l.scan, l.asked))

-- agreement before the ledger is tidied
pub record HoldsRaw (w : World) (c : Core) (l : Ledger) : Type 0 where
  pub parts : AgreesButScan w c l
  pub scan : c.scan ≡ l.scan
  pub asked : c.asked ≡ l.asked
  pub seen : IsStillSeen c.deferred l

-- a scan that goes on does so at any moment, and with any request
scan_stays : (b : Book) (n m : ℕ) (s : Scan) (q r : Option Request) (o : Option DeferredName) → scan_at b n s q o ≡ (Some s, q) → scan_at b m s r o ≡ (Some s, r)
scan_stays b n m s q r (Some x) h = refl
scan_stays b n m s None r None h = let bad : ◌≡◌ {A = Option Scan} None (Some s) = ap (λ (p : Option Scan × Option Request). p.0) h in cc
scan_stays b n m s (Some x) r None h = let bad : ◌≡◌ {A = Option Request} None (Some x) = ap (λ (p : Option Scan × Option Request). p.1) h in cc

pub stays_at : (b : Book) (n m : ℕ) (s : Option Scan) (q : Option Request) → scan_after b n s q ≡ (s, q) → scan_after b m s q ≡ (s, q)
stays_at b n m None q h = refl
stays_at b n m (Some s) q h = scan_stays b n m s q q (scan_next b s) h

-- where the next name was looked at, the core's scan is the ledger's
looked_parts : (o : Option Scan) (q : Option Request) (seen : Seen) (l : Ledger) → scan_after l.book l.now o q ≡ (l.scan, l.asked) →
    IsSeenScan seen o q l → IsTrue (is_none o || is_known seen) → (o ≡ l.scan) × (q ≡ l.asked) × IsStillSeen seen l
looked_parts o q (Known found) l h s t = (
  s.0,
  s.1,
  (
    s.2,
    ap (λ x. scan_after l.book l.now x l.asked) (sym s.0) ∙ ap (scan_after l.book l.now o) (sym s.1) ∙ h,
  ),
)
looked_parts None q Unknown l h s t = (ap (λ (p : Option Scan × Option Request). p.0) h, ap (λ (p : Option Scan × Option Request). p.1) h, tt)
looked_parts (Some x) q Unknown l h s t = cc

looked : {c : Core} {l : Ledger} → IsScan c l → IsTrue (is_looked_at c) → (c.scan ≡ l.scan) × (c.asked ≡ l.asked) × IsStillSeen c.deferred l
looked {c = c} {l = l} scan t = looked_parts c.scan c.asked c.deferred l scan.goes_on scan.seen t

still_later : (seen : Seen) (l : Ledger) (t : ℕ) (b : Bool) (sites : List SiteRecord) → IsStillSeen seen l → IsStillSeen seen (record l { now = t; timed = b; sites = sites })
still_later Unknown l t b sites h = tt
still_later (Known found) l t b sites h = (h.0, stays_at l.book l.now t l.scan l.asked h.1)

pub wake_law : {w : World} {c d : Core} {l : Ledger} {t : ℕ} → Matches w c l → IsTrue (is_looked_at c) → IsWoken c d t →
    HoldsRaw w d (woken w l t)
wake_law {w = w} {c = c} {d = d} {l = l} {t = t} a t' wakes =
    let h = a.parts in
    let scan = looked a.scan t' in
    let sites : d.sites ≡ wake_due w (record l { now = t }) =
    wakes.sites
    ∙ ap (λ (fs : List Delivery). map (wake_due_in c.params fs t) c.sites) h.flights
    ∙ ap (map (wake_due_in c.params l.flights t)) h.sites
    ∙ ap (λ (s : Settings). map (λ (r : SiteRecord). rest_ended t (if is_due t r.health then revived (world_without_table s) (busy_in l.flights r.site) r else r)) l.sites) h.settings in
    let later : Ledger = woken w l t in
    let kept : AgreesButScan w (record c { clock = d.clock; timed = true; sites = d.sites }) later = record {
      settings = h.settings;
      count = h.count;
      transports = h.transports;
      mode = h.mode;
      clock = wakes.seconds;
      timed = refl;
      next_run = h.next_run;
      ignores = h.ignores;
      deferred_follows = h.deferred_follows;
      admitted = h.admitted;
      waiting = h.waiting;
      flights = h.flights;
      memory = h.memory;
      served = h.served;
      unsettled = h.unsettled;
      lines = h.lines;
      sites = sites;
      synced = h.synced;
      starts = h.starts;
      active = h.active;
      incoming = h.incoming;
    } in
    let raw : HoldsRaw w (record c { clock = d.clock; timed = true; sites = d.sites }) later =
    record { parts = kept; scan = scan.0; asked = scan.1; seen = still_later c.deferred l t true (wake_due w (record l { now = t })) scan.2 } in
    subst (λ k. HoldsRaw w k later) (sym wakes.rest) raw

-- the ledger, with what the core says of the scan
abbrev by_core : Core → Ledger → Ledger
by_core c l = record l { now = c.clock.seconds; scan = c.scan; asked = c.asked; ignores = c.ignores; next_run = c.next_run }

by_core_is : {w : World} {c : Core} {l : Ledger} → HoldsRaw w c l → by_core c l ≡ l
by_core_is {c = c} {l = l} r =
    ap (λ n. record l { now = n; scan = c.scan; asked = c.asked; ignores = c.ignores; next_run = c.next_run }) r.parts.clock
    ∙ ap (λ s. record l { scan = s; asked = c.asked; ignores = c.ignores; next_run = c.next_run }) r.scan
    ∙ ap (λ q. record l { asked = q; ignores = c.ignores; next_run = c.next_run }) r.asked
    ∙ ap (λ b. record l { ignores = b; next_run = c.next_run }) r.parts.ignores
    ∙ ap (λ n. record l { next_run = n }) r.parts.next_run

still_asked : (seen : Seen) (l : Ledger) (s : Scan) (q : Option Request) → IsStillSeen seen (record l { scan = Some s }) → IsStillSeen seen (record l { scan = Some s; asked = q; ignores = false })
still_asked Unknown l s q h = tt
still_asked (Known found) l s q h = (h.0, scan_stays l.book l.now l.now s l.asked q (scan_next l.book s) h.1)

ask_case : {w : World} (l : Ledger) (c : Core) (o : Option Scan) → HoldsRaw w (record c { scan = o }) (by_core (record c { scan = o }) l) →
    HoldsRaw w (asked_scan (record c { scan = o })) (ask_scan (by_core (record c { scan = o }) l))
ask_case {w = w} l c None r = let h = r.parts in record {
  parts = record {
    settings = h.settings;
    count = h.count;
    transports = h.transports;
    mode = h.mode;
    clock = h.clock;
    timed = h.timed;
    next_run = h.next_run;
    ignores = refl;
    deferred_follows = h.deferred_follows;
    admitted = h.admitted;
    waiting = h.waiting;
    flights = h.flights;
    memory = h.memory;
    served = h.served;
    unsettled = h.unsettled;
    lines = h.lines;
    sites = h.sites;
    synced = h.synced;
    starts = h.starts;
    active = h.active;
    incoming = h.incoming;
  };
  scan = refl;
  asked = refl;
  seen = tt;
}
ask_case {w = w} l c (Some x) r = let h = r.parts in record {
  parts = record {
    settings = h.settings;
    count = h.count;
    transports = h.transports;
    mode = h.mode;
    clock = h.clock;
    timed = h.timed;
    next_run = h.next_run;
    ignores = refl;
    deferred_follows = h.deferred_follows;
    admitted = h.admitted;
    waiting = h.waiting;
    flights = h.flights;
    memory = h.memory;
    served = h.served;
    unsettled = h.unsettled;
    lines = h.lines;
    sites = h.sites;
    synced = h.synced;
    starts = h.starts;
    active = h.active;
    incoming = h.incoming;
  };
  scan = refl;
  asked = refl;
  seen = still_asked c.deferred (by_core c l) x (Some (joined_request c.asked (request_by c.ignores))) r.seen;
}

pub ask_law : {w : World} {c : Core} {l : Ledger} → HoldsRaw w c l → HoldsRaw w (asked_scan c) (ask_scan l)
ask_law {w = w} {c = c} {l = l} r =
    subst (λ k. HoldsRaw w (asked_scan c) (ask_scan k)) (by_core_is r)
    (ask_case {w = w} l c c.scan (subst (λ k. HoldsRaw w c k) (sym (by_core_is r)) r))

still_next : (seen : Seen) (l : Ledger) (n : ℕ) → IsStillSeen seen l → IsStillSeen seen (record l { next_run = n })
still_next Unknown l n h = tt
still_next (Known found) l n h = h

due_case : {w : World} {c : Core} {l : Ledger} → HoldsRaw w c l → (b : Bool) →
    HoldsRaw w (if b then asked_scan (record c { next_run = c.clock.seconds + c.params.run_delay }) else c) (if b then ask_scan (record l { next_run = l.now + w.settings.run_delay }) else l)
due_case {w = w} {c = c} {l = l} r false = r
due_case {w = w} {c = c} {l = l} r true =
    let h = r.parts in
    let moved : HoldsRaw w (record c { next_run = c.clock.seconds + c.params.run_delay }) (record l { next_run = l.now + w.settings.run_delay }) = record {
      parts = record {
        settings = h.settings;
        count = h.count;
        transports = h.transports;
        mode = h.mode;
        clock = h.clock;
        timed = h.timed;
        next_run = (ap (λ n. n + c.params.run_delay) h.clock ∙ ap (λ (x : Settings). l.now + x.run_delay) h.settings);
        ignores = h.ignores;
        deferred_follows = h.deferred_follows;
        admitted = h.admitted;
        waiting = h.waiting;
        flights = h.flights;
        memory = h.memory;
        served = h.served;
        unsettled = h.unsettled;
        lines = h.lines;
        sites = h.sites;
        synced = h.synced;
        starts = h.starts;
        active = h.active;
        incoming = h.incoming;
      };
      scan = r.scan;
      asked = r.asked;
      seen = still_next c.deferred l (l.now + w.settings.run_delay) r.seen;
    } in
    ask_law moved

pub due_law : {w : World} {c : Core} {l : Ledger} → HoldsRaw w c l →
    HoldsRaw w (asked_when_due c) (if nat_le l.next_run l.now then ask_scan (record l { next_run = l.now + w.settings.run_delay }) else l)
due_law {w = w} {c = c} {l = l} r =
    subst (λ b. HoldsRaw w (if b then asked_scan (record c { next_run = c.clock.seconds + c.params.run_delay }) else c) (if nat_le l.next_run l.now then ask_scan (record l { next_run = l.now + w.settings.run_delay }) else l))
    (sym (ap (λ n. nat_le n c.clock.seconds) r.parts.next_run ∙ ap (nat_le l.next_run) r.parts.clock))
    (due_case r (nat_le l.next_run l.now))

-- asking for a scan moves no row
pub record HasRowsOf (l k : Ledger) : Type 0 where
  pub waiting : l.waiting ≡ k.waiting
  pub flights : l.flights ≡ k.flights

ask_rows_at : (l : Ledger) (o : Option Scan) → HasRowsOf l (ask_scan (record l { scan = o }))
ask_rows_at l None = record { waiting = refl; flights = refl }
ask_rows_at l (Some s) = record { waiting = refl; flights = refl }

pub ask_rows : (l : Ledger) → HasRowsOf l (ask_scan l)
ask_rows l = ask_rows_at l l.scan

pub due_rows : (l : Ledger) (n : ℕ) (b : Bool) → HasRowsOf l (if b then ask_scan (record l { next_run = n }) else l)
due_rows l n true = let r = ask_rows (record l { next_run = n }) in record { waiting = r.waiting; flights = r.flights }
due_rows l n false = record { waiting = refl; flights = refl }

-- nothing was changed yet
pub raw_law : {w : World} {c : Core} {l : Ledger} → Matches w c l → IsTrue (is_looked_at c) → HoldsRaw w c l
raw_law a t = let scan = looked a.scan t in record { parts = a.parts; scan = scan.0; asked = scan.1; seen = scan.2 }
