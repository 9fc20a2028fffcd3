-- A drain through poll after poll.
use Rattle.std.proofs.Common.{◌≡◌, ℕ, List, [], ◌++◌, length, Option, refl, sym, ap, ◌∙◌, subst, append-nil, append_assoc}
use Rattle.q_agent.specs.Sessions.{Sessions}
use Rattle.q_books.specs.HostStands.{TellsCrashes}
use Rattle.q_drain.proofs.GivingUp.{gives_up_later, gives_up_looking}
use Rattle.q_drain.proofs.NextPolls.{adds_looked}
use Rattle.q_drain.proofs.Requested.{gives_up}
use Rattle.q_drain.specs.GivenUp.{GivesUp}
use Rattle.q_drain.specs.Opened.{IsServing}
use Rattle.q_drain.specs.Served.{FilledUp, MayServe, ServedOn}
use Rattle.q_drain.specs.Standing.{Outside}
use Rattle.q_drain.specs.Stories.{Story}
use Rattle.q_drain.specs.Told.{Begun}
use Rattle.q_drain.specs.Waits.{Sweeps, idle}
use Rattle.q_drain.specs.declared.poll.Served.{Served}
use Rattle.q_drain.proofs.Noting.{adds_then}
use Rattle.q_engine.specs.KeptNotes.{AddsAllNotes}
use Rattle.q_entries.proofs.Playing.{plays_none, plays_then, reads_none}
use Rattle.q_entries.specs.Runs.{PlaysRun}
use Rattle.q_host.specs.View.{View as HostView}
use Rattle.q_host.specs.declared.error.HostError.{HostError}
use Rattle.q_link.specs.Records.{HopsView}
use Rattle.q_model.proofs.RunLaws.{after_all-append}
use Rattle.q_model.specs.declared.entry.Entry.{Entry}
use Rattle.q_model.specs.declared.rows.Delivery.{Delivery}
use Rattle.q_model.specs.Ledger.{Ledger}
use Rattle.q_model.specs.Settings.{World}
use Rattle.q_model.specs.Step.{after_all}

-- nothing was done yet
pub served_none : (w : World) (l : Ledger) (a z : Outside) (u : HostView) (served : Served) (agent : Sessions) (early : List Begun) (fs : List Delivery) (s : Story)
    → TellsCrashes u → length early ≡ served.known → Sweeps (idle served.busy) s → IsServing w l a z u served.engine agent early [] fs s → ServedOn w l a z u u served agent [] s
served_none w l a z u served agent early fs s lawful known sweeps h = record {
  entries_told = [];
  early = early;
  flights = fs;
  story = s;
  told = sym (append-nil s.told);
  moments = sym (append-nil s.moments);
  rests = refl;
  plays = plays_none w (after_all w l s.told) u lawful h.under_way.stands.host;
  adds = adds_looked w (after_all w l s.told) u u refl;
  known_is = known;
  sweeps = sweeps;
  serving = h;
}

-- what was told, behind what was told before
pub plays_on : (w : World) (l : Ledger) (s r : Story) (es fs : List Entry) (u v x : HostView) → r.told ≡ s.told ++ es → PlaysRun w (after_all w l s.told) es u v → PlaysRun w (after_all w l r.told) fs v x → PlaysRun w (after_all w l s.told) (es ++ fs) u x
plays_on w l s r es fs u v x told p q =
    plays_then w (after_all w l s.told) es fs u v x p (subst (λ (m : Ledger). PlaysRun w m fs v x) (ap (after_all w l) told ∙ after_all-append w l s.told es) q)

pub told_on : (s r t : Story) (es fs : List Entry) → r.told ≡ s.told ++ es → t.told ≡ r.told ++ fs → t.told ≡ s.told ++ (es ++ fs)
told_on s r t es fs first later = later ∙ ap (λ (xs : List Entry). xs ++ fs) first ∙ append_assoc s.told es fs

module _ (w : World) (l : Ledger) (a z y : Outside) (u v x : HostView) (served : Served) (agent : Sessions) (ms : List ℕ) (s : Story) (m : ServedOn w l a z u v served agent ms s) where
  -- more polls
  abbrev pub served_then : (next : Served) (new : Sessions) → ServedOn w l a y v x next new [] m.story → ServedOn w l a y u x next new ms s
  served_then next new n = record {
    entries_told = m.entries_told ++ n.entries_told;
    early = n.early;
    flights = n.flights;
    story = n.story;
    told = told_on s m.story n.story m.entries_told n.entries_told m.told n.told;
    moments = n.moments ∙ append-nil m.story.moments ∙ m.moments;
    rests = n.rests ∙ m.rests;
    plays = plays_on w l s m.story m.entries_told n.entries_told u v x m.told m.plays n.plays;
    adds = adds_then w (after_all w l s.told) m.entries_told n.entries_told u.files v.files x.files m.adds
        (subst (λ (k : Ledger). AddsAllNotes w k n.entries_told v.files x.files) (ap (after_all w l) m.told ∙ after_all-append w l s.told m.entries_told) n.adds);
    known_is = n.known_is;
    sweeps = n.sweeps;
    serving = n.serving;
  }

  -- the last of which found no number left
  pub filled_then : FilledUp w l a y v x m.story → FilledUp w l a y u x s
  filled_then n = record {
    entries_told = m.entries_told ++ n.entries_told;
    plays = plays_on w l s m.story m.entries_told n.entries_told u v x m.told m.plays n.plays;
    story = n.story;
    told = told_on s m.story n.story m.entries_told n.entries_told m.told n.told;
    own = n.own;
    full = n.full;
    clocked = n.clocked;
    connected = n.connected;
    gave_up = n.gave_up;
  }

  -- or was given up
  pub fails_then : (error : HostError) → GivesUp w l a y v x error m.story → GivesUp w l a y u x error s
  fails_then error g = gives_up_later w l a y u v x error s m.story m.entries_told m.told m.plays g

-- the next poll may be made
pub may_serve : (clock : Option (List ℕ)) (u v : HostView) (hops next_hops : HopsView) (served next : Served) (agent new : Sessions) → (h : MayServe clock u hops served agent)
    → ServedOn h.world h.ledger h.first (record { clock = clock; hops = next_hops }) u v next new [] h.story → MayServe clock v next_hops next new
may_serve clock u v hops next_hops served next agent new h m = record {
  world = h.world;
  ledger = h.ledger;
  first = h.first;
  early = m.early;
  flights = m.flights;
  story = m.story;
  known_is = m.known_is;
  sweeps = m.sweeps;
  serving = m.serving;
}

-- no poll more is made
pub stops_serving : (w : World) (l : Ledger) (a z : Outside) (v : HostView) (served : Served) (agent : Sessions) (early : List Begun) (fs : List Delivery) (s : Story) (error : HostError)
    → TellsCrashes v → IsServing w l a z v served.engine agent early [] fs s → GivesUp w l a z v v error s
stops_serving w l a z v served agent early fs s error lawful h =
    gives_up_looking w l a z v v error s s h.under_way.driving.course.run lawful h.under_way.stands.host (reads_none (after_all w l s.told).book v lawful h.under_way.stands.host) refl
    (gives_up w l a z v served.engine agent early [] fs s h)
