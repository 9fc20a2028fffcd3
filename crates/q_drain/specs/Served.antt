-- A drain polls its open sessions, and what comes of it.
use Rattle.std.specs.Prelude.{◌++◌, ◌^◌, ◌≡◌, ◌≤◌, [], length, List, None, Option, Some, ℕ}
use Rattle.q_agent.specs.Sessions.{Sessions}
use Rattle.q_drain.specs.Drains.{IsOwnRun}
use Rattle.q_drain.specs.GivenUp.{GivesUp}
use Rattle.q_drain.specs.Opened.{GaveUp, IsServing}
use Rattle.q_drain.specs.Standing.{Outside}
use Rattle.q_drain.specs.Stories.{Story}
use Rattle.q_drain.specs.Told.{Begun}
use Rattle.q_drain.specs.Sweeps.{AllConnected, IsClocked}
use Rattle.q_drain.specs.Waits.{Sweeps, idle}
use Rattle.q_drain.specs.declared.poll.Served.{Served}
use Rattle.q_engine.specs.KeptNotes.{AddsAllNotes}
use Rattle.q_entries.specs.Runs.{PlaysRun}
use Rattle.q_host.specs.View.{View as HostView}
use Rattle.q_host.specs.declared.error.HostError.{HostError}
use Rattle.q_link.specs.Records.{HopsView}
use Rattle.q_model.specs.declared.entry.Entry.{Entry}
use Rattle.q_model.specs.declared.rows.Delivery.{Delivery}
use Rattle.q_model.specs.Ledger.{Ledger}
use Rattle.q_model.specs.Past.{starts}
use Rattle.q_model.specs.Settings.{World}
use Rattle.q_model.specs.Step.{after_all}

-- More entries were told, these moments came, and no rest was given: each delivery that began has its session, and where
-- one began or ended in the sweep, the engine's record says so.
pub record ServedOn (w : World) (l : Ledger) (a z : Outside) (u v : HostView) (next : Served) (agent : Sessions) (ms : List ℕ) (s : Story) : Type 0 where
  pub entries_told : List Entry
  pub early : List Begun
  pub flights : List Delivery
  pub story : Story
  pub told : story.told ≡ s.told ++ entries_told
  pub moments : story.moments ≡ s.moments ++ ms
  pub rests : story.rests ≡ s.rests
  pub plays : PlaysRun w (after_all w l s.told) entries_told u v
  pub adds : AddsAllNotes w (after_all w l s.told) entries_told u.files v.files
  pub known_is : length early ≡ next.known
  pub sweeps : Sweeps (idle next.busy) story
  pub serving : IsServing w l a z v next.engine agent early [] flights story

-- Or a session is over, and the life has begun as many deliveries as it may: its link was closed, and
-- its reply isn't told.
pub record FilledUp (w : World) (l : Ledger) (a z : Outside) (u v : HostView) (s : Story) : Type 0 where
  pub entries_told : List Entry
  pub plays : PlaysRun w (after_all w l s.told) entries_told u v
  pub story : Story
  pub told : story.told ≡ s.told ++ entries_told
  pub own : IsOwnRun w l story.told
  pub full : 2 ^ 48 ≤ starts (after_all w l story.told)
  pub clocked : IsClocked story
  pub connected : AllConnected story
  pub gave_up : GaveUp w l a z story

-- of each ledger for which engine, host and sessions stand within a sweep, as clock and hops tell
abbrev pub ForServed : Served → HostView → HopsView → Sessions → (World → Ledger → Outside → Option (List ℕ) → Story → Type 0) → Type 0
ForServed served u hops agent says = (w : World) → (l : Ledger) → (a : Outside) → (clock : Option (List ℕ)) → (early : List Begun) → (fs : List Delivery) → (s : Story)
    → length early ≡ served.known → Sweeps (idle served.busy) s
    → IsServing w l a (record { clock = clock; hops = hops }) u served.engine agent early [] fs s → says w l a clock s

-- it goes on, or there are no numbers left
abbrev pub PollsOn : Served → Option Served → HostView → HostView → HopsView → HopsView → Sessions → Sessions → Type 0
PollsOn served (Some next) u v hops_old hops_new old new = ForServed served u hops_old old
    (λ w l a clock s. ServedOn w l a (record { clock = clock; hops = hops_new }) u v next new [] s)
PollsOn served None u v hops_old hops_new old new = ForServed served u hops_old old
    (λ w l a clock s. FilledUp w l a (record { clock = clock; hops = hops_new }) u v s)

abbrev pub GivesUpServing : Served → HostError → HostView → HostView → HopsView → HopsView → Sessions → Type 0
GivesUpServing served error u v hops_old hops_new old = ForServed served u hops_old old
    (λ w l a clock s. GivesUp w l a (record { clock = clock; hops = hops_new }) u v error s)

-- so it is for some ledger
pub record MayServe (clock : Option (List ℕ)) (v : HostView) (hops : HopsView) (served : Served) (agent : Sessions) : Type 0 where
  pub world : World
  pub ledger : Ledger
  pub first : Outside
  pub early : List Begun
  pub flights : List Delivery
  pub story : Story
  pub known_is : length early ≡ served.known
  pub sweeps : Sweeps (idle served.busy) story
  pub serving : IsServing world ledger first (record { clock = clock; hops = hops }) v served.engine agent early [] flights story
