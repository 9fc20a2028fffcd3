-- What contracts see of a host in memory: what was done to it, its faults, and which calls fail.
use Rattle.std.specs.Prelude.{◌++◌, ◌∷◌, List, []}
use Rattle.q_host.specs.Faults.{Faults}
use Rattle.q_host.specs.View.{View}
use Rattle.q_mem_host.specs.Event.{Event}
use Rattle.q_mem_host.specs.Left.{view_of}
use Rattle.q_mem_host.specs.Plans.{Plan, no_plan}

pub record Memo : Type 0 where
  pub history : List Event
  pub faults : Faults
  pub plan : Plan

-- nothing was done
abbrev pub new_memo : Memo
new_memo = record { history = []; faults = record { disk = 0; tell = 0 }; plan = no_plan }

-- one event more
abbrev pub with_event : Event → Memo → Memo
with_event e m = record { history = m.history ++ e ∷ []; faults = m.faults; plan = m.plan }

-- another plan
abbrev pub with_plan : Plan → Memo → Memo
with_plan p m = record { history = m.history; faults = m.faults; plan = p }

-- what is told before and after has this relation
abbrev pub ByViews : (View → View → Type 0) → Memo → Memo → Type 0
ByViews R before after = R (view_of before.history) (view_of after.history)
