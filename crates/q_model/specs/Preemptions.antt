-- Entry `preempt`: a job goes before the current one (SCHEDULER_README, "Preemptive scheduling").
use Rattle.std.specs.List.{enumerate_from}
use Rattle.std.specs.Option.{option_map_or}
use Rattle.std.specs.Prelude.{◌&&◌, ◌==◌, [], Bool, false, filter, if◌then◌else◌, List, map, not, ℕ, ◌∷◌}
use Rattle.q_model.specs.declared.id.Id.{Id}
use Rattle.q_model.specs.Accounts.{job_left}
use Rattle.q_model.specs.Candidates.{best}
use Rattle.q_model.specs.Ids.{id_eq}
use Rattle.q_model.specs.Ledger.{Ledger}
use Rattle.q_model.specs.Settings.{World}
use Rattle.q_model.specs.Startable.{current}

-- the id is the transport's current job
abbrev pub is_current : World → Ledger → ℕ → Id → Bool
is_current w l transport id = option_map_or (λ c. id_eq c id) (current w l transport) false

-- the id is the best candidate
abbrev pub is_best : World → Ledger → ℕ → Id → Id → Bool
is_best w l transport parent id = option_map_or (λ b. id_eq b id) (best w l transport parent) false

-- the best candidate preempts the current job, at its need
abbrev pub may_preempt : World → Ledger → Id → Id → ℕ → ℕ → Bool
may_preempt w l child parent transport need =
    is_current w l transport parent && is_best w l transport parent child && (need == job_left l child transport)

-- the id stands just before the other
abbrev pub put_before : Id → Id → List Id → List Id
put_before child parent [] = []
put_before child parent (x ∷ xs) = if id_eq x parent then child ∷ x ∷ xs else x ∷ put_before child parent xs

-- a line with one job put before another
abbrev pub preempt_line : Id → Id → ℕ → (ℕ × List Id) → List Id
preempt_line child parent transport line = if line.0 == transport
    then put_before child parent (filter (λ x. not (id_eq x child)) line.1) else line.1

-- the child stands just before its parent
abbrev pub after_preempt : Ledger → Id → Id → ℕ → Ledger
after_preempt l child parent transport =
    record l { lines = map (preempt_line child parent transport) (enumerate_from 0 l.lines) }
