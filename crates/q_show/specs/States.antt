-- How recipients stand, by the positions that are pending and the failure log.
use Rattle.std.specs.BTreeMap.{BTreeMap, get}
use Rattle.std.specs.List.{list_any}
use Rattle.std.specs.Option.{option_map_or}
use Rattle.std.specs.Ordering.{nat_cmp}
use Rattle.std.specs.Prelude.{◌<◌, ◌==◌, ◌≡◌, find, if◌then◌else◌, length, List, None, Option, Some, unwrap_or, ℕ}
use Rattle.q_model.specs.declared.outcome.Failure.{Failure}
use Rattle.q_model.specs.declared.outcome.Note.{Note}
use Rattle.q_model.specs.Message.{Message}
use Rattle.q_show.specs.declared.states.State.{State}
use Rattle.q_show.specs.declared.states.State.TheVariants as states
use Rattle.q_show.specs.Shown.{state_at}

-- a position that is pending, with its code
abbrev pub waiting : (ℕ → Option ℕ) → List ℕ → ℕ → Option State
waiting code positions position =
    if list_any (λ p. p == position) positions then Some (states.Pending (code position)) else None

-- the first failure of a position counts before all else
abbrev pub failed_or : List Failure → Option State → ℕ → Option State
failed_or failures other position = option_map_or (λ f. Some (states.Failed f.why f.code))
    (find (λ f. f.position == position) failures) other

-- how a position stands; it is done where nothing is said of it
abbrev pub state_in : BTreeMap ℕ State → ℕ → State
state_in kept position = unwrap_or (get nat_cmp kept position) states.Done

-- of each position of the message it is said how it stands
abbrev pub AreStates : List Note → Message → BTreeMap ℕ State → Type 0
AreStates notes m kept = (position : ℕ) → position < length m.recipients
    → state_in kept position ≡ state_at notes m position
