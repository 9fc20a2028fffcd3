-- What a look says of a file, and how the file is taken in.
use Rattle.std.specs.Prelude.{◌^◌, ◌<◌, Bool, ◌&&◌, ◌-◌, false, if◌then◌else◌, nat_lt, None, not, Option, Some, true, ℕ}
use Rattle.q_model.specs.declared.id.Id.{Id}
use Rattle.q_model.specs.declared.rows.Place.{Place}
use Rattle.q_model.specs.declared.rows.Place.TheVariants as places
use Rattle.q_model.specs.Ids.{id_eq}
use Rattle.q_core.specs.declared.decision.Decision.{Decision}
use Rattle.q_core.specs.declared.decision.FileFacts.{FileFacts}
use Rattle.q_core.specs.declared.decision.Found.{Found}
use Rattle.q_core.specs.declared.decision.Decision.TheVariants.{Admit, Corrupt}
use Rattle.q_core.specs.declared.decision.Found.TheVariants.{Damaged, Nothing, Whole}
use Rattle.q_core.specs.declared.state.Seen.{Seen}
use Rattle.q_core.specs.declared.state.Seen.TheVariants.{Known, Unknown}

-- it has failures and a sender, and is no bounce itself
abbrev pub file_wants_bounce : FileFacts → Id → Bool
file_wants_bounce f id = nat_lt 0 f.failures && not f.null_sender && not id.bounce

-- so many are pending, where none is logged and not marked
abbrev pub file_pending : FileFacts → ℕ
file_pending f = f.recipients - f.marked

-- there is no file
abbrev pub is_nothing : Found → Bool
is_nothing Nothing = true
is_nothing (Damaged id due alone) = false
is_nothing (Whole id due f) = false

-- a damaged file was found
abbrev pub is_damaged : Found → Bool
is_damaged Nothing = false
is_damaged (Damaged id due alone) = true
is_damaged (Whole id due f) = false

-- the place in deferred that the name says
abbrev pub deferred_place : Found → Place
deferred_place Nothing = places.Deferred 0
deferred_place (Damaged id due alone) = places.Deferred due
deferred_place (Whole id due f) = places.Deferred due

-- a file at this place that stands alone is admitted, or goes to corrupt where it is damaged
abbrev pub picked_decision : Place → Found → Option Decision
picked_decision place Nothing = None
picked_decision place (Damaged id due alone) = if alone then Some (Corrupt id place) else None
picked_decision place (Whole id due f) = if f.alone then Some (Admit id place) else None

-- of the files that incoming and deferred give, that of the queue that follows
abbrev pub picked : Bool → Found → Found → Found
picked deferred_follows i d = if is_nothing i then d
    else (if is_nothing d then i else (if deferred_follows then d else i))

-- where it stands
abbrev pub picked_place : Bool → Found → Found → Place
picked_place deferred_follows i d = if is_nothing i then deferred_place d
    else (if is_nothing d then places.Incoming
    else (if deferred_follows then deferred_place d else places.Incoming))

-- what is done with it
abbrev pub picked_next : Bool → Found → Found → Option Decision
picked_next deferred_follows i d = picked_decision (picked_place deferred_follows i d)
    (picked deferred_follows i d)

-- a look has shown the damaged file of this id
abbrev pub shows_damaged : Seen → Id → Bool
shows_damaged Unknown id = false
shows_damaged (Known Nothing) id = false
shows_damaged (Known (Whole found due f)) id = false
shows_damaged (Known (Damaged found due alone)) id = id_eq found id

-- the due moment of its name has 12 digits at most
abbrev pub IsDated : Found → Type 0
IsDated Nothing = Unit {0}
IsDated (Damaged id due alone) = due < 10 ^ 12
IsDated (Whole id due f) = due < 10 ^ 12

-- the same of what a look has shown
abbrev pub IsSeenDated : Seen → Type 0
IsSeenDated Unknown = Unit {0}
IsSeenDated (Known found) = IsDated found
