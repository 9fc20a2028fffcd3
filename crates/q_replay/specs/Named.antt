-- What a refusal names, whether the host tells its files or not.
use Rattle.std.specs.Prelude.{◌≡◌, ◌<◌, ◌⊎◌, Bool, false, length, List, Some, true, ℕ}
use Rattle.q_engine.specs.Heard.{is_moment}
use Rattle.q_engine.specs.Refusals.{refused_by}
use Rattle.q_engine.specs.declared.engine.Engine.{Engine}
use Rattle.q_engine.specs.declared.error.EngineError.{EngineError}
use Rattle.q_events.specs.declared.list_item.ListItem.{ListItem}
use Rattle.q_events.specs.declared.list_item.ListItem.TheVariants.{End, Restart, Step}
use Rattle.q_model.specs.declared.event.Event.{Event}
use Rattle.q_model.specs.declared.event.Event.TheVariants as events
use Rattle.q_model.specs.declared.limits.Bound.{Bound}
use Rattle.q_model.specs.declared.limits.Bound.TheVariants as bounds
use Rattle.q_model.specs.declared.spot.Area.{Area}
use Rattle.q_model.specs.Values.{Receiver}
use Rattle.q_replay.specs.Listings.{bad, gives, Listing, past_limit}
use Rattle.q_replay.specs.Takings.{replay_error}
use Rattle.q_replay.specs.declared.error.ReplayError.{ReplayError}
use Rattle.q_replay.specs.declared.error.ReplayError.TheVariants as errors
use Rattle.q_restart.specs.Judgements.{IsRefusalOfSome}
use Rattle.q_restart.specs.declared.error.OpenError.TheVariants as open_errors

-- A damage, and that no generation is left, are what some names of boot and some files of the queues
-- show. No list asks for more deliveries than a life may begin.
abbrev pub IsNamed : ReplayError → Type 0
IsNamed (errors.Damaged area name) = IsRefusalOfSome (open_errors.Damaged area name)
IsNamed (errors.Limit bounds.Generation) = IsRefusalOfSome open_errors.Spent
IsNamed (errors.Limit bounds.Deliveries) = ⊥
IsNamed _ = Unit {0}

-- it is one of the host, or one of its files
abbrev pub is_of_host : ReplayError → Bool
is_of_host errors.Disk = true
is_of_host errors.Tell = true
is_of_host errors.NoMemory = true
is_of_host (errors.Unreadable area name) = true
is_of_host _ = false

-- No life began: by a fault of the host, or as some names of boot and some files of the queues show.
abbrev pub IsUnbegun : ReplayError → Type 0
IsUnbegun error = (is_of_host error ≡ true)
    ⊎ ((area : Area) × (name : List ℕ) × (error ≡ errors.Damaged area name)
    × IsRefusalOfSome (open_errors.Damaged area name))
    ⊎ ((error ≡ errors.Limit bounds.Generation) × IsRefusalOfSome open_errors.Spent)

-- An event in this line is refused for a fault of the host, or by what the engine keeps.
abbrev pub IsRefusedBy : ℕ → Engine → Event → ReplayError → Type 0
IsRefusedBy line engine event error = (is_of_host error ≡ true)
    ⊎ ((why : EngineError) × (refused_by engine event ≡ Some why) × (error ≡ replay_error line why))

-- Of a letter only its length and the number of its recipients are judged: no event of it is bad.
abbrev pub IsLetterRefusal : List Receiver → List ℕ → ReplayError → Type 0
IsLetterRefusal to content (errors.BadEvent line) = ⊥
IsLetterRefusal to content errors.Source = ⊥
IsLetterRefusal to content (errors.Limit bounds.Content) = 10240000 < length content
IsLetterRefusal to content (errors.Limit bounds.Recipients) = 50000 < length to
IsLetterRefusal to content (errors.Limit bounds.Input) = ⊥
IsLetterRefusal to content (errors.Limit bounds.Deliveries) = ⊥
IsLetterRefusal to content error = IsNamed error

-- No list is read to deliver; a life may have begun as many deliveries as it can.
abbrev pub IsDeliveryRefusal : ReplayError → Type 0
IsDeliveryRefusal (errors.BadEvent line) = ⊥
IsDeliveryRefusal errors.Source = ⊥
IsDeliveryRefusal (errors.Limit bounds.Content) = ⊥
IsDeliveryRefusal (errors.Limit bounds.Recipients) = ⊥
IsDeliveryRefusal (errors.Limit bounds.Serial) = ⊥
IsDeliveryRefusal (errors.Limit bounds.Input) = ⊥
IsDeliveryRefusal (errors.Limit bounds.Deliveries) = Unit {0}
IsDeliveryRefusal error = IsNamed error

-- an event that may be refused: each but a moment
abbrev pub MayBeRefused : ListItem → Type 0
MayBeRefused (Step event line) = is_moment event ≡ false
MayBeRefused Restart = ⊥
MayBeRefused End = ⊥

-- The event passes the limit: it is a message with more than that allows; of serials, any message may.
abbrev pub Passes : Event → Bound → Type 0
Passes (events.Mail sender to content) bounds.Content = 10240000 < length content
Passes (events.Mail sender to content) bounds.Recipients = 50000 < length to
Passes (events.Mail sender to content) bounds.Serial = Unit {0}
Passes event bound = ⊥

-- the item passes it, or begins a life beyond the last generation
abbrev pub ItemPasses : ListItem → Bound → Type 0
ItemPasses (Step event line) bound = Passes event bound
ItemPasses Restart bound = bound ≡ bounds.Generation
ItemPasses End bound = ⊥

-- An item in this line is refused: it is a bad event, or passes a limit.
abbrev pub BlamesItem : ListItem → ℕ → ReplayError → Type 0
BlamesItem item line (errors.BadEvent n) = (n ≡ line) × MayBeRefused item
BlamesItem item line (errors.Limit bound) = ItemPasses item bound
BlamesItem item line error = Unit {0}

-- This line of the list is at fault: it is none that may stand there, or an event that may be refused.
abbrev pub IsAtFault : ℕ → Listing → Type 0
IsAtFault n (gives item m more) = ((n ≡ m) × MayBeRefused item) ⊎ IsAtFault n more
IsAtFault n (bad m) = n ≡ m
IsAtFault n past_limit = ⊥

-- an item of the list passes the limit, or the list does by its length
abbrev pub ListPasses : Listing → Bound → Type 0
ListPasses (gives item m more) bound = ItemPasses item bound ⊎ ListPasses more bound
ListPasses (bad m) bound = ⊥
ListPasses past_limit bound = bound ≡ bounds.Input

-- A bad event is a line of the list that is at fault. A limit is passed by the list, or by the first life.
abbrev pub BlamesList : Listing → ReplayError → Type 0
BlamesList said (errors.BadEvent n) = IsAtFault n said
BlamesList said (errors.Limit bound) = (bound ≡ bounds.Generation) ⊎ ListPasses said bound
BlamesList said error = Unit {0}
