-- Which items of an event list are taken, and how the list ends.
use Rattle.std.specs.Option.{option_map_or}
use Rattle.std.specs.Prelude.{◌-◌, ◌^◌, ◌++◌, [], Bool, if◌then◌else◌, List, nat_lt, None, not, Option, Some, ◌∷◌, ℕ}
use Rattle.q_engine.specs.Refusals.{refused_event}
use Rattle.q_engine.specs.declared.error.EngineError.{EngineError}
use Rattle.q_engine.specs.declared.error.EngineError.TheVariants as errors
use Rattle.q_model.specs.declared.limits.Bound.{Bound}
use Rattle.q_model.specs.declared.limits.Bound.TheVariants.{Generation, Input}
use Rattle.q_events.specs.declared.list_item.ListItem.{ListItem}
use Rattle.q_events.specs.declared.list_item.ListItem.TheVariants.{End, Restart, Step}
use Rattle.q_events.specs.Readings.{is_list_end}
use Rattle.q_model.specs.Book.{Book}
use Rattle.q_model.specs.Ledger.{Ledger, opening}
use Rattle.q_model.specs.Run.{turn}
use Rattle.q_model.specs.Settings.{World}
use Rattle.q_model.specs.Step.{after_all}
use Rattle.q_model.specs.declared.event.LifeEvent.{LifeEvent}
use Rattle.q_model.specs.declared.event.LifeEvent.TheVariants.{Begin, Finish, Heard}
use Rattle.q_model.specs.declared.event.Mode.TheVariants.{Deliver}
use Rattle.q_replay.specs.Listings.{bad, gives, Listing, listing_of, past_limit}

-- the items through `end`; those before the line that can't be taken, and its number; or those
-- before a limit is reached
pub data TakenItems : Type 0 where
  ended : List LifeEvent → TakenItems
  faulty : List LifeEvent → ℕ → TakenItems
  limited : List LifeEvent → Bound → TakenItems

-- what an item of the list is to the ledger
abbrev pub event_of : ListItem → LifeEvent
event_of (Step event line) = Heard event
event_of Restart = Begin
event_of End = Finish

-- the last generation there is was opened
abbrev pub is_spent : Ledger → Bool
is_spent l = not (nat_lt l.book.generation (2 ^ 32 - 1))

-- why an item is refused: an event by the rules of events, a life where no generation is left
abbrev pub refusal_at : Ledger → ListItem → Option EngineError
refusal_at l (Step event line) = refused_event l event
refusal_at l Restart = if is_spent l then Some (errors.Limit Generation) else None
refusal_at l End = None

-- how a list ends at an item that is refused, which stands in this line
abbrev pub refused_in : ℕ → EngineError → TakenItems
refused_in line (errors.Limit bound) = limited [] bound
refused_in line _ = faulty [] line

-- these items, and then what follows
abbrev pub reading_behind : List LifeEvent → TakenItems → TakenItems
reading_behind items (ended more) = ended (items ++ more)
reading_behind items (faulty more n) = faulty (items ++ more) n
reading_behind items (limited more bound) = limited (items ++ more) bound

-- the item, and what follows where it isn't the end
abbrev pub behind_item : ListItem → TakenItems → TakenItems
behind_item item rest =
    if is_list_end item then ended (event_of item ∷ []) else reading_behind (event_of item ∷ []) rest

-- which items of a list are taken, where the ledger is what the items before it led to
unfoldable pub read_items : World → Ledger → Listing → TakenItems
read_items w l (gives item n more) =
    option_map_or (refused_in n) (refusal_at l item)
    (behind_item item (read_items w (after_all w l (turn w l (event_of item))) more))
read_items w l (bad n) = faulty [] n
read_items w l past_limit = limited [] Input

-- Which items of a text are taken, where the spool stands for the book: first a life begins, as at a
-- `restart`.
abbrev pub read_text : World → Book → List ℕ → TakenItems
read_text w b bytes = read_items w (opening Deliver b) (gives Restart 0 (listing_of bytes))

-- the items that are taken, as far as the text goes
abbrev pub items_in : TakenItems → List LifeEvent
items_in (ended items) = items
items_in (faulty items line) = items
items_in (limited items bound) = items
