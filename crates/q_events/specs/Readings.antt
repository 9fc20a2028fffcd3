-- What a call gives of the bytes that are left of an event list.
use Rattle.std.specs.List.{list_all}
use Rattle.std.specs.Prelude.{◌+◌, ◌++◌, ◌≡◌, Bool, Err, false, if◌then◌else◌, IfSome, List, Ok, Option, Result, Some, true, ℕ}
use Rattle.q_events.specs.EventList.{bad, first_item, found, leads, past_limit, FirstItem}
use Rattle.q_events.specs.States.{EventsState}
use Rattle.q_lines.specs.States.{text_left}
use Rattle.q_lines.specs.TextLines.{is_in_line, lines_from, TextLine}
use Rattle.q_model.specs.declared.limits.Bound.TheVariants.{Input}
use Rattle.q_events.specs.declared.error.EventError.{EventError}
use Rattle.q_events.specs.declared.error.EventError.TheVariants as errors
use Rattle.q_events.specs.declared.list_item.ListItem.{ListItem}
use Rattle.q_events.specs.declared.list_item.ListItem.TheVariants as items

-- What stands first in these bytes. Behind `end` nothing is looked at, and the answer stays.
abbrev pub reading : EventsState → List ℕ → FirstItem
reading e bytes =
    if e.ended then found items.End e.lines (lines_from e.budget bytes)
    else first_item (e.lines + 1) (lines_from e.budget bytes)

-- the item is the end of the list
abbrev pub is_list_end : ListItem → Bool
is_list_end (items.Step event line) = false
is_list_end items.Restart = false
is_list_end items.End = true

-- The source stopped before an item: the lines that were taken whole are passed over or of content, and what
-- was taken behind them has no end.
abbrev pub StopsBefore : EventsState → Option (List ℕ) → Option (List ℕ) → Type 0
StopsBefore e old source =
    IfSome old (λ bytes. (lines : List TextLine) × (budget : ℕ) × (part : List ℕ) × (rest : List ℕ)
    × (source ≡ Some rest) × (lines_from e.budget bytes ≡ lines ++ lines_from budget (part ++ rest))
    × (list_all leads lines ≡ true) × (is_in_line part ≡ true))

-- A call gives what stands first in the bytes that are left, `old`; behind an item `new` is left, and its
-- lines are those behind the item.
abbrev pub GivesItem : EventsState → Option (List ℕ) → EventsState → Option (List ℕ) → Option (List ℕ)
    → Result ListItem EventError → Type 0
GivesItem e old e' new source (Ok item) =
    IfSome old (λ bytes. (rest : List ℕ) × (new ≡ Some rest)
    × (reading e bytes ≡ found item e'.lines (lines_from e'.budget rest)))
GivesItem e old e' new source (Err (errors.BadEvent line)) = IfSome old (λ bytes. reading e bytes ≡ bad line)
GivesItem e old e' new source (Err (errors.Limit bound)) =
    (bound ≡ Input) × IfSome old (λ bytes. reading e bytes ≡ past_limit)
GivesItem e old e' new source (Err errors.Source) = StopsBefore e old source
GivesItem e old e' new source (Err errors.NoMemory) = Unit {0}

-- the same, by what is buffered and what the source has
abbrev pub Reads : EventsState → Option (List ℕ) → EventsState → Option (List ℕ) → Result ListItem EventError
    → Type 0
Reads e old e' new result =
    GivesItem e (text_left e.buffered old) e' (text_left e'.buffered new) new result

-- the reader gives no item any more: its list may have no byte more, and `end` wasn't among its lines
abbrev pub GivesNoMore : EventsState → Type 0
GivesNoMore e = (e.budget ≡ 0) × (e.ended ≡ false)
