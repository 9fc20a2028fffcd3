-- What an event list says, item after item.
use Rattle.std.specs.Option.{option_map_or}
use Rattle.std.specs.Prelude.{ℕ, ◌+◌, if◌then◌else◌, List, [], ◌∷◌, ◌++◌, Option, Some, None, option_and_then, option_map}
use Rattle.q_model.specs.declared.event.LifeEvent.TheVariants.{Begin, Heard, Finish}
use Rattle.q_model.specs.declared.event.LifeEvent.{LifeEvent}
use Rattle.q_events.specs.EventList.{command_in, content_of, item_of, leads, meaning, passes_limit}
use Rattle.q_lines.specs.TextLines.{lines_from, TextLine}
use Rattle.q_events.specs.declared.list_item.ListItem.{ListItem}
use Rattle.q_events.specs.declared.list_item.ListItem.TheVariants.{Step, Restart, End}

-- An item with the number of its line, and what the lines behind it say; a line that can't stand
-- there, or the one behind the last where `end` is missing; or the end of the bytes that a list may
-- have.
pub data Listing : Type 0 where
  gives : ListItem → ℕ → Listing → Listing
  bad : ℕ → Listing
  past_limit : Listing

-- what these lines say, of which the first has number n and stands behind this content
unfoldable pub listing : List ℕ → ℕ → List TextLine → Listing
listing content n [] = bad n
listing content n (line ∷ lines) = if leads line
    then listing (content ++ content_of line) (n + 1) lines
    else (if passes_limit line then past_limit
    else option_map_or (λ item. gives item n (listing [] (n + 1) lines))
    (option_and_then (item_of content n) (command_in (meaning line))) (bad n))

-- the lines of an event list, which has at most 2^40 bytes
unfoldable pub lines_of : List ℕ → List TextLine
lines_of bytes = lines_from 1099511627776 bytes

-- what a text says
abbrev pub listing_of : List ℕ → Listing
listing_of bytes = listing [] 1 (lines_of bytes)

-- the items through `end`; what stands behind it is not looked at
abbrev pub listed_items : Listing → Option (List LifeEvent)
listed_items (gives (Step event line) n more) =
    option_map (λ items. Heard event ∷ items) (listed_items more)
listed_items (gives Restart n more) = option_map (λ items. Begin ∷ items) (listed_items more)
listed_items (gives End n more) = Some (Finish ∷ [])
listed_items (bad n) = None
listed_items past_limit = None

-- the items of a text, if it is an event list
unfoldable pub event_list : List ℕ → Option (List LifeEvent)
event_list bytes = listed_items (listing_of bytes)
