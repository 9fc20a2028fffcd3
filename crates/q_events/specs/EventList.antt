-- The first item of an event list.
use Rattle.std.specs.List.{flat_map, take_while}
use Rattle.std.specs.Option.{option_map_or}
use Rattle.std.specs.Prelude.{◌+◌, [], Bool, drop, false, if◌then◌else◌, length, List, None, not, Option, option_and_then, Some, true, ℕ, ◌∷◌}
use Rattle.q_model.specs.Lists.{has_none}
use Rattle.q_model.specs.TextParts.{text_line}
use Rattle.q_model.specs.declared.event.Event.TheVariants as events
use Rattle.q_events.specs.EventLines.{meaning_of_line}
use Rattle.q_lines.specs.TextLines.{bytes_of, cut, is_long, TextLine, unended, whole}
use Rattle.q_events.specs.declared.list_item.ListItem.{ListItem}
use Rattle.q_events.specs.declared.list_item.ListItem.TheVariants as items
use Rattle.q_events.specs.declared.line.ListLine.{ListLine}
use Rattle.q_events.specs.declared.line.ListLine.TheVariants.{Body, Passed, Told}
use Rattle.q_events.specs.declared.line.Command.{Command}
use Rattle.q_events.specs.declared.line.Command.TheVariants as commands

-- what a line says, if it isn't cut and not too long; a last line may lack its LF
abbrev pub meaning : TextLine → Option ListLine
meaning (whole line) = if is_long (whole line) then None else meaning_of_line line
meaning (unended line) = if is_long (unended line) then None else meaning_of_line line
meaning (cut line) = None

-- the lines that may stand before a mail: those that are passed over, and those of its content
abbrev pub is_leading : Option ListLine → Bool
is_leading None = false
is_leading (Some Passed) = true
is_leading (Some Body) = true
is_leading (Some (Told command)) = false

abbrev pub leads : TextLine → Bool
leads line = is_leading (meaning line)

-- a line of content is TEXT, which stands behind `body` and a space, and LF
abbrev pub content_by : List ℕ → Option ListLine → List ℕ
content_by text None = []
content_by text (Some Passed) = []
content_by text (Some Body) = text_line (drop 5 text)
content_by text (Some (Told command)) = []

abbrev pub content_of : TextLine → List ℕ
content_of line = content_by (bytes_of line) (meaning line)

-- the item of a command in line n behind this content, which only a mail may have
abbrev pub item_of : List ℕ → ℕ → Command → Option ListItem
item_of content n (commands.Mail sender to) = Some (items.Step (events.Mail sender to content) n)
item_of content n (commands.Plain event) =
    if has_none content then Some (items.Step event n) else None
item_of content n commands.Restart = if has_none content then Some items.Restart else None
item_of content n commands.End = if has_none content then Some items.End else None

-- what stands first in an event list: an item, with the number of its line and the lines behind it; a line
-- that can't stand there; or the end of the bytes that a list may have
pub data FirstItem : Type 0 where
  found : ListItem → ℕ → List TextLine → FirstItem
  bad : ℕ → FirstItem
  past_limit : FirstItem

-- the command of a line
abbrev pub command_in : Option ListLine → Option Command
command_in None = None
command_in (Some Passed) = None
command_in (Some Body) = None
command_in (Some (Told command)) = Some command

-- a line is cut by the limit of the list, and isn't too long before
abbrev pub passes_limit : TextLine → Bool
passes_limit (whole line) = false
passes_limit (unended line) = false
passes_limit (cut line) = not (is_long (cut line))

-- the item of a line, which has number n and stands behind this content
abbrev pub item_in : List ℕ → ℕ → TextLine → Option ListItem
item_in content n line = option_and_then (item_of content n) (command_in (meaning line))

-- what the first of these lines gives; where there is none, `end` is missing
abbrev pub item_at : List ℕ → ℕ → List TextLine → FirstItem
item_at content n [] = bad n
item_at content n (line ∷ more) =
    if passes_limit line then past_limit
    else option_map_or (λ item. found item n more) (item_in content n line) (bad n)

-- the first item behind the leading ones of these lines
abbrev pub behind_leading : ℕ → List TextLine → List TextLine → FirstItem
behind_leading n leading lines =
    item_at (flat_map content_of leading) (n + length leading) (drop (length leading) lines)

-- the first item of these lines, of which the first has number n
abbrev pub first_item : ℕ → List TextLine → FirstItem
first_item n lines = behind_leading n (take_while leads lines) lines
