-- What the next line of an event list gives.
use Rattle.std.specs.List.{take_while}
use Rattle.std.specs.declared.alloc.Global.{Global}
use Rattle.std.specs.Prelude.{◌+◌, ◌≡◌, ◌≤◌, [], Err, IfSome, length, List, Ok, Option, Result, Some, Vec, ℕ, ◌∷◌}
use Rattle.q_events.specs.EventList.{bad, item_at, leads, past_limit, FirstItem}
use Rattle.q_events.specs.States.{EventsState}
use Rattle.q_lines.specs.LineReadings.{StopsInLine}
use Rattle.q_lines.specs.States.{text_left}
use Rattle.q_lines.specs.TextLines.{cut, lines_from, TextLine, unended, whole}
use Rattle.q_model.specs.declared.limits.Bound.TheVariants.{Input}
use Rattle.q_events.specs.declared.error.EventError.{EventError}
use Rattle.q_events.specs.declared.error.EventError.TheVariants as errors

-- the line says this: it isn't cut
abbrev pub Says : TextLine → List ℕ → Type 0
Says (whole line) text = line ≡ text
Says (unended line) text = line ≡ text
Says (cut line) text = ⊥

-- the next line of what is left, and the lines behind it
abbrev pub LineAt : EventsState → Option (List ℕ) → EventsState → Option (List ℕ) → List ℕ → Type 0
LineAt e old e' new text =
    IfSome old (λ bytes. (rest : List ℕ) × (line : TextLine) × (new ≡ Some rest) × Says line text
    × (lines_from e.budget bytes ≡ line ∷ lines_from e'.budget rest))

-- the next line stops the reading with this answer, whatever content stands before it
abbrev pub AnswersAt : EventsState → Option (List ℕ) → FirstItem → Type 0
AnswersAt e old answer =
    IfSome old (λ bytes. (content : List ℕ) → (take_while leads (lines_from e.budget bytes) ≡ [])
    × (item_at content (e.lines + 1) (lines_from e.budget bytes) ≡ answer))

-- the next line is whole and not too long; or it is at fault, or there is none
abbrev pub GivesLine : EventsState → Option (List ℕ) → EventsState → Option (List ℕ) → Option (List ℕ)
    → Result (Vec ℕ Global) EventError → Type 0
GivesLine e old e' new source (Ok line) =
    (length line.items ≤ 16777216) × LineAt e old e' new line.items
GivesLine e old e' new source (Err (errors.BadEvent line)) = AnswersAt e old (bad line)
GivesLine e old e' new source (Err (errors.Limit bound)) = (bound ≡ Input) × AnswersAt e old past_limit
GivesLine e old e' new source (Err errors.Source) = StopsInLine old source
GivesLine e old e' new source (Err errors.NoMemory) = Unit {0}

-- the same, by what is buffered and what the source has
abbrev pub ReadsLine : EventsState → Option (List ℕ) → EventsState → Option (List ℕ)
    → Result (Vec ℕ Global) EventError → Type 0
ReadsLine e old e' new result =
    GivesLine e (text_left e.buffered old) e' (text_left e'.buffered new) new result
