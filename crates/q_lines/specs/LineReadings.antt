-- What a reader of lines gives of the bytes that are left.
use Rattle.std.specs.Prelude.{◌++◌, ◌<◌, ◌≡◌, ◌≤◌, [], false, IfSome, length, List, Option, option_map, Some, true, ℕ, ◌∷◌}
use Rattle.q_model.specs.FaultCounts.{Rose}
use Rattle.q_stream.specs.declared.source.Take.{Take}
use Rattle.q_stream.specs.declared.source.Take.TheVariants as takes
use Rattle.q_lines.specs.States.{ReaderState, text_left}
use Rattle.q_lines.specs.TextLines.{cut, is_in_line, is_long, lines_from, unended, TextLine, whole}
use Rattle.q_lines.specs.declared.line_reader.Next.{Next}
use Rattle.q_lines.specs.declared.line_reader.Next.TheVariants as nexts
use Rattle.q_lines.specs.declared.line_reader.NextLine.{NextLine}
use Rattle.q_lines.specs.declared.line_reader.NextLine.TheVariants.{Line, TooLong, PastLimit, End, Unended}

-- what was taken of the source is in the buffer, and no more
abbrev pub Fills : Option (List ℕ) → ReaderState → Option (List ℕ) → Take → Type 0
Fills old r new (takes.Took n) = (0 < length r.buffered) × (old ≡ text_left r.buffered new)
Fills old r new takes.End = (r.buffered ≡ []) × (new ≡ old) × IfSome old (λ bytes. bytes ≡ [])
Fills old r new takes.Failed = (r.buffered ≡ []) × (new ≡ old)

-- The byte is the first of what was left. At a failure of the source nothing is left but what it has.
abbrev pub NextIs : Option (List ℕ) → Option (List ℕ) → Option (List ℕ) → Next → Type 0
NextIs old new source (nexts.Byte b) = old ≡ option_map (λ rest. b ∷ rest) new
NextIs old new source nexts.End = (new ≡ old) × IfSome old (λ bytes. bytes ≡ [])
NextIs old new source nexts.Failed = (new ≡ old) × (source ≡ old)

-- the same, by what is buffered and what the source has
abbrev pub GivesNext : ReaderState → Option (List ℕ) → ReaderState → Option (List ℕ) → Next → Type 0
GivesNext r old r' new next = NextIs (text_left r.buffered old) (text_left r'.buffered new) new next

-- a source's count rises where the source failed, and only there
abbrev pub CountsFaults : ℕ → ℕ → Next → Type 0
CountsFaults before now (nexts.Byte b) = now ≡ before
CountsFaults before now nexts.End = now ≡ before
CountsFaults before now nexts.Failed = (before ≤ now) × Rose before now

-- the first line of a text that may have so many bytes is whole, too long, or past the limit, or there is
-- none
abbrev pub NextLineIs : ReaderState → Option (List ℕ) → ReaderState → Option (List ℕ) → NextLine → Type 0
NextLineIs r old r' new (Line line) =
    IfSome old (λ bytes. (rest : List ℕ) × (new ≡ Some rest)
    × (lines_from r.budget bytes ≡ whole line.items ∷ lines_from r'.budget rest))
NextLineIs r old r' new (Unended line) =
    IfSome old (λ bytes. (new ≡ Some []) × (lines_from r.budget bytes ≡ unended line.items ∷ []))
NextLineIs r old r' new TooLong =
    IfSome old (λ bytes. (line : TextLine) × (more : List TextLine)
    × (lines_from r.budget bytes ≡ line ∷ more) × (is_long line ≡ true))
NextLineIs r old r' new PastLimit =
    IfSome old (λ bytes. (line : List ℕ)
    × (lines_from r.budget bytes ≡ cut line ∷ []) × (is_long (cut line) ≡ false))
NextLineIs r old r' new End =
    IfSome old (λ bytes. (new ≡ Some []) × (lines_from r.budget bytes ≡ []))

-- the same, by what is buffered and what the source has
abbrev pub GivesNextLine : ReaderState → Option (List ℕ) → ReaderState → Option (List ℕ) → NextLine
    → Type 0
GivesNextLine r old r' new line =
    NextLineIs r (text_left r.buffered old) r' (text_left r'.buffered new) line

-- a line isn't too long, and is some of what the text may have
abbrev pub Spends : ReaderState → ReaderState → NextLine → Type 0
Spends r r' (Line line) = (r'.budget < r.budget) × (length line.items ≤ 16777216)
Spends r r' (Unended line) = (r'.budget < r.budget) × (length line.items ≤ 16777216)
Spends r r' TooLong = Unit {0}
Spends r r' PastLimit = Unit {0}
Spends r r' End = Unit {0}

-- the source stopped in a line: what was taken of it has no end, and the source has the rest
abbrev pub StopsInLine : Option (List ℕ) → Option (List ℕ) → Type 0
StopsInLine old source =
    IfSome old (λ bytes. (part : List ℕ) × (rest : List ℕ) × (source ≡ Some rest)
    × (bytes ≡ part ++ rest) × (is_in_line part ≡ true))

-- the source stopped in a line
abbrev pub FailsInLine : ReaderState → Option (List ℕ) → Option (List ℕ) → Type 0
FailsInLine r old new = StopsInLine (text_left r.buffered old) new
