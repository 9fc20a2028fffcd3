-- The next line of an event list is that of a text, of which the last may lack its LF.
use Rattle.std.proofs.Common.{◌≡◌, ℕ, List, [], ◌∷◌, Option, Some, None, refl}
use Rattle.std.specs.Prelude.{IfSome}
use Rattle.q_events.specs.LineReadings.{Says}
use Rattle.q_lines.specs.TextLines.{TextLine, lines_from, unended, whole}

pub whole_at : (old new : Option (List ℕ)) (text : List ℕ) (most left : ℕ) → IfSome old (λ bytes. (rest : List ℕ) × (new ≡ Some rest) × (lines_from most bytes ≡ whole text ∷ lines_from left rest))
    → IfSome old (λ bytes. (rest : List ℕ) × (line : TextLine) × (new ≡ Some rest) × Says line text × (lines_from most bytes ≡ line ∷ lines_from left rest))
whole_at None new text most left h = tt
whole_at (Some bytes) new text most left (rest, n, at) = (rest, whole text, n, refl, at)

pub last_at : (old new : Option (List ℕ)) (text : List ℕ) (most left : ℕ) → IfSome old (λ bytes. (new ≡ Some []) × (lines_from most bytes ≡ unended text ∷ []))
    → IfSome old (λ bytes. (rest : List ℕ) × (line : TextLine) × (new ≡ Some rest) × Says line text × (lines_from most bytes ≡ line ∷ lines_from left rest))
last_at None new text most left h = tt
last_at (Some bytes) new text most left (n, at) = ([], unended text, n, refl, at)
