-- The first line of a text, and what the lines of a text make of a state.
use Rattle.std.proofs.Common.{◌≡◌, ◌+◌, ℕ, zero, suc, List, [], length, take, drop, Some, None, refl, sym, ap, ◌∙◌, inl, inr, arith}
use Rattle.std.specs.List.{enumerate_from, fold}
use Rattle.std.proofs.lemmas.List.{drop_all}
use Rattle.q_text.specs.Lines.{IsFirstLine, through_lines}
use Rattle.q_numbers.specs.Pieces.{cut}
use Rattle.q_numbers.proofs.PieceLaws.{pieces_at, pieces_none}

pub first_at : (text line rest : List ℕ) → Some (line, rest) ≡ cut 10 text → IsFirstLine text line rest
first_at text line rest e = inl (pieces_at 10 text line rest (sym e))

-- the text behind its own end
nothing : (text : List ℕ) (n : ℕ) → take n (drop (length text) text) ≡ []
nothing text zero = refl
nothing text (suc n) = rw (drop_all (length text) text (omega arith)) refl

pub first_none : (text : List ℕ) (n : ℕ) → None ≡ cut 10 text → IsFirstLine text text (take n (drop (length text) text))
first_none text n e = inr (pieces_none 10 text (sym e), nothing text n)

-- the first line, and then the others, where an empty line changes nothing
pub line_by_line : {S : Type 0} (step : S → ℕ × List ℕ → S) (s : S) (n : ℕ) (text line rest : List ℕ)
    → ((s : S) (n : ℕ) → step s (n, []) ≡ s) → IsFirstLine text line rest
    → through_lines step s n text ≡ through_lines step (step s (n, line)) (n + 1) rest
line_by_line step s n text line rest empty (inl e) = ap (λ lines. fold step s (enumerate_from n lines)) e
line_by_line step s n text line rest empty (inr p) =
    ap (λ lines. fold step s (enumerate_from n lines)) p.0 ∙ sym (empty (step s (n, line)) (n + 1))
    ∙ ap (through_lines step (step s (n, line)) (n + 1)) (sym p.1)
