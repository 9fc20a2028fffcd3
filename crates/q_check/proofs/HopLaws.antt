-- The lines of a transport table, one at a time.
use Rattle.std.proofs.Common.{◌≡◌, ◌+◌, ◌++◌, ◌∙◌, ℕ, List, [], ap, subst, sym, append-nil}
use Rattle.q_text.specs.Lines.{IsFirstLine}
use Rattle.q_text.proofs.LineLaws.{line_by_line}
use Rattle.q_check.specs.NextHops.{hops_from, text_of_line, then_hop_line}

-- of an empty line nothing is told
empty_line : (told : List ℕ) (n : ℕ) → then_hop_line told (n, []) ≡ told
empty_line told n = append-nil told

-- the first line, and then the others
pub hops_first : (told new : List ℕ) (n : ℕ) (bytes line rest : List ℕ) → IsFirstLine bytes line rest → new ≡ told ++ text_of_line n line → hops_from new (n + 1) rest ≡ hops_from told n bytes
hops_first told new n bytes line rest first is =
    ap (λ (t : List ℕ). hops_from t (n + 1) rest) is ∙ sym (line_by_line then_hop_line told n bytes line rest empty_line first)

-- where no line is left, all was told
pub hops_last : (told : List ℕ) (n : ℕ) (rest all : List ℕ) → rest ≡ [] → hops_from told n rest ≡ all → told ≡ all
hops_last told n rest all none is = sym (append-nil told) ∙ subst (λ (r : List ℕ). hops_from told n r ≡ all) none is
