-- A CR at the end of a line that grows.
use Rattle.std.proofs.Common.{◌≡◌, ℕ, suc, ◌+◌, ◌-◌, ◌<◌, ◌==◌, Bool, true, false, if◌then◌else◌, List, [], ◌∷◌, ◌++◌, length, take, slice_index_or, refl, sym, ap, ◌∙◌, arith}
use Rattle.std.proofs.lemmas.List.{take_more, take_all}
use Rattle.q_smtpd.specs.LineEnds.{ends_with_cr, without_cr}

pub cons_if : (t : Bool) (a : ℕ) (x y : List ℕ) → a ∷ (if t then x else y) ≡ (if t then a ∷ x else a ∷ y)
cons_if true a x y = refl
cons_if false a x y = refl

pub ends-snoc : (line : List ℕ) (b : ℕ) → ends_with_cr (line ++ b ∷ []) ≡ (b == 13)
unfolding ends_with_cr
ends-snoc [] b = refl
ends-snoc (a ∷ []) b = refl
ends-snoc (a ∷ c ∷ line) b = ends-snoc (c ∷ line) b

pub without-snoc : (line : List ℕ) (b : ℕ) → without_cr (line ++ b ∷ []) ≡ (if b == 13 then line else line ++ b ∷ [])
unfolding without_cr
without-snoc [] b = refl
without-snoc (a ∷ []) b = cons_if (b == 13) a [] (b ∷ [])
without-snoc (a ∷ c ∷ line) b = ap (λ (x : List ℕ). a ∷ x) (without-snoc (c ∷ line) b) ∙ cons_if (b == 13) a (c ∷ line) (c ∷ line ++ b ∷ [])

pub none_ends : (line : List ℕ) → length line ≡ 0 → line ≡ without_cr line
unfolding without_cr
none_ends [] h = refl
none_ends (b ∷ line) h = absurd (omega arith)

-- by the last byte
pub last_ends : (line : List ℕ) → (length line ≡ 0 → ⊥) → without_cr line ≡ (if slice_index_or line (length line - 1) 0 == 13 then take (length line - 1) line else line)
last_ends line some =
    let n = length line - 1 in
    let within : n < length line = omega arith in
    let whole : suc n ≡ length line = omega arith in
    let all : line ≡ take n line ++ slice_index_or line n 0 ∷ [] = sym (take_all (suc n) line (omega arith)) ∙ ap (λ (k : ℕ). take k line) (let e : suc n ≡ n + 1 = omega arith in e) ∙ take_more line n 0 within in
    ap without_cr all ∙ without-snoc (take n line) (slice_index_or line n 0) ∙ ap (λ (x : List ℕ). if slice_index_or line n 0 == 13 then take n line else x) (sym all)
