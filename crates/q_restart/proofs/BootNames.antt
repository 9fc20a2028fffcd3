-- The names in boot, gone through one behind another.
use Rattle.std.proofs.Common.{not, ◌≡◌, ◌<◌, ◌≤◌, ◌+◌, ℕ, zero, suc, Bool, true, false, List, [], ◌∷◌, ◌++◌, length, take, drop, Option, Some, None, is_some, if◌then◌else◌, refl, sym, ap, ◌∙◌, take-append-drop}
use Rattle.std.specs.Option.{option_or}
use Rattle.std.specs.Prelude.{find, is_none, slice_get, slice_index_or}
use Rattle.std.proofs.lemmas.List.{drop_more, take_all, take_more}
use Rattle.std.proofs.lemmas.List.Folds.{find-append}
use Rattle.q_model.specs.Texts.{is_name}
use Rattle.q_restart.specs.Damages.{boot_damage}
use Rattle.q_restart.specs.Generations.{generation_of}
use Rattle.q_restart.proofs.GenerationLaws.{is_name-hex, spells}

-- a name that is no generation
abbrev pub is_other : List ℕ → Bool
is_other name = is_none (generation_of name)

module _ (names : List (List ℕ)) (i : ℕ) (n : List ℕ) (within : i < length names) (is : n ≡ slice_index_or names i n) (none : find is_other (take i names) ≡ None) where
  more : take (i + 1) names ≡ take i names ++ n ∷ []
  more = take_more names i n within ∙ ap (λ (x : List ℕ). take i names ++ x ∷ []) (sym is)

  next : drop i names ≡ n ∷ drop (i + 1) names
  next = drop_more names i n within ∙ ap (λ (x : List ℕ). x ∷ drop (i + 1) names) (sym is)

  pub other-none : is_other n ≡ false → find is_other (take (i + 1) names) ≡ None
  other-none fails = ap (find is_other) more ∙ find-append is_other (take i names) (n ∷ []) ∙ ap (λ (o : Option (List ℕ)). option_or o (find is_other (n ∷ []))) none ∙ ap (λ (t : Bool). if t then Some n else None) fails

  pub other-here : is_other n ≡ true → Some n ≡ boot_damage names
  other-here holds = sym (ap (λ (o : Option (List ℕ)). option_or o (slice_get names 1))
      (ap (find is_other) (sym (take-append-drop i names)) ∙ find-append is_other (take i names) (drop i names) ∙ ap (λ (o : Option (List ℕ)). option_or o (find is_other (drop i names))) none
      ∙ ap (find is_other) next ∙ ap (λ (t : Bool). if t then Some n else find is_other (drop (i + 1) names)) holds))

pub none-other : (names : List (List ℕ)) (i : ℕ) → length names ≤ i → find is_other (take i names) ≡ None → find is_other names ≡ None
none-other names i whole none = sym (ap (find is_other) (take_all i names whole)) ∙ none

pub second-damage : (names : List (List ℕ)) (i : ℕ) → length names ≤ i → find is_other (take i names) ≡ None → slice_get names 1 ≡ boot_damage names
second-damage names i whole none = sym (ap (λ (o : Option (List ℕ)). option_or o (slice_get names 1)) (none-other names i whole none))

one_of : (n m : List ℕ) (ns : List (List ℕ)) (t : Bool) → is_other m ≡ t → (if t then Some m else find is_other ns) ≡ None → (is_other m ≡ false) × (find is_other ns ≡ None)
one_of n m ns true e h = absurd cc
one_of n m ns false e h = (e, h)

-- without others, each name is a generation
pub each-generation : (names : List (List ℕ)) (i : ℕ) (n : List ℕ) → find is_other names ≡ None → slice_get names i ≡ Some n → is_other n ≡ false
each-generation [] i n none at = absurd cc
each-generation (m ∷ ms) zero n none at =
    let same : m ≡ n = cc in
    ap is_other (sym same) ∙ (one_of n m ms (is_other m) refl none).0
each-generation (m ∷ ms) (suc i) n none at = each-generation ms i n (one_of n m ms (is_other m) refl none).1 at

some_of : {A : Type 0} (o : Option A) → is_none o ≡ false → (x : A) × (o ≡ Some x)
some_of None e = absurd cc
some_of (Some x) e = (x, refl)

-- the generation of a name that isn't another
pub generation-is : (n : List ℕ) → is_other n ≡ false → (g : ℕ) × (generation_of n ≡ Some g)
generation-is n e = some_of (generation_of n) e

pub generation-name : (n : List ℕ) → is_other n ≡ false → is_name n ≡ true
generation-name n e =
    let g = generation-is n e in
    ap is_name (spells n g.0 g.1).is ∙ is_name-hex g.0

-- a second name has a name's form
pub second-name : (names : List (List ℕ)) (i : ℕ) (n : List ℕ) → length names ≤ i → find is_other (take i names) ≡ None → slice_get names 1 ≡ Some n → is_name n ≡ true
second-name names i n whole none at = generation-name n (each-generation names 1 n (none-other names i whole none) at)

pub none-is : (o : Option ℕ) (r : Bool) → is_some o ≡ not r → is_none o ≡ r
none-is None true e = refl
none-is None false e = cc
none-is (Some x) true e = cc
none-is (Some x) false e = refl
