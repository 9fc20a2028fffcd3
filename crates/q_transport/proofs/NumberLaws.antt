-- Names that differ, and their numbers.
use Rattle.std.proofs.Common.{◌≡◌, ◌≤◌, ◌<◌, ◌+◌, ◌++◌, ℕ, Bool, true, false, cond, List, [], ◌∷◌, length, Some, None, refl, sym, ap, ◌∙◌, arith, length-append, ◌⊎◌, inl, inr}
use Rattle.std.specs.Prelude.{◌==◌, bytes_eq, nat_lt, not, unwrap_or}
use Rattle.std.specs.Cmp.Lexicographic.{nat_list_eq_equiv}
use Rattle.std.specs.List.{list_all, position_or_len}
use Rattle.std.proofs.Math.Seq.{get_or-append_seam}
use Rattle.std.proofs.lemmas.Bool.{and_from, cases_lt, cond_both, cond-false, cond-true, eq-eqb, eqb-false, eqb-true, ltb-false, ne_eqb}
use Rattle.std.proofs.lemmas.List.{get_or_append_left}
use Rattle.std.proofs.lemmas.List.Folds.{list_all-append, position_or_len_push}
use Rattle.std.proofs.lemmas.List.Sums.{prefix_len-le-length}
use Rattle.std.proofs.lemmas.Option.{unwrap_or-slice_get}
use Rattle.q_transport.specs.Names.{AreTransportNames, name_of_number, number_of, with_name}
use Rattle.q_transport.specs.Texts.{is_transport}

placed : (b : Bool) (n len : ℕ) → (b ≡ false → n ≡ len) → unwrap_or (cond b (Some n) None) len ≡ n
placed true n len e = refl
placed false n len e = sym (e refl)

number_is : (names : List (List ℕ)) (name : List ℕ) → number_of names name ≡ position_or_len (λ other. bytes_eq other name) names
number_is names name =
    let n = position_or_len (λ (other : List ℕ). bytes_eq other name) names in
    let most = prefix_len-le-length (λ (other : List ℕ). not (bytes_eq other name)) names in
    placed (nat_lt n (length names)) n (length names) (λ above. omega (arith, ltb-false n (length names) above, most))

-- the number of a name, once there is one more
number-push : (names : List (List ℕ)) (name other : List ℕ) → number_of (names ++ name ∷ []) other
    ≡ cond (number_of names other == length names) (length names + cond (bytes_eq name other) 0 1) (number_of names other)
number-push names name other =
    rw (number_is (names ++ name ∷ []) other, number_is names other) (position_or_len_push (λ (x : List ℕ). bytes_eq x other) names name)

name_before : (names : List (List ℕ)) (name : List ℕ) (n : ℕ) → n < length names → name_of_number (names ++ name ∷ []) n ≡ name_of_number names n
name_before names name n below =
    unwrap_or-slice_get (names ++ name ∷ []) n [] ∙ get_or_append_left names (name ∷ []) [] n below ∙ sym (unwrap_or-slice_get names n [])

name_last : (names : List (List ℕ)) (name : List ℕ) → name_of_number (names ++ name ∷ []) (length names) ≡ name
name_last names name = unwrap_or-slice_get (names ++ name ∷ []) (length names) [] ∙ get_or-append_seam names name [] []

number_before : (names : List (List ℕ)) (name other : List ℕ) (n : ℕ) → n < length names → number_of names other ≡ n → number_of (names ++ name ∷ []) other ≡ n
number_before names name other n below e =
    number-push names name other ∙ cond-false (number_of names other == length names) _ _ (ne_eqb (number_of names other) (length names) (λ same. omega (arith, e, same, below))) ∙ e

number_last : (names : List (List ℕ)) (name : List ℕ) → number_of names name ≡ length names → number_of (names ++ name ∷ []) name ≡ length names
number_last names name e =
    number-push names name name ∙ cond-true (number_of names name == length names) _ _ (eq-eqb (number_of names name) (length names) e)
    ∙ ap (λ b. length names + cond b 0 1) (nat_list_eq_equiv.refl name) ∙ omega arith

-- a new name goes last
pub names_with : (names : List (List ℕ)) (name : List ℕ) → AreTransportNames names → is_transport name ≡ true → number_of names name ≡ length names → AreTransportNames (names ++ name ∷ [])
names_with names name h form new = record {
  forms = list_all-append is_transport names (name ∷ []) ∙ and_from (list_all is_transport names) (list_all is_transport (name ∷ [])) h.forms (and_from (is_transport name) true form refl);
  numbers = λ n below. numbers n below (cases_lt n (length names));
} where
  numbers : (n : ℕ) → n < length (names ++ name ∷ []) → (n < length names) ⊎ (length names ≤ n) → number_of (names ++ name ∷ []) (name_of_number (names ++ name ∷ []) n) ≡ n
  numbers n below (inl before) = rw (name_before names name n before) (number_before names name (name_of_number names n) n before (h.numbers n before))
  numbers n below (inr last) =
      let same : n ≡ length names = omega (arith, below, last, length-append names (name ∷ [])) in
      rw (same, name_last names name) (number_last names name new)

-- a name that may be there
pub named : (names : List (List ℕ)) (name : List ℕ) → AreTransportNames names → is_transport name ≡ true → AreTransportNames (with_name names name)
named names name h form =
    cond_both (number_of names name == length names) (names ++ name ∷ []) names (λ (xs : List (List ℕ)). AreTransportNames xs)
    (λ new. names_with names name h form (eqb-true (number_of names name) (length names) new)) (λ _. h)

-- its number is below that of the names with it
pub number_below : (names : List (List ℕ)) (name : List ℕ) → number_of names name < length (with_name names name)
number_below names name =
    let most : number_of names name ≤ length names = rw (number_is names name) (prefix_len-le-length (λ (other : List ℕ). not (bytes_eq other name)) names) in
    cond_both (number_of names name == length names) (names ++ name ∷ []) names (λ (xs : List (List ℕ)). number_of names name < length xs)
    (λ _. omega (arith, most, length-append names (name ∷ []))) (λ there. omega (arith, most, eqb-false (number_of names name) (length names) there))
