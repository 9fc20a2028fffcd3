-- What the words of a text give, one at a time.
use Rattle.std.proofs.Common.{◌≡◌, ℕ, Bool, true, false, cond, List, [], ◌∷◌, ◌++◌, Option, Some, None, refl, sym, ap, ◌∙◌, append_assoc}
use Rattle.std.specs.Prelude.{option_and_then, option_map}
use Rattle.std.specs.List.{onto_first, slice_split}
use Rattle.q_numbers.specs.Pieces.{each_some, is_space, one_or_more, words_in}

-- there is a word in each text
onto_some : {B : Type 0} (f : List ℕ → Option B) (x : ℕ) (parts : List (List ℕ)) → one_or_more f (onto_first x parts) ≡ each_some f (onto_first x parts)
onto_some f x [] = refl
onto_some f x (part ∷ parts) = refl

split_some : {B : Type 0} (f : List ℕ → Option B) (b : Bool) (x : ℕ) (parts : List (List ℕ)) → one_or_more f (cond b ([] ∷ parts) (onto_first x parts)) ≡ each_some f (cond b ([] ∷ parts) (onto_first x parts))
split_some f true x parts = refl
split_some f false x parts = onto_some f x parts

pub some_word : {B : Type 0} (f : List ℕ → Option B) (text : List ℕ) → one_or_more f (words_in text) ≡ each_some f (words_in text)
some_word f [] = refl
some_word f (x ∷ xs) = split_some f (is_space x) x (slice_split is_space xs)

-- what the words of a text give is what those so far gave, and then what the rest gives
pub record IsListed {B : Type 0} (f : List ℕ → Option B) (text : List ℕ) (list : List B) (rest : List ℕ) : Type 0 where
  pub same : one_or_more f (words_in text) ≡ option_map (λ ys. list ++ ys) (each_some f (words_in rest))

none_before : {B : Type 0} (o : Option (List B)) → o ≡ option_map (λ ys. [] ++ ys) o
none_before None = refl
none_before (Some ys) = refl

pub nothing_listed : {B : Type 0} (f : List ℕ → Option B) (text : List ℕ) → IsListed f text [] text
nothing_listed f text = record { same = some_word f text ∙ none_before (each_some f (words_in text)) }

one_first : {B : Type 0} (list : List B) (y : B) (o : Option (List B)) → option_map (λ ys. list ++ ys) (option_map (λ ys. y ∷ ys) o) ≡ option_map (λ ys. (list ++ y ∷ []) ++ ys) o
one_first list y None = refl
one_first list y (Some ys) = ap Some (sym (append_assoc list (y ∷ []) ys))

pub one_listed : {B : Type 0} (f : List ℕ → Option B) (text : List ℕ) (list : List B) (rest word others : List ℕ) (y : B) → words_in rest ≡ word ∷ words_in others → f word ≡ Some y
    → IsListed f text list rest → IsListed f text (list ++ y ∷ []) others
one_listed f text list rest word others y e h is = record {
  same = is.same
      ∙ ap (λ (ws : List (List ℕ)). option_map (λ ys. list ++ ys) (each_some f ws)) e
      ∙ ap (λ o. option_map (λ ys. list ++ ys) (option_and_then (λ y. option_map (λ ys. y ∷ ys) (each_some f (words_in others))) o)) h
      ∙ one_first list y (each_some f (words_in others));
}

pub last_listed : {B : Type 0} (f : List ℕ → Option B) (text : List ℕ) (list : List B) (rest word : List ℕ) (y : B) → words_in rest ≡ word ∷ [] → f word ≡ Some y
    → IsListed f text list rest → Some (list ++ y ∷ []) ≡ one_or_more f (words_in text)
last_listed f text list rest word y e h is =
    sym (is.same
    ∙ ap (λ (ws : List (List ℕ)). option_map (λ ys. list ++ ys) (each_some f ws)) e
    ∙ ap (λ o. option_map (λ ys. list ++ ys) (option_and_then (λ y. option_map (λ ys. y ∷ ys) (Some [])) o)) h)

pub none_listed : {B : Type 0} (f : List ℕ → Option B) (text : List ℕ) (list : List B) (rest word : List ℕ) (more : List (List ℕ)) → words_in rest ≡ word ∷ more → f word ≡ None
    → IsListed f text list rest → None ≡ one_or_more f (words_in text)
none_listed f text list rest word more e h is =
    sym (is.same
    ∙ ap (λ (ws : List (List ℕ)). option_map (λ ys. list ++ ys) (each_some f ws)) e
    ∙ ap (λ o. option_map (λ ys. list ++ ys) (option_and_then (λ y. option_map (λ ys. y ∷ ys) (each_some f more)) o)) h)
