-- Readers of fields and lists that give values exactly where a text is theirs.
use Rattle.std.proofs.Common.{◌≡◌, ◌≤◌, ◌∙◌, ℕ, true, Option, Some, List, [], ◌∷◌, ◌++◌, length, map, refl, sym, ap, subst, arith}
use Rattle.std.specs.List.{AllByRecursion, list_all}
use Rattle.std.specs.Prelude.{option_map}
use Rattle.std.proofs.lemmas.List.{length-map}
use Rattle.q_model.proofs.RecordLaws.{bind_some, map_some}
use Rattle.q_model.specs.Text.{joined}
use Rattle.q_numbers.specs.Pieces.{cut, each_some, one_or_more, words_in}
use Rattle.q_text.specs.ValueForms.{IsListOf}
use Rattle.q_text.proofs.Exactness.{Exact, ExactPart}
use Rattle.q_numbers.proofs.PieceLaws.{cut_back}
use Rattle.q_text.proofs.SolidTexts.{is_solid}
use Rattle.q_text.proofs.WordLists.{some_word}
use Rattle.q_trace.specs.Parts.{field, then_read}
use Rattle.q_trace.proofs.Joining.{has_words, joined_words, words_joined}
use Rattle.q_trace.proofs.PartLaws.{cut_at}

-- before a space
pub field_back : {A : Type 0} {read : List ℕ → Option A} {is : A → Type 0} {write : A → List ℕ} → ExactPart read is write
    → (text rest : List ℕ) (a : A) → field read text ≡ Some (a, rest) → is a × (write a ++ 32 ∷ rest ≡ text)
field_back {A} {read} {is} {write} p text rest a h =
    let (c, halves, later) = bind_some (cut 32 text) (λ (c : List ℕ × List ℕ). option_map (λ a. (a, c.1)) (read c.0)) (a, rest) h in
    let (x, found, same) = map_some (λ (a : A). (a, c.1)) (read c.0) (a, rest) later in
    let value : read c.0 ≡ Some a = found ∙ ap (λ (q : A × List ℕ). Some q.0) same in
    let (is_one, written) = p.exact.back c.0 a value in
    (is_one, ap (λ (w : List ℕ). w ++ 32 ∷ rest) written ∙ ap (λ (x : List ℕ). c.0 ++ 32 ∷ x) (sym (ap (λ (q : A × List ℕ). q.1) same)) ∙ cut_back 32 text c.0 c.1 halves)

pub field_gives : {A : Type 0} {read : List ℕ → Option A} {is : A → Type 0} {write : A → List ℕ} → ExactPart read is write
    → (a : A) (rest : List ℕ) → is a → field read (write a ++ 32 ∷ rest) ≡ Some (a, rest)
field_gives {A} {read} {is} {write} p a rest h = rw (cut_at (write a) rest (p.solid a h), p.exact.gives a h) refl

-- a value, a space, and another
pub exact_then : {A B : Type 0} {read : List ℕ → Option A} {is : A → Type 0} {write : A → List ℕ} {more : A → List ℕ → Option B} {is_more : A → B → Type 0} {write_more : A → B → List ℕ}
    → ExactPart read is write → ((a : A) → Exact (more a) (is_more a) (write_more a))
    → Exact (then_read read more) (λ v. is v.0 × is_more v.0 v.1) (λ v. write v.0 ++ 32 ∷ write_more v.0 v.1)
exact_then {A} {B} {read} {is} {write} {more} {is_more} {write_more} p e = record {
  back = λ text v h.
      let (c, first, later) = bind_some (field read text) (λ (c : A × List ℕ). option_map (λ b. (c.0, b)) (more c.0 c.1)) v h in
      let (b, found, same) = map_some (λ (b : B). (c.0, b)) (more c.0 c.1) v later in
      let (is_one, written) = field_back p text c.1 c.0 first in
      let (is_other, rest) = (e c.0).back c.1 b found in
      let both : (is c.0 × is_more c.0 b) × (write c.0 ++ 32 ∷ write_more c.0 b ≡ text) = ((is_one, is_other), ap (λ (x : List ℕ). write c.0 ++ 32 ∷ x) rest ∙ written) in
      subst (λ (v : A × B). (is v.0 × is_more v.0 v.1) × (write v.0 ++ 32 ∷ write_more v.0 v.1 ≡ text)) same both;
  gives = λ v h. rw (field_gives p v.0 (write_more v.0 v.1) h.0, (e v.0).gives v.1 h.1) refl;
}

-- each of some words
each_back : {A : Type 0} {read : List ℕ → Option A} {is : A → Type 0} {write : A → List ℕ} → Exact read is write
    → (ps : List (List ℕ)) (xs : List A) → each_some read ps ≡ Some xs → AllByRecursion is xs × (map write xs ≡ ps)
each_back e [] [] h = (tt, refl)
each_back e [] (x ∷ xs) h = absurd (cc)
each_back {A} {read} {is} {write} e (p ∷ ps) all h =
    let (x, here, later) = bind_some (read p) (λ (y : A). option_map (λ ys. y ∷ ys) (each_some read ps)) all h in
    let (xs, found, same) = map_some (λ (ys : List A). x ∷ ys) (each_some read ps) all later in
    let (is_one, written) = e.back p x here in
    let (are, rest) = each_back e ps xs found in
    subst (λ (v : List A). AllByRecursion is v × (map write v ≡ p ∷ ps)) same ((is_one, are), ap (λ (w : List ℕ). w ∷ map write xs) written ∙ ap (λ (ws : List (List ℕ)). p ∷ ws) rest)

each_gives : {A : Type 0} {read : List ℕ → Option A} {is : A → Type 0} {write : A → List ℕ} → Exact read is write
    → (xs : List A) → AllByRecursion is xs → each_some read (map write xs) ≡ Some xs
each_gives e [] h = refl
each_gives e (x ∷ xs) h = rw (e.gives x h.0, each_gives e xs h.1) refl

all_solid : {A : Type 0} {read : List ℕ → Option A} {is : A → Type 0} {write : A → List ℕ} → ExactPart read is write
    → (xs : List A) → AllByRecursion is xs → AllByRecursion (λ word. list_all is_solid word ≡ true) (map write xs)
all_solid p [] h = tt
all_solid p (x ∷ xs) h = (p.solid x h.0, all_solid p xs h.1)

-- a line of such values has these words
pub list_words : {A : Type 0} {read : List ℕ → Option A} {is : A → Type 0} {write : A → List ℕ} → ExactPart read is write
    → (xs : List A) → IsListOf is xs → words_in (joined (map write xs)) ≡ map write xs
list_words {A} {read} {is} {write} p xs h = words_joined (map write xs) (omega (arith, length-map xs write, h.0)) (all_solid p xs h.1)

-- a list at the end of a line
pub exact_list : {A : Type 0} {read : List ℕ → Option A} {is : A → Type 0} {write : A → List ℕ} → ExactPart read is write
    → Exact (λ text. one_or_more read (words_in text)) (IsListOf is) (λ xs. joined (map write xs))
exact_list {A} {read} {is} {write} p = record {
  back = λ text xs h.
      let (are, same) = each_back p.exact (words_in text) xs (sym (some_word read text) ∙ h) in
      let long : 1 ≤ length xs = omega (arith, has_words text, ap length same, length-map xs write) in
      ((long, are), ap joined same ∙ joined_words text);
  gives = λ xs h. some_word read (joined (map write xs)) ∙ ap (each_some read) (list_words p xs h) ∙ each_gives p.exact xs h.1;
}
