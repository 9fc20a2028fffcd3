-- One recipient is marked, and one message is changed, at its place.
use Rattle.std.proofs.Common.{◌≡◌, ℕ, zero, suc, ◌+◌, ◌<◌, ◌≤◌, Bool, true, false, cond, List, [], ◌∷◌, length, map, refl, sym, ap, ◌∙◌, subst, arith, not, set, Some, None, inl, inr, if◌then◌else◌, eq-eqb, get_or}
use Rattle.std.proofs.lemmas.Option.{slice_get_read}
use Rattle.std.proofs.lemmas.Bool.{cases_Bool, ne_eqb, or_parts}
use Rattle.std.proofs.lemmas.Grind.{common_steps}
use Rattle.std.specs.List.{enumerate_from, list_any, position_or_len}
use Rattle.std.specs.Prelude.{◌==◌, position, slice_get}
use Rattle.q_laws.proofs.Distinct.{distinct_tail}
use Rattle.q_laws.proofs.Members.{IsIn, in_map}
use Rattle.q_ledger.proofs.ListLaws.{find-none, position-find}
use Rattle.q_ledger.specs.Marked.{changed_first, changed_of}
use Rattle.q_model.proofs.IdLaws.{id_eq-true}
use Rattle.q_model.specs.Ids.{are_distinct, id_eq}
use Rattle.q_model.specs.Marking.{mark_one}
use Rattle.q_model.specs.Message.{Message, Recipient}
use Rattle.q_model.specs.declared.id.Id.{Id}
use Rattle.q_model.specs.declared.rows.Mark.TheVariants as marks

abbrev with_written : Recipient → Recipient
with_written r = record r { mark = marks.Written }

-- behind the position none is marked
none_marked : (p n : ℕ) (rs : List Recipient) → p < n → map (mark_one p) (enumerate_from n rs) ≡ rs
none_marked p n [] h = refl
none_marked p n (r ∷ rs) h =
    let other : (n == p) ≡ false = ne_eqb n p (λ e. omega (arith, h, e)) in
    ap (λ b. (if b then with_written r else r) ∷ map (mark_one p) (enumerate_from (n + 1) rs)) other
    ∙ ap (λ xs. r ∷ xs) (none_marked p (n + 1) rs (omega (arith, h)))

mark_at : (p n j : ℕ) (rs : List Recipient) (r : Recipient) → p ≡ n + j → slice_get rs j ≡ Some r → set rs j (with_written r) ≡ map (mark_one p) (enumerate_from n rs)
mark_at p n zero [] r e h = absurd cc
mark_at p n (suc j) [] r e h = absurd cc
mark_at p n zero (x ∷ xs) r e h =
    let same : x ≡ r = cc in
    let here : (n == p) ≡ true = eq-eqb n p (omega (arith, e)) in
    sym (ap (λ b. (if b then with_written x else x) ∷ map (mark_one p) (enumerate_from (n + 1) xs)) here
    ∙ ap (λ y. with_written y ∷ map (mark_one p) (enumerate_from (n + 1) xs)) same
    ∙ ap (λ ys. with_written r ∷ ys) (none_marked p (n + 1) xs (omega (arith, e))))
mark_at p n (suc j) (x ∷ xs) r e h =
    let other : (n == p) ≡ false = ne_eqb n p (λ k. omega (arith, e, k)) in
    ap (λ ys. x ∷ ys) (mark_at p (n + 1) j xs r (omega (arith, e)) h)
    ∙ sym (ap (λ b. (if b then with_written x else x) ∷ map (mark_one p) (enumerate_from (n + 1) xs)) other)

past_all : (p n j : ℕ) (rs : List Recipient) → p ≡ n + j → length rs ≤ j → map (mark_one p) (enumerate_from n rs) ≡ rs
past_all p n j [] e h = refl
past_all p n zero (r ∷ rs) e h = absurd (omega (arith, h))
past_all p n (suc j) (r ∷ rs) e h =
    let other : (n == p) ≡ false = ne_eqb n p (λ k. omega (arith, e, k)) in
    ap (λ b. (if b then with_written r else r) ∷ map (mark_one p) (enumerate_from (n + 1) rs)) other
    ∙ ap (λ xs. r ∷ xs) (past_all p (n + 1) j rs (omega (arith, e)) (omega (arith, h)))

-- the recipient at a place is marked
one_marked : (p : ℕ) (rs : List Recipient) (r : Recipient) → slice_get rs p ≡ Some r → set rs p (record r { mark = marks.Written }) ≡ map (mark_one p) (enumerate_from 0 rs)
one_marked p rs r h = mark_at p 0 p rs r (omega arith) h

pub one_read : (p : ℕ) (rs : List Recipient) (r : Recipient) → p < length rs → r ≡ get_or rs p r → set rs p (record r { mark = marks.Written }) ≡ map (mark_one p) (enumerate_from 0 rs)
one_read p rs r within is = one_marked p rs r (slice_get_read rs (length rs) p r refl within is)

-- where there is none, none is
pub past_marked : (p : ℕ) (rs : List Recipient) → length rs ≤ p → rs ≡ map (mark_one p) (enumerate_from 0 rs)
past_marked p rs h = sym (past_all p 0 p rs (omega arith) h)

-- ---- the first that passes

changed_step : {X : Type 0} (f : X → X) (x y : X) (ys rest : List X) (n : ℕ) (b : Bool) → (slice_get ys n ≡ Some x → set ys n (f x) ≡ rest) →
    slice_get (y ∷ ys) (cond (not b) (1 + n) 0) ≡ Some x → set (y ∷ ys) (cond (not b) (1 + n) 0) (f x) ≡ (if b then f y ∷ ys else y ∷ rest)
changed_step f x y ys rest n true h k = let same : x ≡ y = cc in ap (λ z. f z ∷ ys) same
changed_step f x y ys rest n false h k =
    let next : 1 + n ≡ suc n = omega arith in
    rw next (ap (λ zs. y ∷ zs) (h (ap (slice_get (y ∷ ys)) (sym next) ∙ k)))

changed_place : {X : Type 0} (test : X → Bool) (f : X → X) (xs : List X) (x : X) → slice_get xs (position_or_len test xs) ≡ Some x → set xs (position_or_len test xs) (f x) ≡ changed_first test f xs
changed_place test f [] x h = absurd cc
changed_place test f (y ∷ ys) x h = changed_step f x y ys (changed_first test f ys) (position_or_len test ys) (test y) (changed_place test f ys x) h

first_changed : {X : Type 0} (test : X → Bool) (f : X → X) (xs : List X) (i : ℕ) (x : X) → position test xs ≡ Some i → slice_get xs i ≡ Some x → set xs i (f x) ≡ changed_first test f xs
first_changed test f xs i x h k =
    let e : i ≡ position_or_len test xs = grind (arith, common_steps, h) in
    ap (λ n. set xs n (f x)) e ∙ changed_place test f xs x (ap (slice_get xs) (sym e) ∙ k)

-- the same of an element that was read
pub first_read : {X : Type 0} (test : X → Bool) (f : X → X) (xs : List X) (i : ℕ) (x : X) → position test xs ≡ Some i → x ≡ get_or xs i x → set xs i (f x) ≡ changed_first test f xs
first_read test f xs i x h is =
    let within : i < length xs = grind (arith, common_steps, h) in
    first_changed test f xs i x h (slice_get_read xs (length xs) i x refl within is)

no_first : {X : Type 0} (test : X → Bool) (f : X → X) (xs : List X) → list_any test xs ≡ false → changed_first test f xs ≡ xs
no_first test f [] h = refl
no_first test f (x ∷ xs) h =
    let two = or_parts (test x) (list_any test xs) h in
    ap (λ b. if b then f x ∷ xs else x ∷ changed_first test f xs) two.0 ∙ ap (λ ys. x ∷ ys) (no_first test f xs two.1)

pub none_changed : {X : Type 0} (test : X → Bool) (f : X → X) (xs : List X) → position test xs ≡ None → xs ≡ changed_first test f xs
none_changed test f xs h = elim (position-find test xs) [
  | inl n ↦ sym (no_first test f xs (find-none test xs n.1))
  | inr g ↦ let bad : None ≡ Some g.0 = sym h ∙ g.2.place in cc
]

-- ---- messages, of which no two have one id

others_stay : (id : Id) (f : Message → Message) (ms : List Message) → ((m : Message) → IsIn m ms → id_eq m.id id ≡ false) → map (changed_of id f) ms ≡ ms
others_stay id f [] h = refl
others_stay id f (m ∷ ms) h =
    ap (λ b. (if b then f m else m) ∷ map (changed_of id f) ms) (h m (inl refl))
    ∙ ap (λ xs. m ∷ xs) (others_stay id f ms (λ x inside. h x (inr inside)))

alone : (id : Id) (ms : List Message) → (IsIn id (map (λ (m : Message). m.id) ms) → ⊥) → (m : Message) → IsIn m ms → id_eq m.id id ≡ false
alone id ms none m inside = elim (cases_Bool (id_eq m.id id)) [
  | inl e ↦ absurd (none (subst (λ i. IsIn i (map (λ (x : Message). x.id) ms)) (id_eq-true m.id id e) (in_map (λ (x : Message). x.id) m ms inside)))
  | inr e ↦ e
]

once_step : (id : Id) (f : Message → Message) (m : Message) (ms : List Message) → (IsIn m.id (map (λ (x : Message). x.id) ms) → ⊥) →
    changed_first (λ (x : Message). id_eq x.id id) f ms ≡ map (changed_of id f) ms → (b : Bool) → id_eq m.id id ≡ b →
    (if b then f m ∷ ms else m ∷ changed_first (λ (x : Message). id_eq x.id id) f ms) ≡ (if b then f m else m) ∷ map (changed_of id f) ms
once_step id f m ms none rest true e =
    let same : m.id ≡ id = id_eq-true m.id id e in
    ap (λ xs. f m ∷ xs) (sym (others_stay id f ms (alone id ms (subst (λ i. IsIn i (map (λ (x : Message). x.id) ms) → ⊥) same none))))
once_step id f m ms none rest false e = ap (λ xs. m ∷ xs) rest

-- the first of an id is the only one
pub changed_once : (id : Id) (f : Message → Message) (ms : List Message) → are_distinct (map (λ (m : Message). m.id) ms) ≡ true → changed_first (λ (m : Message). id_eq m.id id) f ms ≡ map (changed_of id f) ms
changed_once id f [] h = refl
changed_once id f (m ∷ ms) h =
    let two = distinct_tail m.id (map (λ (x : Message). x.id) ms) h in
    once_step id f m ms two.0 (changed_once id f ms two.1) (id_eq m.id id) refl
