-- The ids at places of a kind that pass a test are the same, where messages that do not count change, go or come.
use Rattle.std.proofs.Common.{◌≡◌, Bool, true, false, cond, List, [], ◌∷◌, ◌++◌, map, filter, inl, inr, refl, sym, ap, ◌∙◌}
use Rattle.std.proofs.lemmas.List.Elements.{filter-append}
use Rattle.std.specs.Prelude.{◌&&◌}
use Rattle.q_core.proofs.ListLaws.{filter_each}
use Rattle.q_laws.proofs.Members.{IsIn}
use Rattle.q_model.specs.Book.{Book, Damaged, ids_at}
use Rattle.q_model.specs.Message.{Message}
use Rattle.q_model.specs.declared.id.Id.{Id}
use Rattle.q_model.specs.declared.rows.Place.{Place}

abbrev pub placed : (Place → Bool) → List Message → List Message
placed at ms = filter (λ (m : Message). at m.place) ms

abbrev pub named : List Message → List Id
named ms = map (λ (m : Message). m.id) ms

abbrev pub damaged_at : (Place → Bool) → Book → List Id
damaged_at at b = map (λ (d : Damaged). d.id) (filter (λ (d : Damaged). at d.place) b.damaged)

-- one message more, of which both lists say the same
one_more : (p q : Id → Bool) (x y : Message) (xs ys : List Message) (a b : Bool) → x.id ≡ y.id → (a && p x.id) ≡ (b && q y.id) → filter p (named xs) ≡ filter q (named ys) →
    filter p (named (cond a (x ∷ xs) xs)) ≡ filter q (named (cond b (y ∷ ys) ys))
one_more p q x y xs ys true true same e h =
    ap (λ t. cond t (x.id ∷ filter p (named xs)) (filter p (named xs))) e
    ∙ ap (λ i. cond (q y.id) (i ∷ filter p (named xs)) (filter p (named xs))) same
    ∙ ap (λ is. cond (q y.id) (y.id ∷ is) is) h
one_more p q x y xs ys true false same e h = ap (λ t. cond t (x.id ∷ filter p (named xs)) (filter p (named xs))) e ∙ h
one_more p q x y xs ys false true same e h = h ∙ ap (λ t. cond t (y.id ∷ filter q (named ys)) (filter q (named ys))) e
one_more p q x y xs ys false false same e h = h

-- messages change, and of each both lists say the same
pub placed_mapped : (at : Place → Bool) (p q : Id → Bool) (f : Message → Message) → ((m : Message) → (f m).id ≡ m.id) → (ms : List Message) → ((m : Message) → IsIn m ms → (at (f m).place && p m.id) ≡ (at m.place && q m.id)) →
    filter p (named (placed at (map f ms))) ≡ filter q (named (placed at ms))
placed_mapped at p q f name [] h = refl
placed_mapped at p q f name (m ∷ ms) h =
    one_more p q (f m) m (placed at (map f ms)) (placed at ms) (at (f m).place) (at m.place) (name m) (ap (λ i. at (f m).place && p i) (name m) ∙ h m (inl refl))
    (placed_mapped at p q f name ms (λ x k. h x (inr k)))

kept_step : (at : Place → Bool) (p q : Id → Bool) (t : Message → Bool) (m : Message) (ms : List Message) → (b : Bool) → (at m.place && b && p m.id) ≡ (at m.place && q m.id) → filter p (named (placed at (filter t ms))) ≡ filter q (named (placed at ms)) →
    filter p (named (placed at (cond b (m ∷ filter t ms) (filter t ms)))) ≡ filter q (named (placed at (m ∷ ms)))
kept_step at p q t m ms true h rest = one_more p q m m (placed at (filter t ms)) (placed at ms) (at m.place) (at m.place) refl (sym (both (at m.place)) ∙ h) rest
  where
    both : (a : Bool) → (a && true && p m.id) ≡ (a && p m.id)
    both true = refl
    both false = refl
kept_step at p q t m ms false h rest = one_more p q m m (placed at (filter t ms)) (placed at ms) false (at m.place) refl (sym (none (at m.place)) ∙ h) rest
  where
    none : (a : Bool) → (a && false && p m.id) ≡ false
    none true = refl
    none false = refl

-- messages go of which the second list says nothing
pub placed_kept : (at : Place → Bool) (p q : Id → Bool) (t : Message → Bool) (ms : List Message) → ((m : Message) → IsIn m ms → (at m.place && t m && p m.id) ≡ (at m.place && q m.id)) →
    filter p (named (placed at (filter t ms))) ≡ filter q (named (placed at ms))
placed_kept at p q t [] h = refl
placed_kept at p q t (m ∷ ms) h = kept_step at p q t m ms (t m) (h m (inl refl)) (placed_kept at p q t ms (λ x k. h x (inr k)))

-- a message comes that stands elsewhere
pub placed_added : (at : Place → Bool) (x : Message) → at x.place ≡ false → (ms : List Message) → placed at (ms ++ x ∷ []) ≡ placed at ms
placed_added at x e [] = ap (λ b. cond b (x ∷ []) []) e
placed_added at x e (m ∷ ms) = ap (λ ys. cond (at m.place) (m ∷ ys) ys) (placed_added at x e ms)

filter_in : (p q : Id → Bool) (ids : List Id) → ((i : Id) → IsIn i ids → p i ≡ q i) → filter p ids ≡ filter q ids
filter_in p q [] h = refl
filter_in p q (x ∷ xs) h = ap (λ b. cond b (x ∷ filter p xs) (filter p xs)) (h x (inl refl)) ∙ ap (λ ys. cond (q x) (x ∷ ys) ys) (filter_in p q xs (λ i k. h i (inr k)))

-- with the damaged files
pub placed_joined : (at : Place → Bool) (p q : Id → Bool) (b k : Book) → b.damaged ≡ k.damaged → filter p (named (placed at k.messages)) ≡ filter q (named (placed at b.messages)) → ((i : Id) → IsIn i (damaged_at at b) → p i ≡ q i) →
    filter p (ids_at at k) ≡ filter q (ids_at at b)
placed_joined at p q b k same e h =
    filter-append p (named (placed at k.messages)) (damaged_at at k)
    ∙ ap (λ is. is ++ filter p (damaged_at at k)) e
    ∙ ap (λ (ds : List Damaged). filter q (named (placed at b.messages)) ++ filter p (map (λ (d : Damaged). d.id) (filter (λ (d : Damaged). at d.place) ds))) (sym same)
    ∙ ap (λ is. filter q (named (placed at b.messages)) ++ is) (filter_in p q (damaged_at at b) h)
    ∙ sym (filter-append q (named (placed at b.messages)) (damaged_at at b))

abbrev pub every : Id → Bool
every i = true

-- the same without a test
pub placed_all : (at : Place → Bool) (b k : Book) → b.damaged ≡ k.damaged → filter every (named (placed at k.messages)) ≡ filter every (named (placed at b.messages)) → ids_at at k ≡ ids_at at b
placed_all at b k same e = sym (filter_each every (λ i. refl) (ids_at at k)) ∙ placed_joined at every every b k same e (λ i h. refl) ∙ filter_each every (λ i. refl) (ids_at at b)
