-- The same names stand in deferred, where messages that stand elsewhere change, go or come.
use Rattle.std.proofs.Common.{◌≡◌, ℕ, Bool, true, false, cond, List, [], ◌∷◌, ◌++◌, map, filter, is_some, Option, Some, None, inl, inr, refl, sym, ap, ◌∙◌, subst}
use Rattle.std.specs.List.{cons_option}
use Rattle.std.specs.Prelude.{filter_map, option_map}
use Rattle.q_laws.proofs.Books.{at_place, damaged_at, in_ids_at, not_damaged, only_message}
use Rattle.q_laws.proofs.Distinct.{distinct_parts, same_named}
use Rattle.q_laws.proofs.Members.{IsIn, in_either}
use Rattle.q_model.specs.Book.{Book, Damaged, all_ids, ids_at}
use Rattle.q_model.specs.Ids.{are_distinct}
use Rattle.q_model.specs.Message.{Message}
use Rattle.q_model.specs.Places.{due_of, is_active, is_incoming}
use Rattle.q_model.specs.Scans.{deferred_name, deferred_names}
use Rattle.q_model.specs.declared.id.Id.{Id}
use Rattle.q_model.specs.declared.rows.DeferredName.{DeferredName}
use Rattle.q_model.specs.declared.rows.Place.{Place}
use Rattle.q_model.specs.declared.rows.Place.TheVariants as places

-- in deferred
abbrev pub is_deferred : Place → Bool
is_deferred place = is_some (due_of place)

abbrev pub due_name : Message → Option DeferredName
due_name m = deferred_name m.place m.id

abbrev pub due_damaged : Damaged → Option DeferredName
due_damaged d = deferred_name d.place d.id

-- messages change, and each has the name that it had
pub due_mapped : (f : Message → Message) (ms : List Message) → ((m : Message) → IsIn m ms → due_name (f m) ≡ due_name m) → filter_map due_name (map f ms) ≡ filter_map due_name ms
due_mapped f [] h = refl
due_mapped f (m ∷ ms) h =
    ap (λ o. cons_option o (filter_map due_name (map f ms))) (h m (inl refl))
    ∙ ap (cons_option (due_name m)) (due_mapped f ms (λ x k. h x (inr k)))

due_step : (m : Message) (few : List Message) (all : List DeferredName) → (b : Bool) → (b ≡ false → due_name m ≡ None) → filter_map due_name few ≡ all → filter_map due_name (cond b (m ∷ few) few) ≡ cons_option (due_name m) all
due_step m few all true h e = ap (cons_option (due_name m)) e
due_step m few all false h e = e ∙ ap (λ o. cons_option o all) (sym (h refl))

-- messages go that have no name there
pub due_kept : (t : Message → Bool) (ms : List Message) → ((m : Message) → IsIn m ms → t m ≡ false → due_name m ≡ None) → filter_map due_name (filter t ms) ≡ filter_map due_name ms
due_kept t [] h = refl
due_kept t (m ∷ ms) h = due_step m (filter t ms) (filter_map due_name ms) (t m) (h m (inl refl)) (due_kept t ms (λ x k. h x (inr k)))

-- a message comes that has no name there
pub due_added : (x : Message) → due_name x ≡ None → (ms : List Message) → filter_map due_name (ms ++ x ∷ []) ≡ filter_map due_name ms
due_added x e [] = ap (λ o. cons_option o []) e
due_added x e (m ∷ ms) = ap (cons_option (due_name m)) (due_added x e ms)

pub due_joined : (b k : Book) → b.damaged ≡ k.damaged → filter_map due_name k.messages ≡ filter_map due_name b.messages → deferred_names k ≡ deferred_names b
due_joined b k same e =
    ap (λ ns. ns ++ filter_map due_damaged k.damaged) e
    ∙ ap (λ ds. filter_map due_name b.messages ++ filter_map due_damaged ds) (sym same)

-- ---- who has a name there

given_in : {A B : Type 0} (f : A → Option B) (y : B) (x : A) (xs : List A) (o : Option B) → f x ≡ o → (IsIn y (filter_map f xs) → (z : A) × IsIn z xs × (f z ≡ Some y)) → IsIn y (cons_option o (filter_map f xs)) → (z : A) × IsIn z (x ∷ xs) × (f z ≡ Some y)
given_in f y x xs None e rest h = let k = rest h in (k.0, inr k.1, k.2)
given_in f y x xs (Some v) e rest (inl same) = (x, inl refl, e ∙ ap Some same)
given_in f y x xs (Some v) e rest (inr h) = let k = rest h in (k.0, inr k.1, k.2)

in_given : {A B : Type 0} (f : A → Option B) (y : B) (xs : List A) → IsIn y (filter_map f xs) → (x : A) × IsIn x xs × (f x ≡ Some y)
in_given f y [] h = absurd h
in_given f y (x ∷ xs) h = given_in f y x xs (f x) refl (in_given f y xs) h

name_is : (o : Option ℕ) (id : Id) (n : DeferredName) → option_map (λ due. record { due = due; id = id }) o ≡ Some n → (id ≡ n.id) × (is_some o ≡ true)
name_is None id n h = absurd cc
name_is (Some due) id n h = let same : record { due = due; id = id } ≡ n = cc in (ap (λ (x : DeferredName). x.id) same, refl)

-- who has a name there stands there
pub due_listed : (b : Book) (n : DeferredName) → IsIn n (deferred_names b) → IsIn n.id (ids_at is_deferred b)
due_listed b n h = elim (in_either n (filter_map due_name b.messages) (filter_map due_damaged b.damaged) h) [
  | inl whole ↦
      let one = in_given due_name n b.messages whole in
      let is = name_is (due_of (one.0).place) (one.0).id n one.2 in
      subst (λ i. IsIn i (ids_at is_deferred b)) is.0 (at_place is_deferred b one.0 one.1 is.1)
  | inr broken ↦
      let one = in_given due_damaged n b.damaged broken in
      let is = name_is (due_of (one.0).place) (one.0).id n one.2 in
      subst (λ i. IsIn i (ids_at is_deferred b)) is.0 (damaged_at is_deferred b one.0 one.1 is.1)
]

-- an id stands in one queue
pub one_queue : (p q : Place → Bool) → ((place : Place) → p place ≡ true → q place ≡ true → ⊥) → (b : Book) → are_distinct (all_ids b) ≡ true → (id : Id) → IsIn id (ids_at p b) → IsIn id (ids_at q b) → ⊥
one_queue p q apart b distinct id h k = elim (in_ids_at p b id h) [
  | inl m ↦ elim (in_ids_at q b id k) [
    | inl x ↦ apart (m.0).place m.3 (ap (λ (y : Message). q y.place) (only_message b distinct m.0 x.0 m.1 x.1 (m.2 ∙ sym x.2)) ∙ x.3)
    | inr d ↦ not_damaged b distinct m.0 d.0 m.1 d.1 (m.2 ∙ sym d.2)
  ]
  | inr d ↦ elim (in_ids_at q b id k) [
    | inl m ↦ not_damaged b distinct m.0 d.0 m.1 d.1 (m.2 ∙ sym d.2)
    | inr x ↦ apart (d.0).place d.3 (ap (λ (y : Damaged). q y.place) (same_named (λ (y : Damaged). y.id) d.0 x.0 b.damaged (distinct_parts (map (λ (m : Message). m.id) b.messages) (map (λ (y : Damaged). y.id) b.damaged) distinct).1 d.1 x.1 (d.2 ∙ sym x.2)) ∙ x.3)
  ]
]

pub deferred_or_incoming : (place : Place) → is_deferred place ≡ true → is_incoming place ≡ true → ⊥
deferred_or_incoming places.Incoming h k = absurd cc
deferred_or_incoming places.Active h k = absurd cc
deferred_or_incoming (places.Deferred due) h k = absurd cc
deferred_or_incoming places.Hold h k = absurd cc
deferred_or_incoming places.Corrupt h k = absurd cc

pub active_has_none : (m : Message) (place : Place) → is_active place ≡ true → deferred_name place m.id ≡ None
active_has_none m places.Active h = refl
active_has_none m places.Incoming h = cc
active_has_none m (places.Deferred due) h = cc
active_has_none m places.Hold h = cc
active_has_none m places.Corrupt h = cc

pub deferred_or_active : (place : Place) → is_deferred place ≡ true → is_active place ≡ true → ⊥
deferred_or_active places.Incoming h k = absurd cc
deferred_or_active places.Active h k = absurd cc
deferred_or_active (places.Deferred due) h k = absurd cc
deferred_or_active places.Hold h k = absurd cc
deferred_or_active places.Corrupt h k = absurd cc

pub active_or_deferred : (place : Place) → is_active place ≡ true → is_deferred place ≡ true → ⊥
active_or_deferred place h k = deferred_or_active place k h
