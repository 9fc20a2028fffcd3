-- Books whose messages are changed where they stand, and keep their ids.
use Rattle.std.proofs.Common.{◌≡◌, ℕ, Bool, true, false, cond, not, List, [], ◌∷◌, ◌++◌, map, find, is_some, Option, Some, None, option_map, inl, inr, refl, ap, ◌∙◌, subst, ◌≤◌, le_trans, le-leb, leb-true}
use Rattle.std.proofs.lemmas.Bool.{and_from, and_parts, or_cases, or_left, or_right}
use Rattle.std.specs.List.{list_all, list_any}
use Rattle.std.specs.Option.{option_map_or}
use Rattle.std.specs.Prelude.{◌&&◌, ◌||◌, nat_le}
use Rattle.q_laws.proofs.Distinct.{id_same}
use Rattle.q_laws.proofs.Members.{IsIn, all_at, all_from, all_weaker, any_from, any_in, find_in, in_map, in_unmap}
use Rattle.q_model.proofs.IdLaws.{id_eq-true}
use Rattle.q_model.specs.Book.{Book, Damaged, all_ids, damaged_of, message_of, stands, stands_in}
use Rattle.q_model.specs.Ids.{cause_of, id_eq}
use Rattle.q_model.specs.Message.{Message}
use Rattle.q_model.specs.Orderly.{is_orderly, is_paired, is_sealed, is_sound}
use Rattle.q_model.specs.Places.{is_active, is_incoming}
use Rattle.q_model.specs.declared.id.Id.{Id}

-- the book with each message changed
abbrev pub mapped : Book → ℕ → (Message → Message) → Book
mapped b generation f = record b { generation = generation; messages = map f b.messages }

-- a change that keeps an orderly book orderly
pub record KeepsOrder (b : Book) (f : Message → Message) : Type 0 where
  pub name : (m : Message) → (f m).id ≡ m.id
  pub cause : (m : Message) → IsIn m b.messages → (is_active m.place && is_sealed m) ≡ true → (is_active (f m).place && is_sealed (f m)) ≡ true
  pub incoming : (m : Message) → IsIn m b.messages → is_incoming m.place ≡ true → m.id.bounce ≡ true → stands b (cause_of m.id) ≡ true → is_incoming (f m).place ≡ true
  pub sound : (m : Message) → IsIn m b.messages → (is_active m.place || is_sound m) ≡ true → (is_active (f m).place || is_sound (f m)) ≡ true

-- ---- what is found

pub found_step : {X Y : Type 0} (f : X → Y) (b : Bool) (x : X) (o : Option X) → cond b (Some (f x)) (option_map f o) ≡ option_map f (cond b (Some x) o)
found_step f true x o = refl
found_step f false x o = refl

pub find_mapped : (f : Message → Message) → ((m : Message) → (f m).id ≡ m.id) → (id : Id) (ms : List Message) → find (λ m. id_eq m.id id) (map f ms) ≡ option_map f (find (λ m. id_eq m.id id) ms)
find_mapped f h id [] = refl
find_mapped f h id (m ∷ ms) =
    ap (λ (i : Id). cond (id_eq i id) (Some (f m)) (find (λ (x : Message). id_eq x.id id) (map f ms))) (h m)
    ∙ ap (cond (id_eq m.id id) (Some (f m))) (find_mapped f h id ms)
    ∙ found_step f (id_eq m.id id) m (find (λ x. id_eq x.id id) ms)

pub names_mapped : (f : Message → Message) → ((m : Message) → (f m).id ≡ m.id) → (ms : List Message) → map (λ m. m.id) (map f ms) ≡ map (λ m. m.id) ms
names_mapped f h [] = refl
names_mapped f h (m ∷ ms) = ap (λ (i : Id). i ∷ map (λ (x : Message). x.id) (map f ms)) (h m) ∙ ap (λ (is : List Id). m.id ∷ is) (names_mapped f h ms)

pub all_ids_mapped : (b : Book) (g : ℕ) (f : Message → Message) → ((m : Message) → (f m).id ≡ m.id) → all_ids (mapped b g f) ≡ all_ids b
all_ids_mapped b g f h = ap (λ (is : List Id). is ++ map (λ (d : Damaged). d.id) b.damaged) (names_mapped f h b.messages)

some_mapped : {A B : Type 0} (f : A → B) (o : Option A) → is_some (option_map f o) ≡ is_some o
some_mapped f None = refl
some_mapped f (Some x) = refl

pub stands_mapped : (b : Book) (g : ℕ) (f : Message → Message) → ((m : Message) → (f m).id ≡ m.id) → (id : Id) → stands (mapped b g f) id ≡ stands b id
stands_mapped b g f h id = ap (λ z. z || is_some (damaged_of b id)) (ap is_some (find_mapped f h id b.messages) ∙ some_mapped f (message_of b id))

-- ---- bounces

incoming_mapped : (b : Book) (g : ℕ) (f : Message → Message) → KeepsOrder b f → (id : Id) → id.bounce ≡ true → stands b (cause_of id) ≡ true → stands_in is_incoming b id ≡ true → stands_in is_incoming (mapped b g f) id ≡ true
incoming_mapped b g f k id bounce there h =
    let inside : Message → Bool = λ m. id_eq m.id id && is_incoming m.place in
    let others : Bool = list_any (λ (d : Damaged). id_eq d.id id && is_incoming d.place) b.damaged in
    elim (or_cases (list_any inside b.messages) others h) [
      | inl here ↦ or_left (list_any inside (map f b.messages)) others (moved (any_in inside b.messages here))
      | inr damaged ↦ or_right (list_any inside (map f b.messages)) others damaged
    ]
  where
    moved : (m : Message) × IsIn m b.messages × ((id_eq m.id id && is_incoming m.place) ≡ true) → list_any (λ (m : Message). id_eq m.id id && is_incoming m.place) (map f b.messages) ≡ true
    moved one =
        let m = one.0 in
        let two = and_parts (id_eq m.id id) (is_incoming m.place) one.2 in
        let same : m.id ≡ id = id_eq-true m.id id two.0 in
        any_from (λ (x : Message). id_eq x.id id && is_incoming x.place) (f m) (map f b.messages) (in_map f m b.messages one.1)
        (and_from (id_eq (f m).id id) (is_incoming (f m).place) (id_same (f m).id id (k.name m ∙ same))
        (k.incoming m one.1 two.1 (ap (λ (i : Id). i.bounce) same ∙ bounce) (ap (λ (i : Id). stands b (cause_of i)) same ∙ there)))

cause_mapped : (b : Book) (f : Message → Message) → KeepsOrder b f → (o : Option Message) → ((m : Message) → o ≡ Some m → IsIn m b.messages) →
    option_map_or (λ (m : Message). is_active m.place && is_sealed m) o false ≡ true → option_map_or (λ (m : Message). is_active m.place && is_sealed m) (option_map f o) false ≡ true
cause_mapped b f k None there h = absurd cc
cause_mapped b f k (Some m) there h = k.cause m (there m refl) h

pub paired_from : (a b b2 s s2 o o2 : Bool) → b2 ≡ b → (a ≡ false → b ≡ false → s ≡ true → s2 ≡ true) → (o ≡ true → o2 ≡ true) → (a || b || (s && o)) ≡ true → (a || b2 || (s2 && o2)) ≡ true
paired_from true b b2 s s2 o o2 eb es eo h = refl
paired_from false true b2 s s2 o o2 eb es eo h = or_left b2 (s2 && o2) eb
paired_from false false b2 s s2 o o2 eb es eo h = let two = and_parts s o h in or_right b2 (s2 && o2) (and_from s2 o2 (es refl refl two.0) (eo two.1))

not_false : (b : Bool) → not b ≡ false → b ≡ true
not_false true e = refl
not_false false e = absurd cc

paired_mapped : (b : Book) (g : ℕ) (f : Message → Message) → KeepsOrder b f → (id : Id) → is_paired b id ≡ true → is_paired (mapped b g f) id ≡ true
paired_mapped b g f k id h =
    let c = mapped b g f in
    paired_from (not id.bounce) (not (stands b (cause_of id))) (not (stands c (cause_of id))) (stands_in is_incoming b id) (stands_in is_incoming c id)
    (option_map_or (λ m. is_active m.place && is_sealed m) (message_of b (cause_of id)) false) (option_map_or (λ m. is_active m.place && is_sealed m) (message_of c (cause_of id)) false)
    (ap not (stands_mapped b g f k.name (cause_of id)))
    (λ x y. incoming_mapped b g f k id (not_false id.bounce x) (not_false (stands b (cause_of id)) y))
    (λ good. ap (λ (o : Option Message). option_map_or (λ m. is_active m.place && is_sealed m) o false) (find_mapped f k.name (cause_of id) b.messages)
    ∙ cause_mapped b f k (message_of b (cause_of id)) (λ m e. (find_in (λ (x : Message). id_eq x.id (cause_of id)) m b.messages e).0) good)
    h

-- ---- the whole book

pub raise : (a m n : ℕ) → m ≤ n → nat_le a m ≡ true → nat_le a n ≡ true
raise a m n h k = le-leb a n (le_trans (leb-true a m k) h)

pub orderly_mapped : (b : Book) (g : ℕ) (f : Message → Message) → b.generation ≤ g → KeepsOrder b f → is_orderly b ≡ true → is_orderly (mapped b g f) ≡ true
orderly_mapped b g f up k h =
    let c = mapped b g f in
    let test : Book → Id → Bool = λ x id. nat_le id.generation x.generation && is_paired x id in
    let rest : Message → Bool = λ m. is_active m.place || is_sound m in
    let two = and_parts (list_all (test b) (all_ids b)) (list_all rest b.messages) h in
    let each : list_all (test c) (all_ids b) ≡ true = all_weaker (test b) (test c) (all_ids b) (λ id there e.
    let parts = and_parts (nat_le id.generation b.generation) (is_paired b id) e in
    and_from (nat_le id.generation g) (is_paired c id) (raise id.generation b.generation g up parts.0) (paired_mapped b g f k id parts.1)) two.0 in
    and_from (list_all (test c) (all_ids c)) (list_all rest (map f b.messages))
    (ap (list_all (test c)) (all_ids_mapped b g f k.name) ∙ each)
    (all_from rest (map f b.messages) (λ x there.
    let one = in_unmap f x b.messages there in
    subst (λ y. rest y ≡ true) one.2 (k.sound one.0 one.1 (all_at rest one.0 b.messages two.1 one.1))))
