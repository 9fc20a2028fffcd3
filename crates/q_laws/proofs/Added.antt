-- Books to which a message is added, or in which a damaged file moves.
use Rattle.std.proofs.Common.{◌≡◌, Bool, true, false, cond, not, List, [], ◌∷◌, ◌++◌, map, find, is_some, Option, Some, None, ◌⊎◌, inl, inr, refl, sym, ap, ◌∙◌, subst, if◌then◌else◌}
use Rattle.std.proofs.lemmas.Bool.{and_from, and_parts, or_cases, or_left, or_right}
use Rattle.std.specs.List.{list_all, list_any}
use Rattle.std.specs.Option.{option_map_or}
use Rattle.std.specs.Prelude.{◌&&◌, ◌||◌, nat_le}
use Rattle.q_laws.proofs.Books.{at_place, damaged_at, damaged_names, in_ids_at, message_names}
use Rattle.q_laws.proofs.Distinct.{distinct_join, distinct_parts, id_cases}
use Rattle.q_laws.proofs.Mapped.{paired_from}
use Rattle.q_laws.proofs.Members.{IsIn, all_append, all_at, all_from, any_from, any_in, in_either, in_left, in_map, in_right, in_unmap}
use Rattle.q_model.proofs.IdLaws.{id_eq-refl, id_eq-true}
use Rattle.q_model.specs.Admissions.{cause_gone}
use Rattle.q_model.specs.Book.{Book, Damaged, all_ids, damaged_of, ids_at, message_of, stands, stands_in}
use Rattle.q_model.specs.BookChanges.{add_message, move_damaged}
use Rattle.q_model.specs.Ids.{are_distinct, cause_of, id_eq}
use Rattle.q_model.specs.Message.{Message}
use Rattle.q_model.specs.Orderly.{is_orderly, is_paired, is_sealed, is_sound}
use Rattle.q_model.specs.Places.{is_active, is_incoming}
use Rattle.q_model.specs.declared.id.Id.{Id}
use Rattle.q_model.specs.declared.rows.Place.{Place}

-- ---- a message more

find_first : {A : Type 0} (p : A → Bool) (xs : List A) (x y : A) → find p xs ≡ Some y → find p (xs ++ x ∷ []) ≡ Some y
find_first p [] x y h = absurd cc
find_first p (z ∷ zs) x y h = on (p z) (find_first p zs x y) h
  where
    on : (b : Bool) → (find p zs ≡ Some y → find p (zs ++ x ∷ []) ≡ Some y) → cond b (Some z) (find p zs) ≡ Some y → cond b (Some z) (find p (zs ++ x ∷ [])) ≡ Some y
    on true rest k = k
    on false rest k = rest k

pub find_passed : {A : Type 0} (p : A → Bool) (xs : List A) (x : A) → p x ≡ false → find p (xs ++ x ∷ []) ≡ find p xs
find_passed p [] x h = ap (λ b. cond b (Some x) None) h
find_passed p (z ∷ zs) x h = ap (cond (p z) (Some z)) (find_passed p zs x h)

-- a message that was found still is
pub still_found : (b : Book) (x : Message) (i : Id) (m : Message) → message_of b i ≡ Some m → message_of (add_message b x) i ≡ Some m
still_found b x i m h = find_first (λ (y : Message). id_eq y.id i) b.messages x m h

pub other_found : (b : Book) (x : Message) (i : Id) → id_eq x.id i ≡ false → message_of (add_message b x) i ≡ message_of b i
other_found b x i h = find_passed (λ (y : Message). id_eq y.id i) b.messages x h

-- a message that may be added
pub record IsAddable (b : Book) (x : Message) : Type 0 where
  pub new : IsIn x.id (all_ids b) → ⊥
  pub generation : nat_le x.id.generation b.generation ≡ true
  pub incoming : is_incoming x.place ≡ true
  pub sound : is_sound x ≡ true
  pub childless : (i : Id) → IsIn i (all_ids b) → i.bounce ≡ true → cause_of i ≡ x.id → ⊥
  pub cause : x.id.bounce ≡ true → option_map_or (λ m. is_active m.place && is_sealed m) (message_of b (cause_of x.id)) false ≡ true

names_added : (b : Book) (x : Message) → message_names (add_message b x) ≡ message_names b ++ x.id ∷ []
names_added b x = joined b.messages
  where
    joined : (ms : List Message) → map (λ (m : Message). m.id) (ms ++ x ∷ []) ≡ map (λ (m : Message). m.id) ms ++ x.id ∷ []
    joined [] = refl
    joined (m ∷ ms) = ap (λ (is : List Id). m.id ∷ is) (joined ms)

pub added_ids : (b : Book) (x : Message) (i : Id) → IsIn i (all_ids (add_message b x)) → IsIn i (all_ids b) ⊎ (x.id ≡ i)
added_ids b x i h = elim (in_either i (message_names b ++ x.id ∷ []) (damaged_names b) (subst (λ is. IsIn i (is ++ damaged_names b)) (names_added b x) h)) [
  | inl whole ↦ elim (in_either i (message_names b) (x.id ∷ []) whole) [
    | inl old ↦ inl (in_left i (message_names b) (damaged_names b) old)
    | inr it ↦ one it
  ]
  | inr broken ↦ inl (in_right i (message_names b) (damaged_names b) broken)
]
  where
    one : IsIn i (x.id ∷ []) → IsIn i (all_ids b) ⊎ (x.id ≡ i)
    one (inl e) = inr e
    one (inr e) = absurd e

pub added_distinct : (b : Book) (x : Message) → (IsIn x.id (all_ids b) → ⊥) → are_distinct (all_ids b) ≡ true → are_distinct (all_ids (add_message b x)) ≡ true
added_distinct b x new h =
    let parts = distinct_parts (message_names b) (damaged_names b) h in
    ap (λ is. are_distinct (is ++ damaged_names b)) (names_added b x)
    ∙ distinct_join (message_names b ++ x.id ∷ []) (damaged_names b)
    (distinct_join (message_names b) (x.id ∷ []) parts.0 refl (λ i k g. apart i k g)) parts.1
    (λ i k g. elim (in_either i (message_names b) (x.id ∷ []) k) [
      | inl old ↦ parts.2 i old g
      | inr it ↦ mine i it g
    ])
  where
    apart : (i : Id) → IsIn i (message_names b) → IsIn i (x.id ∷ []) → ⊥
    apart i k (inl e) = new (in_left x.id (message_names b) (damaged_names b) (subst (λ j. IsIn j (message_names b)) (sym e) k))
    apart i k (inr e) = e

    mine : (i : Id) → IsIn i (x.id ∷ []) → IsIn i (damaged_names b) → ⊥
    mine i (inl e) g = new (in_right x.id (message_names b) (damaged_names b) (subst (λ j. IsIn j (damaged_names b)) (sym e) g))
    mine i (inr e) g = e

kept_incoming : (b : Book) (x : Message) (i : Id) → stands_in is_incoming b i ≡ true → stands_in is_incoming (add_message b x) i ≡ true
kept_incoming b x i h =
    let test : Message → Bool = λ m. id_eq m.id i && is_incoming m.place in
    let broken : Bool = list_any (λ (d : Damaged). id_eq d.id i && is_incoming d.place) b.damaged in
    elim (or_cases (list_any test b.messages) broken h) [
      | inl whole ↦ let one = any_in test b.messages whole in or_left (list_any test (b.messages ++ x ∷ [])) broken (any_from test one.0 (b.messages ++ x ∷ []) (in_left one.0 b.messages (x ∷ []) one.1) one.2)
      | inr d ↦ or_right (list_any test (b.messages ++ x ∷ [])) broken d
    ]

kept_cause : (b : Book) (x : Message) (i : Id) → option_map_or (λ m. is_active m.place && is_sealed m) (message_of b i) false ≡ true → option_map_or (λ m. is_active m.place && is_sealed m) (message_of (add_message b x) i) false ≡ true
kept_cause b x i h = on (message_of b i) refl h
  where
    on : (o : Option Message) → message_of b i ≡ o → option_map_or (λ (m : Message). is_active m.place && is_sealed m) o false ≡ true → option_map_or (λ m. is_active m.place && is_sealed m) (message_of (add_message b x) i) false ≡ true
    on None e k = absurd cc
    on (Some m) e k = ap (λ (o : Option Message). option_map_or (λ (y : Message). is_active y.place && is_sealed y) o false) (still_found b x i m e) ∙ k

old_paired : (b : Book) (x : Message) → IsAddable b x → (i : Id) → IsIn i (all_ids b) → is_paired b i ≡ true → is_paired (add_message b x) i ≡ true
old_paired b x a i inside h = which i.bounce refl
  where
    which : (t : Bool) → i.bounce ≡ t → is_paired (add_message b x) i ≡ true
    which false e =
        or_left (not i.bounce || not (stands (add_message b x) (cause_of i))) (stands_in is_incoming (add_message b x) i && option_map_or (λ m. is_active m.place && is_sealed m) (message_of (add_message b x) (cause_of i)) false)
        (or_left (not i.bounce) (not (stands (add_message b x) (cause_of i))) (ap not e))
    which true e =
        let c = add_message b x in
        let same : message_of c (cause_of i) ≡ message_of b (cause_of i) = other_found b x (cause_of i) (apart (id_eq x.id (cause_of i)) refl) in
        paired_from (not i.bounce) (not (stands b (cause_of i))) (not (stands c (cause_of i))) (stands_in is_incoming b i) (stands_in is_incoming c i)
        (option_map_or (λ m. is_active m.place && is_sealed m) (message_of b (cause_of i)) false) (option_map_or (λ m. is_active m.place && is_sealed m) (message_of c (cause_of i)) false)
        (ap (λ (o : Option Message). not (is_some o || is_some (damaged_of b (cause_of i)))) same) (λ p q. kept_incoming b x i) (kept_cause b x (cause_of i)) h
      where
        apart : (t : Bool) → id_eq x.id (cause_of i) ≡ t → t ≡ false
        apart false k = refl
        apart true k = absurd (a.childless i inside e (sym (id_eq-true x.id (cause_of i) k)))

new_paired : (b : Book) (x : Message) → IsAddable b x → is_paired (add_message b x) x.id ≡ true
new_paired b x a = which x.id.bounce refl
  where
    which : (t : Bool) → x.id.bounce ≡ t → is_paired (add_message b x) x.id ≡ true
    which false e =
        or_left (not x.id.bounce || not (stands (add_message b x) (cause_of x.id))) (stands_in is_incoming (add_message b x) x.id && option_map_or (λ m. is_active m.place && is_sealed m) (message_of (add_message b x) (cause_of x.id)) false)
        (or_left (not x.id.bounce) (not (stands (add_message b x) (cause_of x.id))) (ap not e))
    which true e =
        let test : Message → Bool = λ m. id_eq m.id x.id && is_incoming m.place in
        let broken : Bool = list_any (λ (d : Damaged). id_eq d.id x.id && is_incoming d.place) b.damaged in
        or_right (not x.id.bounce || not (stands (add_message b x) (cause_of x.id))) (stands_in is_incoming (add_message b x) x.id && option_map_or (λ m. is_active m.place && is_sealed m) (message_of (add_message b x) (cause_of x.id)) false)
        (and_from (stands_in is_incoming (add_message b x) x.id) (option_map_or (λ m. is_active m.place && is_sealed m) (message_of (add_message b x) (cause_of x.id)) false)
        (or_left (list_any test (b.messages ++ x ∷ [])) broken (any_from test x (b.messages ++ x ∷ []) (in_right x b.messages (x ∷ []) (inl refl)) (and_from (id_eq x.id x.id) (is_incoming x.place) (id_eq-refl x.id) a.incoming)))
        (kept_cause b x (cause_of x.id) (a.cause e)))

pub added_orderly : (b : Book) (x : Message) → IsAddable b x → is_orderly b ≡ true → is_orderly (add_message b x) ≡ true
added_orderly b x a h =
    let c = add_message b x in
    let test : Book → Id → Bool = λ y i. nat_le i.generation y.generation && is_paired y i in
    let rest : Message → Bool = λ y. is_active y.place || is_sound y in
    let two = and_parts (list_all (test b) (all_ids b)) (list_all rest b.messages) h in
    and_from (list_all (test c) (all_ids c)) (list_all rest (b.messages ++ x ∷ []))
    (all_from (test c) (all_ids c) (λ i inside. elim (added_ids b x i inside) [
      | inl old ↦
          let parts = and_parts (nat_le i.generation b.generation) (is_paired b i) (all_at (test b) i (all_ids b) two.0 old) in
          and_from (nat_le i.generation c.generation) (is_paired c i) parts.0 (old_paired b x a i old parts.1)
      | inr same ↦ subst (λ j. test c j ≡ true) same (and_from (nat_le x.id.generation c.generation) (is_paired c x.id) a.generation (new_paired b x a))
    ]))
    (all_append rest b.messages (x ∷ []) two.1 (and_from (rest x) true (or_right (is_active x.place) (is_sound x) a.sound) refl))

-- who stands at a place stood there before, or was added
pub added_at : (test : Place → Bool) (b : Book) (x : Message) (i : Id) → IsIn i (ids_at test (add_message b x)) → IsIn i (ids_at test b) ⊎ (test x.place ≡ true)
added_at test b x i h = elim (in_ids_at test (add_message b x) i h) [
  | inl whole ↦ elim (in_either whole.0 b.messages (x ∷ []) whole.1) [
    | inl old ↦ inl (subst (λ j. IsIn j (ids_at test b)) whole.2 (at_place test b whole.0 old whole.3))
    | inr it ↦ one whole.0 it whole.3
  ]
  | inr broken ↦ inl (subst (λ j. IsIn j (ids_at test b)) broken.2 (damaged_at test b broken.0 broken.1 broken.3))
]
  where
    one : (m : Message) → IsIn m (x ∷ []) → test m.place ≡ true → IsIn i (ids_at test b) ⊎ (test x.place ≡ true)
    one m (inl e) k = inr (ap (λ (y : Message). test y.place) e ∙ k)
    one m (inr e) k = absurd e

-- ---- a damaged file moves

abbrev shifted : Id → Place → Damaged → Damaged
shifted id place d = if id_eq d.id id then record d { place = place } else d

shifted_name : (id : Id) (place : Place) (d : Damaged) → (shifted id place d).id ≡ d.id
shifted_name id place d = which (id_eq d.id id)
  where
    which : (b : Bool) → (if b then record d { place = place } else d).id ≡ d.id
    which true = refl
    which false = refl

shifted_names : (id : Id) (place : Place) (ds : List Damaged) → map (λ (d : Damaged). d.id) (map (shifted id place) ds) ≡ map (λ (d : Damaged). d.id) ds
shifted_names id place [] = refl
shifted_names id place (d ∷ ds) = ap (λ (i : Id). i ∷ map (λ (x : Damaged). x.id) (map (shifted id place) ds)) (shifted_name id place d) ∙ ap (λ (is : List Id). d.id ∷ is) (shifted_names id place ds)

pub shifted_ids : (b : Book) (id : Id) (place : Place) → all_ids (move_damaged b id place) ≡ all_ids b
shifted_ids b id place = ap (λ (is : List Id). message_names b ++ is) (shifted_names id place b.damaged)

shifted_found : (id : Id) (place : Place) (i : Id) (ds : List Damaged) → is_some (find (λ (d : Damaged). id_eq d.id i) (map (shifted id place) ds)) ≡ is_some (find (λ (d : Damaged). id_eq d.id i) ds)
shifted_found id place i [] = refl
shifted_found id place i (d ∷ ds) =
    ap (λ (j : Id). is_some (cond (id_eq j i) (Some (shifted id place d)) (find (λ (x : Damaged). id_eq x.id i) (map (shifted id place) ds)))) (shifted_name id place d) ∙ on (id_eq d.id i) (shifted_found id place i ds)
  where
    on : (t : Bool) → is_some (find (λ (x : Damaged). id_eq x.id i) (map (shifted id place) ds)) ≡ is_some (find (λ (x : Damaged). id_eq x.id i) ds) →
        is_some (cond t (Some (shifted id place d)) (find (λ (x : Damaged). id_eq x.id i) (map (shifted id place) ds))) ≡ is_some (cond t (Some d) (find (λ (x : Damaged). id_eq x.id i) ds))
    on true k = refl
    on false k = k

shifted_stands : (b : Book) (id : Id) (place : Place) (i : Id) → stands (move_damaged b id place) i ≡ stands b i
shifted_stands b id place i = ap (λ t. is_some (message_of b i) || t) (shifted_found id place i b.damaged)

shifted_incoming : (b : Book) (id : Id) (place : Place) (i : Id) → id_eq i id ≡ false → stands_in is_incoming b i ≡ true → stands_in is_incoming (move_damaged b id place) i ≡ true
shifted_incoming b id place i other h =
    let test : Damaged → Bool = λ d. id_eq d.id i && is_incoming d.place in
    let whole : Bool = list_any (λ (m : Message). id_eq m.id i && is_incoming m.place) b.messages in
    elim (or_cases whole (list_any test b.damaged) h) [
      | inl m ↦ or_left whole (list_any test (map (shifted id place) b.damaged)) m
      | inr d ↦
          let one = any_in test b.damaged d in
          let name : (one.0).id ≡ i = id_eq-true (one.0).id i (and_parts (id_eq (one.0).id i) (is_incoming (one.0).place) one.2).0 in
          let same : shifted id place one.0 ≡ one.0 = ap (λ t. if t then record (one.0) { place = place } else one.0) (ap (λ (j : Id). id_eq j id) name ∙ other) in
          or_right whole (list_any test (map (shifted id place) b.damaged)) (any_from test one.0 (map (shifted id place) b.damaged) (subst (λ (x : Damaged). IsIn x (map (shifted id place) b.damaged)) same (in_map (shifted id place) one.0 b.damaged one.1)) one.2)
    ]

-- a file that is no bounce with a cause may move
pub shifted_orderly : (b : Book) (id : Id) (place : Place) → cause_gone b id ≡ true → is_orderly b ≡ true → is_orderly (move_damaged b id place) ≡ true
shifted_orderly b id place gone h =
    let c = move_damaged b id place in
    let test : Book → Id → Bool = λ y i. nat_le i.generation y.generation && is_paired y i in
    let rest : Message → Bool = λ y. is_active y.place || is_sound y in
    let two = and_parts (list_all (test b) (all_ids b)) (list_all rest b.messages) h in
    and_from (list_all (test c) (all_ids c)) (list_all rest b.messages)
    (all_from (test c) (all_ids c) (λ i inside.
    let parts = and_parts (nat_le i.generation b.generation) (is_paired b i) (all_at (test b) i (all_ids b) two.0 (subst (λ is. IsIn i is) (shifted_ids b id place) inside)) in
    and_from (nat_le i.generation c.generation) (is_paired c i) parts.0 (paired i parts.1))) two.1
  where
    alone : (x y : Bool) → not (x && y) ≡ true → (not x || not y) ≡ true
    alone true y e = e
    alone false y e = refl

    paired : (i : Id) → is_paired b i ≡ true → is_paired (move_damaged b id place) i ≡ true
    paired i k = elim (id_cases i id) [
      | inl same ↦
          let c = move_damaged b id place in
          or_left (not i.bounce || not (stands c (cause_of i))) (stands_in is_incoming c i && option_map_or (λ m. is_active m.place && is_sealed m) (message_of c (cause_of i)) false)
          (ap (λ t. not i.bounce || not t) (shifted_stands b id place (cause_of i)) ∙ subst (λ j. (not j.bounce || not (stands b (cause_of j))) ≡ true) (sym same.0) (alone id.bounce (stands b (cause_of id)) gone))
      | inr other ↦
          let c = move_damaged b id place in
          paired_from (not i.bounce) (not (stands b (cause_of i))) (not (stands c (cause_of i))) (stands_in is_incoming b i) (stands_in is_incoming c i)
          (option_map_or (λ m. is_active m.place && is_sealed m) (message_of b (cause_of i)) false) (option_map_or (λ m. is_active m.place && is_sealed m) (message_of c (cause_of i)) false)
          (ap not (shifted_stands b id place (cause_of i))) (λ p q. shifted_incoming b id place i other) (λ r. r) k
    ]

-- who stands at a place where the file doesn't go stood there before
pub shifted_at : (test : Place → Bool) (b : Book) (id i : Id) (place : Place) → test place ≡ false → IsIn i (ids_at test (move_damaged b id place)) → IsIn i (ids_at test b)
shifted_at test b id i place out h = elim (in_ids_at test (move_damaged b id place) i h) [
  | inl whole ↦ subst (λ j. IsIn j (ids_at test b)) whole.2 (at_place test b whole.0 whole.1 whole.3)
  | inr broken ↦ let one = in_unmap (shifted id place) broken.0 b.damaged broken.1 in which one.0 one.1 broken.0 one.2 broken.2 broken.3
]
  where
    which : (d : Damaged) → IsIn d b.damaged → (y : Damaged) → shifted id place d ≡ y → y.id ≡ i → test y.place ≡ true → IsIn i (ids_at test b)
    which d inside y e name at = on (id_eq d.id id) refl
      where
        on : (t : Bool) → id_eq d.id id ≡ t → IsIn i (ids_at test b)
        on false k =
            let same : d ≡ y = ap (λ s. if s then record d { place = place } else d) (sym k) ∙ e in
            subst (λ j. IsIn j (ids_at test b)) (ap (λ (z : Damaged). z.id) same ∙ name) (damaged_at test b d inside (ap (λ (z : Damaged). test z.place) same ∙ at))
        on true k =
            let same : record d { place = place } ≡ y = ap (λ s. if s then record d { place = place } else d) (sym k) ∙ e in
            let bad : false ≡ true = sym out ∙ ap (λ (z : Damaged). test z.place) same ∙ at in
            absurd cc
