-- Files that stand for a book, when one message changes at its place.
use Rattle.std.proofs.Common.{◌≡◌, ℕ, Bool, true, false, not, ◌&&◌, ◌||◌, List, [], ◌∷◌, ◌++◌, map, find, is_some, Option, Some, None, if◌then◌else◌, refl, sym, ap, subst, ◌∙◌}
use Rattle.std.specs.List.{AllByRecursion, list_any}
use Rattle.std.proofs.lemmas.Bool.{and_from, and_parts, or_parts, not-true}
use Rattle.std.proofs.lemmas.List.Folds.{list_any-append}
use Rattle.q_model.specs.declared.id.Id.{Id}
use Rattle.q_model.specs.declared.rows.Place.{Place}
use Rattle.q_model.specs.Book.{Book, Damaged, message_of, stands_in}
use Rattle.q_model.specs.BookChanges.{change_message}
use Rattle.q_model.specs.FilesStand.{DamagedStands, MessageStands, Stands}
use Rattle.q_model.specs.Ids.{are_distinct, id_eq}
use Rattle.q_model.specs.IdTexts.{IsId}
use Rattle.q_model.specs.Message.{Message}
use Rattle.q_model.specs.SpoolFiles.{file_at, Files, IsPlace}
use Rattle.q_model.specs.Places.{place_eq}
use Rattle.q_model.specs.declared.spot.Area.TheVariants as areas
use Rattle.q_model.proofs.EachLaws.{any-map, each-both, each-map, each-same, each-unmap, find-any, find-has, find-passes, none-each}
use Rattle.q_model.proofs.IdLaws.{id_eq-true}
use Rattle.q_model.proofs.StandLaws.{BootStands-kept, not_same, true_false}

-- the message of an id stands
pub Stands-message : (f : Files) (b : Book) (id : Id) (m : Message) → Stands f b → message_of b id ≡ Some m → MessageStands f m × (m.id ≡ id)
Stands-message f b id m h found = (find-has (MessageStands f) (λ x. id_eq x.id id) b.messages m h.messages found, id_eq-true m.id id (find-passes (λ x. id_eq x.id id) b.messages m found))

-- ---- of an id there is one message, and no damaged file

pub distinct-front : (xs ys : List Id) → are_distinct (xs ++ ys) ≡ true → are_distinct xs ≡ true
distinct-front [] ys h = refl
distinct-front (x ∷ xs) ys h =
    let two = and_parts (not (list_any (λ i. id_eq i x) (xs ++ ys))) (are_distinct (xs ++ ys)) h in
    let none : (list_any (λ i. id_eq i x) xs || list_any (λ i. id_eq i x) ys) ≡ false = sym (list_any-append (λ i. id_eq i x) xs ys) ∙ not-true (list_any (λ i. id_eq i x) (xs ++ ys)) two.0 in
    and_from (not (list_any (λ i. id_eq i x) xs)) (are_distinct xs) (ap not (or_parts (list_any (λ i. id_eq i x) xs) (list_any (λ i. id_eq i x) ys) none).0) (distinct-front xs ys two.1)

none_behind : (x : Id) (xs ys : List Id) (id : Id) (t : Bool) → id_eq x id ≡ t → list_any (λ i. id_eq i x) (xs ++ ys) ≡ false → (t || list_any (λ i. id_eq i id) xs) ≡ true → (list_any (λ i. id_eq i id) xs ≡ true → list_any (λ i. id_eq i id) ys ≡ false) → list_any (λ i. id_eq i id) ys ≡ false
none_behind x xs ys id true e new there rest =
    let none : (list_any (λ i. id_eq i x) xs || list_any (λ i. id_eq i x) ys) ≡ false = sym (list_any-append (λ i. id_eq i x) xs ys) ∙ new in
    ap (λ (k : Id). list_any (λ i. id_eq i k) ys) (sym (id_eq-true x id e)) ∙ (or_parts (list_any (λ i. id_eq i x) xs) (list_any (λ i. id_eq i x) ys) none).1
none_behind x xs ys id false e new there rest = rest there

pub distinct-behind : (xs ys : List Id) (id : Id) → are_distinct (xs ++ ys) ≡ true → list_any (λ i. id_eq i id) xs ≡ true → list_any (λ i. id_eq i id) ys ≡ false
distinct-behind [] ys id h there = absurd (true_false false there refl)
distinct-behind (x ∷ xs) ys id h there =
    let two = and_parts (not (list_any (λ i. id_eq i x) (xs ++ ys))) (are_distinct (xs ++ ys)) h in
    none_behind x xs ys id (id_eq x id) refl (not-true (list_any (λ i. id_eq i x) (xs ++ ys)) two.0) there (distinct-behind xs ys id two.1)

-- the first of this id is the only one
abbrev pub IsOnly : Id → Message → Message → Type 0
IsOnly id m x = id_eq x.id id ≡ true → x ≡ m

module _ {A : Type 0} (id_of : A → Id) where
  only_first : (x : A) (xs : List A) (id : Id) (a : A) (t : Bool) → id_eq (id_of x) id ≡ t → AllByRecursion (λ y. id_eq (id_of y) (id_of x) ≡ false) xs → (if t then Some x else find (λ y. id_eq (id_of y) id) xs) ≡ Some a
      → (find (λ y. id_eq (id_of y) id) xs ≡ Some a → AllByRecursion (λ y. id_eq (id_of y) id ≡ true → y ≡ a) xs) → AllByRecursion (λ y. id_eq (id_of y) id ≡ true → y ≡ a) (x ∷ xs)
  only_first x xs id a true e others found rest =
      let same : x ≡ a = cc in
      let here = id_eq-true (id_of x) id e in
      (λ k. same, each-same (λ y. id_eq (id_of y) (id_of x) ≡ false) (λ y. id_eq (id_of y) id ≡ true → y ≡ a) xs (λ y k j. absurd (true_false (id_eq (id_of y) id) j (ap (id_eq (id_of y)) (sym here) ∙ k))) others)
  only_first x xs id a false e others found rest = (λ k. absurd (true_false (id_eq (id_of x) id) k e), rest found)

  -- where ids are distinct, what is found of an id is all that there is of it
  pub only_of : (xs : List A) (id : Id) (a : A) → are_distinct (map id_of xs) ≡ true → find (λ x. id_eq (id_of x) id) xs ≡ Some a → AllByRecursion (λ x. id_eq (id_of x) id ≡ true → x ≡ a) xs
  only_of [] id a h found = tt
  only_of (x ∷ xs) id a h found =
      let two = and_parts (not (list_any (λ i. id_eq i (id_of x)) (map id_of xs))) (are_distinct (map id_of xs)) h in
      let none : list_any (λ i. id_eq i (id_of x)) (map id_of xs) ≡ false = not-true (list_any (λ i. id_eq i (id_of x)) (map id_of xs)) two.0 in
      let others = each-unmap (λ i. id_eq i (id_of x) ≡ false) id_of xs (none-each (λ i. id_eq i (id_of x)) (map id_of xs) none) in
      only_first x xs id a (id_eq (id_of x) id) refl others found (only_of xs id a two.1)

pub only_one : (ms : List Message) (id : Id) (m : Message) → are_distinct (map (λ x. x.id) ms) ≡ true → find (λ x. id_eq x.id id) ms ≡ Some m → AllByRecursion (IsOnly id m) ms
only_one ms id m h found = only_of (λ (x : Message). x.id) ms id m h found

pub any-found : (ms : List Message) (id : Id) (m : Message) → find (λ x. id_eq x.id id) ms ≡ Some m → list_any (λ i. id_eq i id) (map (λ x. x.id) ms) ≡ true
any-found ms id m found = any-map (λ i. id_eq i id) (λ x. x.id) ms ∙ sym (find-any (λ x. id_eq x.id id) ms) ∙ ap is_some found

-- ---- one message changed

-- ids and places stay
pub record KeepsPlace (change : Message → Message) : Type 0 where
  pub id : (m : Message) → (change m).id ≡ m.id
  pub place : (m : Message) → (change m).place ≡ m.place

abbrev pub changed : Id → (Message → Message) → Message → Message
changed id change m = if id_eq m.id id then change m else m

changed-id : (id : Id) (change : Message → Message) → ((m : Message) → (change m).id ≡ m.id) → (m : Message) → (changed id change m).id ≡ m.id
changed-id id change keeps m = by (id_eq m.id id)
  where
    by : (t : Bool) → (if t then change m else m).id ≡ m.id
    by true = keeps m
    by false = refl

changed-place : (id : Id) (change : Message → Message) → KeepsPlace change → (m : Message) → (changed id change m).place ≡ m.place
changed-place id change keeps m = by (id_eq m.id id)
  where
    by : (t : Bool) → (if t then change m else m).place ≡ m.place
    by true = keeps.place m
    by false = refl

pub any-same : {A : Type 0} (p q : A → Bool) (xs : List A) → ((x : A) → p x ≡ q x) → list_any p xs ≡ list_any q xs
any-same p q [] same = refl
any-same p q (x ∷ xs) same = ap (λ (t : Bool). t || list_any p xs) (same x) ∙ ap (λ (t : Bool). q x || t) (any-same p q xs same)

-- a change that keeps ids keeps them all
pub map-ids : (id : Id) (change : Message → Message) → ((m : Message) → (change m).id ≡ m.id) → (ms : List Message) → map (λ x. x.id) (map (changed id change) ms) ≡ map (λ x. x.id) ms
map-ids id change keeps [] = refl
map-ids id change keeps (m ∷ ms) = ap (λ (i : Id). i ∷ map (λ x. x.id) (map (changed id change) ms)) (changed-id id change keeps m) ∙ ap (λ (is : List Id). m.id ∷ is) (map-ids id change keeps ms)

-- what stands where is the same
stands-changed : (b : Book) (id : Id) (change : Message → Message) → KeepsPlace change → (place : Place) (i : Id) → stands_in (place_eq place) (change_message b id change) i ≡ stands_in (place_eq place) b i
stands-changed b id change keeps place i =
    let there : Bool = list_any (λ (d : Damaged). id_eq d.id i && place_eq place d.place) b.damaged in
    ap (λ (t : Bool). t || there)
    (any-map (λ (x : Message). id_eq x.id i && place_eq place x.place) (changed id change) b.messages
    ∙ any-same (λ (x : Message). id_eq (changed id change x).id i && place_eq place (changed id change x).place) (λ (x : Message). id_eq x.id i && place_eq place x.place) b.messages
    (λ x. ap (λ (k : Id). id_eq k i && place_eq place (changed id change x).place) (changed-id id change keeps.id x) ∙ ap (λ (p : Place). id_eq x.id i && place_eq place p) (changed-place id change keeps x)))

-- what doesn't change with the files of an id
pub record KeepsOthers (id : Id) (f g : Files) : Type 0 where
  pub boot : (n : List ℕ) → g areas.Boot n ≡ f areas.Boot n
  pub messages : (m : Message) → (m.id ≡ id → ⊥) → MessageStands f m → MessageStands g m
  pub damaged : (d : Damaged) → (d.id ≡ id → ⊥) → DamagedStands f d → DamagedStands g d
  pub names : (place : Place) (i : Id) → IsId i → IsPlace place → is_some (file_at g place i) ≡ is_some (file_at f place i)

one_changed : (f g : Files) (id : Id) (change : Message → Message) (m x : Message) → KeepsOthers id f g → MessageStands g (change m) → (t : Bool) → id_eq x.id id ≡ t → MessageStands f x → IsOnly id m x → MessageStands g (if t then change x else x)
one_changed f g id change m x others new true e h only = subst (λ (y : Message). MessageStands g (change y)) (sym (only e)) new
one_changed f g id change m x others new false e h only = others.messages x (not_same x.id id e) h

some_there : {A : Type 0} (o p : Option A) (x : A) → is_some o ≡ is_some p → o ≡ Some x → (y : A) × (p ≡ Some y)
some_there o None x same e = absurd (true_false (is_some o) (ap is_some e) same)
some_there o (Some y) x same e = (y, refl)

-- The message of an id changed, and its files with it: the files stand for the changed book.
pub Stands-change : (f g : Files) (b : Book) (id : Id) (change : Message → Message) (m : Message) → KeepsPlace change → message_of b id ≡ Some m → KeepsOthers id f g → MessageStands g (change m) → Stands f b → Stands g (change_message b id change)
Stands-change f g b id change m keeps found others new h =
    let ms = map (λ (x : Message). x.id) b.messages in
    let ds = map (λ (x : Damaged). x.id) b.damaged in
    let only = only_one b.messages id m (distinct-front ms ds h.distinct) found in
    let none = distinct-behind ms ds id h.distinct (any-found b.messages id m found) in
    let damaged = each-both (DamagedStands f) (λ d. id_eq d.id id ≡ false) b.damaged h.damaged (each-unmap (λ i. id_eq i id ≡ false) (λ (d : Damaged). d.id) b.damaged (none-each (λ i. id_eq i id) ds none)) in
    record {
      boot = BootStands-kept f g b.generation others.boot h.boot;
      distinct = ap (λ (is : List Id). are_distinct (is ++ ds)) (map-ids id change keeps.id b.messages) ∙ h.distinct;
      messages = each-map (λ x. MessageStands f x × IsOnly id m x) (MessageStands g) (changed id change) b.messages (λ x k. one_changed f g id change m x others new (id_eq x.id id) refl k.0 k.1) (each-both (MessageStands f) (IsOnly id m) b.messages h.messages only);
      damaged = each-same (λ d. DamagedStands f d × (id_eq d.id id ≡ false)) (DamagedStands g) b.damaged (λ d k. others.damaged d (not_same d.id id k.1) k.0) damaged;
      nothing_else = λ place i bytes hi hp there.
          let old = some_there (file_at g place i) (file_at f place i) bytes (others.names place i hi hp) there in
          stands-changed b id change keeps place i ∙ h.nothing_else place i old.0 hi hp old.1;
    }
