-- The least id of incoming, by its files.
use Rattle.std.proofs.Common.{◌≡◌, ◌&&◌, ℕ, Bool, true, false, List, [], ◌∷◌, map, filter, is_some, Option, Some, None, if◌then◌else◌, refl, sym, ap, subst, ◌∙◌, ◌⊎◌, ⊎_elim, inl, inr, arith}
use Rattle.std.specs.List.{AllByRecursion, list_any}
use Rattle.std.specs.Option.{option_map_or}
use Rattle.std.proofs.lemmas.Bool.{and_parts, or_cases, or_left, or_right}
use Rattle.std.proofs.lemmas.Bool.Decides.{nat_tests}
use Rattle.std.proofs.lemmas.List.Folds.{list_any-append}
use Rattle.q_model.specs.declared.id.Id.{Id}
use Rattle.q_model.specs.declared.rows.Place.{Place}
use Rattle.q_model.specs.declared.rows.Place.TheVariants as places
use Rattle.q_model.specs.declared.spot.Area.TheVariants as areas
use Rattle.q_model.specs.Book.{Book, Damaged, ids_at}
use Rattle.q_model.specs.FilesStand.{DamagedStands, MessageStands, Stands}
use Rattle.q_model.specs.Ids.{id_before, id_eq}
use Rattle.q_model.specs.IdTexts.{id_text, IsId}
use Rattle.q_model.specs.Lists.{least}
use Rattle.q_model.specs.Message.{Message}
use Rattle.q_model.specs.Places.{is_incoming, place_eq}
use Rattle.q_model.specs.SpoolFiles.{file_at, Files}
use Rattle.q_model.proofs.EachLaws.{each-append, each-same}
use Rattle.q_model.proofs.IdLaws.{id_eq-refl, id_eq-true, same_id}
use Rattle.q_model.proofs.SpotLaws.{place_eq-true}
use Rattle.q_model.proofs.StandLaws.{true_false}

-- ---- the least of a list

-- of two ids that aren't one before the other, both are one
connected : (a b : Id) → id_before a b ≡ false → id_before b a ≡ false → a ≡ b
connected a b h k = same_id a b (grind (arith, nat_tests)) (grind (arith, nat_tests)) (grind (arith, nat_tests))

some_same : (a b : Id) → Some a ≡ Some b → a ≡ b
some_same a b e = cc

pick : (P : Id → Type 0) (x z : Id) (t : Bool) → P x → P z → P (if t then z else x)
pick P x z true h k = k
pick P x z false h k = h

has_by : (P : Id → Type 0) (x : Id) (o : Option Id) → P x → ((z : Id) → o ≡ Some z → P z) → P (option_map_or (λ z. if id_before z x then z else x) o x)
has_by P x None h rest = h
has_by P x (Some z) h rest = pick P x z (id_before z x) h (rest z refl)

least-has : (P : Id → Type 0) (xs : List Id) (y : Id) → AllByRecursion P xs → least id_before xs ≡ Some y → P y
least-has P [] y each h = absurd cc
least-has P (x ∷ xs) y each h = subst P (some_same (option_map_or (λ z. if id_before z x then z else x) (least id_before xs) x) y h) (has_by P x (least id_before xs) each.0 (λ z e. least-has P xs z each.1 e))

first_is : (x y z : Id) (t : Bool) → id_before y z ≡ t → x ≡ z → id_before y x ≡ false → (if t then y else z) ≡ x
first_is x y z true e is before = absurd (true_false (id_before y z) e (ap (id_before y) (sym is) ∙ before))
first_is x y z false e is before = sym is

later_is : (x z : Id) (t : Bool) → id_before z x ≡ false → id_before x z ≡ t → (if t then x else z) ≡ x
later_is x z true none e = refl
later_is x z false none e = connected z x none e

is_by : (x z : Id) (o : Option Id) → id_before z x ≡ false → ((y : Id) → o ≡ Some y → id_before y x ≡ false) → (id_eq x z ≡ true) ⊎ (o ≡ Some x) → option_map_or (λ y. if id_before y z then y else z) o z ≡ x
is_by x z None none others (inl here) = sym (id_eq-true x z here)
is_by x z None none others (inr behind) = absurd (no behind)
  where
    no : None ≡ Some x → ⊥
    no k = cc
is_by x z (Some y) none others (inl here) = first_is x y z (id_before y z) refl (id_eq-true x z here) (others y refl)
is_by x z (Some y) none others (inr behind) = subst (λ (i : Id). (if id_before i z then i else z) ≡ x) (sym (some_same y x behind)) (later_is x z (id_before x z) none refl)

-- what stands in the list, and has nothing of the list before it, is the least
pub least-is : (xs : List Id) (x : Id) → list_any (id_eq x) xs ≡ true → AllByRecursion (λ y. id_before y x ≡ false) xs → least id_before xs ≡ Some x
least-is [] x there none = absurd cc
least-is (z ∷ zs) x there none = ap (λ (y : Id). Some y) (is_by x z (least id_before zs) none.0 (λ y e. least-has (λ i. id_before i x ≡ false) zs y none.1 e)
    (⊎_elim (λ here. inl here) (λ behind. inr (least-is zs x behind none.1)) (or_cases (id_eq x z) (list_any (id_eq x) zs) there)))

-- ---- the ids in incoming

incoming_place : (p : Place) → is_incoming p ≡ true → p ≡ places.Incoming
incoming_place places.Incoming h = refl
incoming_place p h = absurd cc

is-incoming : (p : Place) → place_eq places.Incoming p ≡ true → is_incoming p ≡ true
is-incoming p h = ap is_incoming (sym (place_eq-true places.Incoming p h))

-- a file stands there
abbrev HasFile : Files → Id → Type 0
HasFile f i = IsId i × (is_some (f areas.Incoming (id_text i)) ≡ true)

module _ {A : Type 0} (id_of : A → Id) (place_of : A → Place) where
  abbrev there_of : List A → List Id
  there_of xs = map id_of (filter (λ x. is_incoming (place_of x)) xs)

  there_by : (Q : Id → Type 0) (x : A) (xs : List A) (t : Bool) → (t ≡ true → Q (id_of x)) → AllByRecursion Q (there_of xs) → AllByRecursion Q (map id_of (if t then x ∷ filter (λ y. is_incoming (place_of y)) xs else filter (λ y. is_incoming (place_of y)) xs))
  there_by Q x xs true step rest = (step refl, rest)
  there_by Q x xs false step rest = rest

  each-there : (P : A → Type 0) (Q : Id → Type 0) (xs : List A) → ((x : A) → P x → is_incoming (place_of x) ≡ true → Q (id_of x)) → AllByRecursion P xs → AllByRecursion Q (there_of xs)
  each-there P Q [] step h = tt
  each-there P Q (x ∷ xs) step h = there_by Q x xs (is_incoming (place_of x)) (step x h.0) (each-there P Q xs step h.1)

  abbrev is_there : Id → A → Bool
  is_there i x = id_eq (id_of x) i && place_eq places.Incoming (place_of x)

  any_by : (i : Id) (x : A) (xs : List A) (t : Bool) → is_incoming (place_of x) ≡ t → (is_there i x ≡ true) ⊎ (list_any (id_eq i) (there_of xs) ≡ true)
      → list_any (id_eq i) (map id_of (if t then x ∷ filter (λ y. is_incoming (place_of y)) xs else filter (λ y. is_incoming (place_of y)) xs)) ≡ true
  any_by i x xs true e (inl here) = or_left (id_eq i (id_of x)) (list_any (id_eq i) (there_of xs)) (ap (id_eq i) (id_eq-true (id_of x) i (and_parts (id_eq (id_of x) i) (place_eq places.Incoming (place_of x)) here).0) ∙ id_eq-refl i)
  any_by i x xs true e (inr behind) = or_right (id_eq i (id_of x)) (list_any (id_eq i) (there_of xs)) behind
  any_by i x xs false e (inl here) = absurd (true_false (is_incoming (place_of x)) (is-incoming (place_of x) (and_parts (id_eq (id_of x) i) (place_eq places.Incoming (place_of x)) here).1) e)
  any_by i x xs false e (inr behind) = behind

  any-there : (i : Id) (xs : List A) → list_any (is_there i) xs ≡ true → list_any (id_eq i) (there_of xs) ≡ true
  any-there i [] h = absurd cc
  any-there i (x ∷ xs) h = any_by i x xs (is_incoming (place_of x)) refl (⊎_elim (λ here. inl here) (λ behind. inr (any-there i xs behind)) (or_cases (is_there i x) (list_any (is_there i) xs) h))

-- each id in incoming has its file
pub each-file : (f : Files) (b : Book) → Stands f b → AllByRecursion (HasFile f) (ids_at is_incoming b)
each-file f b h = each-append (HasFile f) (map (λ m. m.id) (filter (λ m. is_incoming m.place) b.messages)) (map (λ d. d.id) (filter (λ d. is_incoming d.place) b.damaged))
    (each-there (λ (m : Message). m.id) (λ m. m.place) (MessageStands f) (HasFile f) b.messages (λ m s e. (s.id, ap is_some (ap (λ (p : Place). file_at f p m.id) (sym (incoming_place m.place e)) ∙ s.there))) h.messages)
    (each-there (λ (d : Damaged). d.id) (λ d. d.place) (DamagedStands f) (HasFile f) b.damaged (λ d s e. (s.id, ap is_some (ap (λ (p : Place). file_at f p d.id) (sym (incoming_place d.place e)) ∙ s.there))) h.damaged)

-- each file of an id in incoming is of an id of the book
pub file-there : (f : Files) (b : Book) (i : Id) (bytes : List ℕ) → Stands f b → IsId i → f areas.Incoming (id_text i) ≡ Some bytes → list_any (id_eq i) (ids_at is_incoming b) ≡ true
file-there f b i bytes h hi there =
    list_any-append (id_eq i) (map (λ m. m.id) (filter (λ m. is_incoming m.place) b.messages)) (map (λ d. d.id) (filter (λ d. is_incoming d.place) b.damaged))
    ∙ elim (or_cases (list_any (λ (m : Message). id_eq m.id i && place_eq places.Incoming m.place) b.messages) (list_any (λ (d : Damaged). id_eq d.id i && place_eq places.Incoming d.place) b.damaged) (h.nothing_else places.Incoming i bytes hi tt there)) [
      | inl at ↦ or_left (list_any (id_eq i) (map (λ m. m.id) (filter (λ m. is_incoming m.place) b.messages))) _ (any-there (λ (m : Message). m.id) (λ m. m.place) i b.messages at)
      | inr at ↦ or_right (list_any (id_eq i) (map (λ m. m.id) (filter (λ m. is_incoming m.place) b.messages))) _ (any-there (λ (d : Damaged). d.id) (λ d. d.place) i b.damaged at)
    ]

-- The least id with a file in incoming is the least id of the book there.
pub incoming-is : (f : Files) (b : Book) (x : Id) (bytes : List ℕ) → Stands f b → IsId x → f areas.Incoming (id_text x) ≡ Some bytes → ((j : Id) → IsId j → is_some (f areas.Incoming (id_text j)) ≡ true → id_before j x ≡ false) → least id_before (ids_at is_incoming b) ≡ Some x
incoming-is f b x bytes h hx there none = least-is (ids_at is_incoming b) x (file-there f b x bytes h hx there) (each-same (HasFile f) (λ j. id_before j x ≡ false) (ids_at is_incoming b) (λ j has. none j has.0 has.1) (each-file f b h))

none_least : (xs : List Id) → AllByRecursion (λ i. ⊥) xs → least id_before xs ≡ None
none_least [] h = refl
none_least (x ∷ xs) h = absurd h.0

-- Without such a file there is none.
pub incoming-none : (f : Files) (b : Book) → Stands f b → ((j : Id) → IsId j → is_some (f areas.Incoming (id_text j)) ≡ true → ⊥) → least id_before (ids_at is_incoming b) ≡ None
incoming-none f b h none = none_least (ids_at is_incoming b) (each-same (HasFile f) (λ i. ⊥) (ids_at is_incoming b) (λ j has. none j has.0 has.1) (each-file f b h))
