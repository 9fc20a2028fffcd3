-- The first name of an area that is looked for is that of the least id, or of the least name, of the book.
use Rattle.std.proofs.Common.{◌≡◌, ℕ, Bool, true, false, not, List, [], ◌∷◌, filter, is_some, if◌then◌else◌, Option, Some, None, refl, sym, ap, subst, ◌∙◌, inl, inr, arith}
use Rattle.std.specs.Option.{option_map_or}
use Rattle.std.specs.Prelude.{IsSome}
use Rattle.std.specs.Ordering.{nat_cmp}
use Rattle.std.specs.declared.cmp.Ordering.{Ordering}
use Rattle.std.specs.declared.cmp.Ordering.TheVariants.{Equal, Greater, Less}
use Rattle.std.specs.Cmp.Lexicographic.{slice_cmp}
use Rattle.std.proofs.lemmas.Bool.Decides.{nat_tests}
use Rattle.q_core.specs.declared.state.Core.{Core}
use Rattle.q_core.specs.Held.{is_admitted_in}
use Rattle.q_laws.proofs.Books.{at_place, damaged_at, in_ids_at}
use Rattle.q_laws.proofs.Members.{IsIn, in_filter, in_filtered, least_in}
use Rattle.q_laws.proofs.Places.{nothing_in}
use Rattle.q_model.specs.declared.id.Id.{Id}
use Rattle.q_model.specs.declared.rows.DeferredName.{DeferredName}
use Rattle.q_model.specs.declared.rows.Place.{Place}
use Rattle.q_model.specs.declared.rows.Place.TheVariants as places
use Rattle.q_model.specs.declared.spot.Area.TheVariants as areas
use Rattle.q_model.specs.Book.{Book, ids_at}
use Rattle.q_model.specs.FilesStand.{DamagedStands, MessageStands, Stands}
use Rattle.q_model.specs.Ids.{id_before}
use Rattle.q_model.specs.IdTexts.{id_text, IsId}
use Rattle.q_model.specs.Lists.{least}
use Rattle.q_model.specs.Places.{is_active, is_incoming}
use Rattle.q_model.specs.SpoolFiles.{file_at, Files, IsPlace}
use Rattle.q_model.proofs.IdLaws.{same_id}
use Rattle.q_model.proofs.NameOrder.{is_less}
use Rattle.q_model.proofs.StandLaws.{true_false}
use Rattle.q_look.specs.FirstNames.{IsAhead, IsFirstWanted, IsFirstAt, IsNumbered, NamesId, NamesLeftover, Naming}
use Rattle.q_look.proofs.BookFacts.{each_at, file_stands, who_stands}
use Rattle.q_look.proofs.NumberedOrder.{numbered-order}

-- ---- the least of a list

module _ {A : Type 0} (before : A → A → Bool) (connected : (a b : A) → before a b ≡ false → before b a ≡ false → a ≡ b) where
  first_is : (x y z : A) (t : Bool) → before y z ≡ t → z ≡ x → before y x ≡ false → (if t then y else z) ≡ x
  first_is x y z true e is none = absurd (true_false (before y z) e (ap (before y) is ∙ none))
  first_is x y z false e is none = is

  later_is : (x y z : A) (t : Bool) → before y z ≡ t → y ≡ x → before z x ≡ false → (if t then y else z) ≡ x
  later_is x y z true e is none = is
  later_is x y z false e is none = connected z x none (ap (λ (i : A). before i z) (sym is) ∙ e)

  same_some : (x y : A) → Some x ≡ Some y → x ≡ y
  same_some x y e = cc

  least_by : (x z : A) (zs : List A) (o : Option A) → least before zs ≡ o → ((y : A) → IsIn y (z ∷ zs) → before y x ≡ false) → (IsIn x zs → least before zs ≡ Some x) → IsIn x (z ∷ zs) → option_map_or (λ y. if before y z then y else z) o z ≡ x
  least_by x z zs None e none rest (inl same) = same
  least_by x z zs None e none rest (inr behind) = absurd (nothing (sym e ∙ rest behind))
    where
      nothing : None ≡ Some x → ⊥
      nothing k = cc
  least_by x z zs (Some y) e none rest (inl same) = first_is x y z (before y z) refl same (none y (inr (least_in before y zs e)))
  least_by x z zs (Some y) e none rest (inr behind) = later_is x y z (before y z) refl (same_some y x (sym e ∙ rest behind)) (none z (inl refl))

  -- what stands in the list, and has nothing of the list before it, is the least
  least_is : (x : A) (xs : List A) → IsIn x xs → ((y : A) → IsIn y xs → before y x ≡ false) → least before xs ≡ Some x
  least_is x [] inside none = absurd inside
  least_is x (z ∷ zs) inside none = ap Some (least_by x z zs (least before zs) refl none (λ behind. least_is x zs behind (λ y h. none y (inr h))) inside)

  module _ (xs : List A) (names : Naming) (f : List ℕ → Option (List ℕ)) (after : Option (List ℕ)) (text : A → List ℕ) (file : A → DeferredName)
      (into : (y : A) → IsIn y xs → IsAhead names f after (text y) (file y))
      (order : (y x : A) → IsIn y xs → IsIn x xs → before y x ≡ true → slice_cmp nat_cmp (text y) (text x) ≡ Less) where
    pub least_none : IsFirstWanted names f after None → least before xs ≡ None
    least_none none = ap (least before) (nothing_in xs (λ y there. none (text y) (file y) (into y there)))

    pub least_first : (d : DeferredName) → (first : IsFirstAt names f after d) → (x : A) → IsIn x xs → text x ≡ first.name → least before xs ≡ Some x
    least_first d first x inside same = least_is x xs inside (λ y there. by y there (before y x) refl)
      where
        by : (y : A) → IsIn y xs → (t : Bool) → before y x ≡ t → t ≡ false
        by y there true e = absurd (first.none_before (text y) (file y) (into y there) (subst (λ (n : List ℕ). slice_cmp nat_cmp (text y) n ≡ Less) same (order y x there inside e)))
        by y there false e = refl

-- ---- ids and names in order

pub numbered : (id : Id) → IsId id → IsNumbered id
numbered id h = record { generation = h.generation_fits; serial = h.serial_fits }

pub ids_connected : (a b : Id) → id_before a b ≡ false → id_before b a ≡ false → a ≡ b
ids_connected a b h k = same_id a b (grind (arith, nat_tests)) (grind (arith, nat_tests)) (grind (arith, nat_tests))

pub less_is : (o : Ordering) → is_less o ≡ true → o ≡ Less
less_is Less h = refl
less_is Equal h = absurd cc
less_is Greater h = absurd cc

ids_order : (y x : Id) → IsId y → IsId x → id_before y x ≡ true → slice_cmp nat_cmp (id_text y) (id_text x) ≡ Less
ids_order y x hy hx e = less_is (slice_cmp nat_cmp (id_text y) (id_text x)) (numbered-order y x (numbered y hy) (numbered x hx) ∙ e)

-- ---- incoming and active

pub some_is : (o : Option (List ℕ)) → is_some o ≡ true → IsSome o
some_is o h = h

pub is_true : (o : Option (List ℕ)) → IsSome o → is_some o ≡ true
is_true o h = h

module _ (f : Files) (b : Book) (h : Stands f b) (p : Place) (test : Place → Bool) (passes : test p ≡ true) (only : (q : Place) → test q ≡ true → q ≡ p) where
  listed_there : (id : Id) → IsIn id (ids_at test b) → IsId id × (is_some (file_at f p id) ≡ true)
  listed_there id inside = elim (in_ids_at test b id inside) [
    | inl m ↦
        let s = each_at (MessageStands f) m.0 b.messages h.messages m.1 in
        (subst IsId m.2 s.id, ap is_some (ap (file_at f p) (sym m.2) ∙ ap (λ (q : Place). file_at f q (m.0).id) (sym (only (m.0).place m.3)) ∙ s.there))
    | inr d ↦
        let s = each_at (DamagedStands f) d.0 b.damaged h.damaged d.1 in
        (subst IsId d.2 s.id, ap is_some (ap (file_at f p) (sym d.2) ∙ ap (λ (q : Place). file_at f q (d.0).id) (sym (only (d.0).place d.3)) ∙ s.there))
  ]

  there_listed : (id : Id) → IsPlace p → IsId id → is_some (file_at f p id) ≡ true → IsIn id (ids_at test b)
  there_listed id hp hi there = elim (who_stands b p id (file_stands f b h p id hp hi there)) [
    | inl m ↦ subst (λ (i : Id). IsIn i (ids_at test b)) m.same (at_place test b m.message m.inside (ap test (sym m.place) ∙ passes))
    | inr d ↦ subst (λ (i : Id). IsIn i (ids_at test b)) d.same (damaged_at test b d.damaged d.inside (ap test (sym d.place) ∙ passes))
  ]

only_incoming : (q : Place) → is_incoming q ≡ true → q ≡ places.Incoming
only_incoming places.Incoming h = refl
only_incoming places.Active h = absurd cc
only_incoming (places.Deferred due) h = absurd cc
only_incoming places.Hold h = absurd cc
only_incoming places.Corrupt h = absurd cc

only_active : (q : Place) → is_active q ≡ true → q ≡ places.Active
only_active places.Active h = refl
only_active places.Incoming h = absurd cc
only_active (places.Deferred due) h = absurd cc
only_active places.Hold h = absurd cc
only_active places.Corrupt h = absurd cc

named_id : (id : Id) → IsId id → NamesId (id_text id) (record { due = 0; id = id })
named_id id hi = record { form = hi; due = refl; says = refl }

module _ (f : Files) (b : Book) (h : Stands f b) where
  abbrev waiting : List Id
  waiting = ids_at is_incoming b

  incoming_into : (id : Id) → IsIn id (ids_at is_incoming b) → IsAhead NamesId (f areas.Incoming) None (id_text id) (record { due = 0; id = id })
  incoming_into id inside =
      let k = listed_there f b h places.Incoming is_incoming refl only_incoming id inside in
      record { there = some_is (f areas.Incoming (id_text id)) k.1; behind = tt; named = named_id id k.0 }

  incoming_order : (y x : Id) → IsIn y (ids_at is_incoming b) → IsIn x (ids_at is_incoming b) → id_before y x ≡ true → slice_cmp nat_cmp (id_text y) (id_text x) ≡ Less
  incoming_order y x hy hx e = ids_order y x (listed_there f b h places.Incoming is_incoming refl only_incoming y hy).0 (listed_there f b h places.Incoming is_incoming refl only_incoming x hx).0 e

  pub incoming_none : IsFirstWanted NamesId (f areas.Incoming) None None → least id_before (ids_at is_incoming b) ≡ None
  incoming_none none = least_none id_before ids_connected (ids_at is_incoming b) NamesId (f areas.Incoming) None id_text (λ id. record { due = 0; id = id }) incoming_into incoming_order none

  pub incoming_first : (d : DeferredName) → IsFirstAt NamesId (f areas.Incoming) None d → least id_before (ids_at is_incoming b) ≡ Some d.id
  incoming_first d first =
      let named = first.ahead.named in
      least_first id_before ids_connected (ids_at is_incoming b) NamesId (f areas.Incoming) None id_text (λ id. record { due = 0; id = id }) incoming_into incoming_order d first d.id
      (there_listed f b h places.Incoming is_incoming refl only_incoming d.id tt named.form (is_true (f areas.Incoming (id_text d.id)) (subst (λ (n : List ℕ). IsSome (f areas.Incoming n)) (sym named.says) first.ahead.there))) named.says

module _ (f : Files) (b : Book) (h : Stands f b) (core : Core) (held : Id → Bool) (same : (id : Id) → is_admitted_in core id ≡ held id) where
  left : Id → Bool
  left id = not (held id)

  left_false : (t : Bool) → not t ≡ true → t ≡ false
  left_false true e = absurd cc
  left_false false e = refl

  active_into : (id : Id) → IsIn id (filter (λ i. not (held i)) (ids_at is_active b)) → IsAhead (NamesLeftover core) (f areas.Active) None (id_text id) (record { due = 0; id = id })
  active_into id inside =
      let two = in_filtered (λ i. not (held i)) id (ids_at is_active b) inside in
      let k = listed_there f b h places.Active is_active refl only_active id two.0 in
      record { there = some_is (f areas.Active (id_text id)) k.1; behind = tt; named = record { named = named_id id k.0; left = same id ∙ left_false (held id) two.1 } }

  active_order : (y x : Id) → IsIn y (filter (λ i. not (held i)) (ids_at is_active b)) → IsIn x (filter (λ i. not (held i)) (ids_at is_active b)) → id_before y x ≡ true → slice_cmp nat_cmp (id_text y) (id_text x) ≡ Less
  active_order y x hy hx e = ids_order y x (active_into y hy).named.named.form (active_into x hx).named.named.form e

  pub active_none : IsFirstWanted (NamesLeftover core) (f areas.Active) None None → least id_before (filter (λ i. not (held i)) (ids_at is_active b)) ≡ None
  active_none none = least_none id_before ids_connected (filter (λ i. not (held i)) (ids_at is_active b)) (NamesLeftover core) (f areas.Active) None id_text (λ id. record { due = 0; id = id }) active_into active_order none

  pub active_first : (d : DeferredName) → IsFirstAt (NamesLeftover core) (f areas.Active) None d → least id_before (filter (λ i. not (held i)) (ids_at is_active b)) ≡ Some d.id
  active_first d first =
      let named = first.ahead.named.named in
      let inside = there_listed f b h places.Active is_active refl only_active d.id tt named.form (is_true (f areas.Active (id_text d.id)) (subst (λ (n : List ℕ). IsSome (f areas.Active n)) (sym named.says) first.ahead.there)) in
      least_first id_before ids_connected (filter (λ i. not (held i)) (ids_at is_active b)) (NamesLeftover core) (f areas.Active) None id_text (λ id. record { due = 0; id = id }) active_into active_order d first d.id
      (in_filter (λ i. not (held i)) d.id (ids_at is_active b) inside (ap not (sym (same d.id) ∙ first.ahead.named.left))) named.says
