-- The first name in deferred that is looked for is the scan's next name.
use Rattle.std.proofs.Common.{◌≡◌, ℕ, ◌<◌, ◌≤◌, ◌^◌, Bool, true, false, eqb, ltb, leb, ◌&&◌, ◌||◌, List, [], ◌∷◌, filter, filter_map, is_some, Option, Some, None, refl, sym, ap, subst, ◌∙◌, inl, inr, arith}
use Rattle.std.specs.List.{cons_option}
use Rattle.std.specs.Option.{option_map_or}
use Rattle.std.specs.Prelude.{IsSome}
use Rattle.std.specs.Ordering.{nat_cmp}
use Rattle.std.specs.declared.cmp.Ordering.TheVariants.{Less}
use Rattle.std.specs.Cmp.Lexicographic.{slice_cmp}
use Rattle.std.proofs.lemmas.Bool.{and_from, and_parts, le-leb, leb-true, or_parts}
use Rattle.std.proofs.lemmas.Bool.Decides.{nat_tests}
use Rattle.q_host.specs.Reads.{IsAfter}
use Rattle.q_laws.proofs.Members.{IsIn, in_either, in_filter, in_filtered, in_left, in_right}
use Rattle.q_laws.proofs.Picked.{in_given}
use Rattle.q_laws.proofs.Places.{nothing_in}
use Rattle.q_model.specs.declared.id.Id.{Id}
use Rattle.q_model.specs.declared.rows.DeferredName.{DeferredName}
use Rattle.q_model.specs.declared.rows.Place.{Place}
use Rattle.q_model.specs.declared.rows.Place.TheVariants as places
use Rattle.q_model.specs.declared.rows.Scan.{Scan}
use Rattle.q_model.specs.declared.spot.Area.TheVariants as areas
use Rattle.q_model.specs.Book.{Book, Damaged}
use Rattle.q_model.specs.FilesStand.{DamagedStands, MessageStands, Stands}
use Rattle.q_model.specs.Ids.{id_before}
use Rattle.q_model.specs.IdTexts.{due_text, IsId}
use Rattle.q_model.specs.Lists.{least}
use Rattle.q_model.specs.Message.{Message}
use Rattle.q_model.specs.Scans.{deferred_name, deferred_names, is_ahead, name_before, scan_next}
use Rattle.q_model.specs.SpoolFiles.{file_at, Files, IsPlace}
use Rattle.q_model.proofs.NameOrder.{is_less}
use Rattle.q_look.specs.FirstNames.{IsAfterPlace, IsAhead, IsFirstWanted, IsFirstAt, NamesDue}
use Rattle.q_look.proofs.BookFacts.{each_at, file_stands, who_stands}
use Rattle.q_look.proofs.Leasts.{ids_connected, is_true, least_first, least_none, less_is, numbered, some_is}
use Rattle.q_look.proofs.NumberedOrder.{due-order}

-- ---- names in order

drop_true : (t x : Bool) → t ≡ true → (t && x) ≡ false → x ≡ false
drop_true true x e h = h
drop_true false x e h = absurd cc

names_connected : (a b : DeferredName) → name_before a b ≡ false → name_before b a ≡ false → a ≡ b
names_connected a b h k =
    let one = or_parts (ltb a.due b.due) (eqb a.due b.due && id_before a.id b.id) h in
    let two = or_parts (ltb b.due a.due) (eqb b.due a.due && id_before b.id a.id) k in
    let due : a.due ≡ b.due = grind (arith, nat_tests, one.0, two.0) in
    let there : eqb a.due b.due ≡ true = grind (arith, nat_tests) in
    let back : eqb b.due a.due ≡ true = grind (arith, nat_tests) in
    let id : a.id ≡ b.id = ids_connected a.id b.id (drop_true (eqb a.due b.due) (id_before a.id b.id) there one.1) (drop_true (eqb b.due a.due) (id_before b.id a.id) back two.1) in
    ap (λ (d : ℕ). record { due = d; id = a.id }) due ∙ ap (λ (i : Id). record { due = b.due; id = i }) id

-- ---- the names in deferred, and their files

record HasName (f : Files) (n : DeferredName) : Type 0 where
  form : IsId n.id
  digits : n.due < 10 ^ 12
  there : is_some (f areas.Deferred (due_text n.due n.id)) ≡ true

give_one : {A B : Type 0} (f : A → Option B) (y : B) (xs : List A) (o : Option B) → o ≡ Some y → IsIn y (cons_option o (filter_map f xs))
give_one f y xs None e = absurd cc
give_one f y xs (Some v) e = let same : v ≡ y = cc in inl same

give_more : {A B : Type 0} (f : A → Option B) (y : B) (xs : List A) (o : Option B) → IsIn y (filter_map f xs) → IsIn y (cons_option o (filter_map f xs))
give_more f y xs None h = h
give_more f y xs (Some v) h = inr h

give_in : {A B : Type 0} (f : A → Option B) (y : B) (x : A) (xs : List A) → IsIn x xs → f x ≡ Some y → IsIn y (filter_map f xs)
give_in f y x [] h e = absurd h
give_in f y x (z ∷ zs) (inl same) e = give_one f y zs (f z) (ap f same ∙ e)
give_in f y x (z ∷ zs) (inr h) e = give_more f y zs (f z) (give_in f y x zs h e)

named_place : (place : Place) (id : Id) (n : DeferredName) → deferred_name place id ≡ Some n → (id ≡ n.id) × (place ≡ places.Deferred n.due)
named_place places.Incoming id n h = absurd cc
named_place places.Active id n h = absurd cc
named_place (places.Deferred due) id n h = let same : record { due = due; id = id } ≡ n = cc in (ap (λ (x : DeferredName). x.id) same, ap (λ (x : DeferredName). places.Deferred x.due) same)
named_place places.Hold id n h = absurd cc
named_place places.Corrupt id n h = absurd cc

module _ (f : Files) (b : Book) (h : Stands f b) where
  has_name : (n : DeferredName) → IsIn n (deferred_names b) → HasName f n
  has_name n inside =
      elim (in_either n (filter_map (λ (x : Message). deferred_name x.place x.id) b.messages) (filter_map (λ (d : Damaged). deferred_name d.place d.id) b.damaged) inside) [
        | inl whole ↦
            let one = in_given (λ (x : Message). deferred_name x.place x.id) n b.messages whole in
            let is = named_place (one.0).place (one.0).id n one.2 in
            let s = each_at (MessageStands f) one.0 b.messages h.messages one.1 in
            record {
              form = subst IsId is.0 s.id;
              digits = subst IsPlace is.1 s.place;
              there = ap is_some (ap (file_at f (places.Deferred n.due)) (sym is.0) ∙ ap (λ (p : Place). file_at f p (one.0).id) (sym is.1) ∙ s.there);
            }
        | inr broken ↦
            let one = in_given (λ (d : Damaged). deferred_name d.place d.id) n b.damaged broken in
            let is = named_place (one.0).place (one.0).id n one.2 in
            let s = each_at (DamagedStands f) one.0 b.damaged h.damaged one.1 in
            record {
              form = subst IsId is.0 s.id;
              digits = subst IsPlace is.1 s.place;
              there = ap is_some (ap (file_at f (places.Deferred n.due)) (sym is.0) ∙ ap (λ (p : Place). file_at f p (one.0).id) (sym is.1) ∙ s.there);
            }
      ]

  name_of_file : (n : DeferredName) → HasName f n → IsIn n (deferred_names b)
  name_of_file n has =
      let names = filter_map (λ (x : Message). deferred_name x.place x.id) b.messages in
      let broken = filter_map (λ (d : Damaged). deferred_name d.place d.id) b.damaged in
      elim (who_stands b (places.Deferred n.due) n.id (file_stands f b h (places.Deferred n.due) n.id has.digits has.form has.there)) [
        | inl m ↦ in_left n names broken (give_in (λ (x : Message). deferred_name x.place x.id) n m.message b.messages m.inside (ap (λ (p : Place). deferred_name p m.message.id) (sym m.place) ∙ ap (deferred_name (places.Deferred n.due)) m.same))
        | inr d ↦ in_right n names broken (give_in (λ (x : Damaged). deferred_name x.place x.id) n d.damaged b.damaged d.inside (ap (λ (p : Place). deferred_name p d.damaged.id) (sym d.place) ∙ ap (deferred_name (places.Deferred n.due)) d.same))
      ]

  -- behind a due time that no name says there is none
  pub none_later : (a : DeferredName) (until : ℕ) → 10 ^ 12 ≤ a.due → scan_next b (record { place = Some a; until = until }) ≡ None
  none_later a until late = ap (least name_before) (nothing_in (filter (is_ahead (record { place = Some a; until = until })) (deferred_names b)) (λ n inside.
      let two = in_filtered (is_ahead (record { place = Some a; until = until })) n (deferred_names b) inside in
      let has = has_name n two.0 in
      never n has.digits (name_before a n) refl (and_parts (leb n.due until) (name_before a n) two.1).1))
    where
      never : (n : DeferredName) → n.due < 10 ^ 12 → (t : Bool) → name_before a n ≡ t → t ≡ true → ⊥
      never n digits false e k = absurd cc
      never n digits true e k =
          let less : ltb a.due n.due ≡ false = grind (arith, nat_tests) in
          let apart : eqb a.due n.due ≡ false = grind (arith, nat_tests) in
          absurd (by (ltb a.due n.due) (eqb a.due n.due) (id_before a.id n.id) less apart e)
        where
          by : (s t u : Bool) → s ≡ false → t ≡ false → (s || (t && u)) ≡ true → ⊥
          by s t u hs ht h = cc

module _ (f : Files) (b : Book) (h : Stands f b) (until : ℕ) where
  ahead_text : (place : Option DeferredName) (after : Option (List ℕ)) → IsAfterPlace place after → (n : DeferredName) → HasName f n → option_map_or (λ p. name_before p n) place true ≡ true → IsAfter after (due_text n.due n.id)
  ahead_text None after is n has e = subst (λ (o : Option (List ℕ)). IsAfter o (due_text n.due n.id)) (sym is) tt
  ahead_text (Some a) after is n has e =
      subst (λ (o : Option (List ℕ)). IsAfter o (due_text n.due n.id)) (sym is.0)
      (less_is (slice_cmp nat_cmp (due_text a.due a.id) (due_text n.due n.id)) (due-order a n is.1 has.digits is.2 (numbered n.id has.form) ∙ e))

  text_ahead : (place : Option DeferredName) (after : Option (List ℕ)) → IsAfterPlace place after → (n : DeferredName) → HasName f n → IsAfter after (due_text n.due n.id) → option_map_or (λ p. name_before p n) place true ≡ true
  text_ahead None after is n has e = refl
  text_ahead (Some a) after is n has e =
      let less : slice_cmp nat_cmp (due_text a.due a.id) (due_text n.due n.id) ≡ Less = subst (λ (o : Option (List ℕ)). IsAfter o (due_text n.due n.id)) is.0 e in
      sym (due-order a n is.1 has.digits is.2 (numbered n.id has.form)) ∙ ap is_less less

  module _ (place : Option DeferredName) (after : Option (List ℕ)) (is : IsAfterPlace place after) where
    abbrev scan : Scan
    scan = record { place = place; until = until }

    deferred_into : (n : DeferredName) → IsIn n (filter (is_ahead (record { place = place; until = until })) (deferred_names b)) → IsAhead (NamesDue until) (f areas.Deferred) after (due_text n.due n.id) n
    deferred_into n inside =
        let two = in_filtered (is_ahead (record { place = place; until = until })) n (deferred_names b) inside in
        let has = has_name f b h n two.0 in
        let parts = and_parts (leb n.due until) (option_map_or (λ p. name_before p n) place true) two.1 in
        record {
          there = some_is (f areas.Deferred (due_text n.due n.id)) has.there;
          behind = ahead_text place after is n has parts.1;
          named = record { form = has.form; digits = has.digits; due = leb-true n.due until parts.0; says = refl };
        }

    deferred_order : (y x : DeferredName) → IsIn y (filter (is_ahead (record { place = place; until = until })) (deferred_names b)) → IsIn x (filter (is_ahead (record { place = place; until = until })) (deferred_names b)) → name_before y x ≡ true → slice_cmp nat_cmp (due_text y.due y.id) (due_text x.due x.id) ≡ Less
    deferred_order y x hy hx e =
        let ny = (deferred_into y hy).named in
        let nx = (deferred_into x hx).named in
        less_is (slice_cmp nat_cmp (due_text y.due y.id) (due_text x.due x.id)) (due-order y x ny.digits nx.digits (numbered y.id ny.form) (numbered x.id nx.form) ∙ e)

    pub deferred_none : IsFirstWanted (NamesDue until) (f areas.Deferred) after None → scan_next b (record { place = place; until = until }) ≡ None
    deferred_none none = least_none name_before names_connected (filter (is_ahead (record { place = place; until = until })) (deferred_names b)) (NamesDue until) (f areas.Deferred) after (λ n. due_text n.due n.id) (λ n. n) deferred_into deferred_order none

    pub deferred_first : (d : DeferredName) → IsFirstAt (NamesDue until) (f areas.Deferred) after d → scan_next b (record { place = place; until = until }) ≡ Some d
    deferred_first d first =
        let named = first.ahead.named in
        let has : HasName f d = record { form = named.form; digits = named.digits; there = is_true (f areas.Deferred (due_text d.due d.id)) (subst (λ (n : List ℕ). IsSome (f areas.Deferred n)) (sym named.says) first.ahead.there) } in
        let behind : IsAfter after (due_text d.due d.id) = subst (IsAfter after) (sym named.says) first.ahead.behind in
        least_first name_before names_connected (filter (is_ahead (record { place = place; until = until })) (deferred_names b)) (NamesDue until) (f areas.Deferred) after (λ n. due_text n.due n.id) (λ n. n) deferred_into deferred_order d first d
        (in_filter (is_ahead (record { place = place; until = until })) d (deferred_names b) (name_of_file f b h d has) (and_from (leb d.due until) (option_map_or (λ p. name_before p d) place true) (le-leb d.due until named.due) (text_ahead place after is d has behind)))
        named.says
