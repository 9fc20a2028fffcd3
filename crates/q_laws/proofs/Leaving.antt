-- What fits together still does as a message without rows leaves memory.
use Rattle.std.proofs.Common.{◌≡◌, suc, ◌-◌, ◌≤◌, Bool, true, false, cond, not, List, [], ◌∷◌, find, length, Option, Some, None, refl, sym, ap, ◌∙◌, arith, le_trans}
use Rattle.std.proofs.lemmas.Bool.{and_parts, not-true, not_from_false, or_parts}
use Rattle.std.specs.List.{list_all, list_any}
use Rattle.std.specs.Option.{option_map_or}
use Rattle.std.specs.Prelude.{◌==◌, ◌&&◌, ◌||◌, nat_le, slice_get}
use Rattle.q_laws.proofs.Books.{left_from, left_parts, message_in}
use Rattle.q_laws.proofs.Distinct.{distinct_named, id_eq-sym}
use Rattle.q_laws.proofs.First.{other_logged}
use Rattle.q_laws.proofs.NextLeft.{still_next}
use Rattle.q_laws.proofs.Members.{IsIn, all_at, all_from, all_weaker, any_from, any_in, find_in, find_none_from, in_filter, in_filtered, none_at, none_from}
use Rattle.q_laws.proofs.Places.{got_in}
use Rattle.q_laws.proofs.Quiet.{IsQuiet, account_kept, begun_noted}
use Rattle.q_laws.proofs.Tidied.{IsReady}
use Rattle.q_laws.proofs.Synced.{found_admitted}
use Rattle.q_laws.specs.Consistency.{IsBookConsistent, IsConsistent, is_present, is_synced_well, is_within, logged_of}
use Rattle.q_model.proofs.IdLaws.{id_eq-true}
use Rattle.q_model.specs.Book.{Book, ids_at, message_of}
use Rattle.q_model.specs.Finishing.{is_clean, without}
use Rattle.q_model.specs.Ids.{id_eq}
use Rattle.q_model.specs.Ledger.{Ledger}
use Rattle.q_model.specs.Leftovers.{is_leftover}
use Rattle.q_model.specs.Lists.{has_none}
use Rattle.q_model.specs.Memory.{admitted_of, has_rows, has_waiting, is_admitted, is_idle, unread_count, unread_of}
use Rattle.q_model.specs.Message.{Message, unmarked_logged}
use Rattle.q_model.specs.Places.{is_active}
use Rattle.q_model.specs.Settings.{World}
use Rattle.q_model.specs.declared.entry.Entry.{Entry}
use Rattle.q_model.specs.declared.id.Id.{Id}
use Rattle.q_model.specs.declared.rows.Admitted.{Admitted}
use Rattle.q_model.specs.declared.rows.Delivery.{Delivery}
use Rattle.q_model.specs.declared.rows.Row.{Row}
use Rattle.q_model.specs.declared.rows.Unsettled.{Unsettled}

-- ---- leftovers that were synced

-- what is still a leftover was one, and is as it was
pub well_still : (l k : Ledger) (i : Id) → (is_leftover k i ≡ true → (is_leftover l i ≡ true) × (message_of k.book i ≡ message_of l.book i)) → is_synced_well l i ≡ true → is_synced_well k i ≡ true
well_still l k i h well = which (is_leftover k i) refl
  where
    which : (b : Bool) → is_leftover k i ≡ b → (not b || option_map_or (λ m. is_clean m && has_none (unmarked_logged m)) (message_of k.book i) true) ≡ true
    which false e = refl
    which true e =
        let two = h e in
        ap (λ (o : Option Message). option_map_or (λ m. is_clean m && has_none (unmarked_logged m)) o true) two.1
        ∙ sym (ap (λ t. not t || option_map_or (λ m. is_clean m && has_none (unmarked_logged m)) (message_of l.book i) true) two.0) ∙ well

-- ---- who stays in memory

any_without : (id i : Id) (xs : List Admitted) → id_eq i id ≡ false → list_any (λ (a : Admitted). id_eq a.id i) xs ≡ true → list_any (λ (a : Admitted). id_eq a.id i) (without id xs) ≡ true
any_without id i xs other h =
    let one = any_in (λ (a : Admitted). id_eq a.id i) xs h in
    let name : (one.0).id ≡ i = id_eq-true (one.0).id i one.2 in
    any_from (λ (a : Admitted). id_eq a.id i) one.0 (without id xs) (in_filter (λ (a : Admitted). not (id_eq a.id id)) one.0 xs one.1 (not_from_false (id_eq (one.0).id id) (ap (λ (j : Id). id_eq j id) name ∙ other))) one.2

find_without : (id i : Id) (xs : List Admitted) → id_eq i id ≡ false → find (λ (a : Admitted). id_eq a.id i) (without id xs) ≡ find (λ (a : Admitted). id_eq a.id i) xs
find_without id i [] other = refl
find_without id i (a ∷ xs) other = on (id_eq a.id id) refl (find_without id i xs other)
  where
    on : (t : Bool) → id_eq a.id id ≡ t → find (λ (x : Admitted). id_eq x.id i) (without id xs) ≡ find (λ (x : Admitted). id_eq x.id i) xs →
        find (λ (x : Admitted). id_eq x.id i) (cond (not t) (a ∷ without id xs) (without id xs)) ≡ cond (id_eq a.id i) (Some a) (find (λ (x : Admitted). id_eq x.id i) xs)
    on false e k = ap (cond (id_eq a.id i) (Some a)) k
    on true e k =
        let skip : id_eq a.id i ≡ false = ap (λ (j : Id). id_eq j i) (id_eq-true a.id id e) ∙ id_eq-sym i id other in
        k ∙ sym (ap (λ b. cond b (Some a) (find (λ (x : Admitted). id_eq x.id i) xs)) skip)

gone_without : (id : Id) (xs : List Admitted) → find (λ (a : Admitted). id_eq a.id id) (without id xs) ≡ None
gone_without id xs = find_none_from (λ (a : Admitted). id_eq a.id id) (without id xs) (λ a inside. not-true (id_eq a.id id) (in_filtered (λ (x : Admitted). not (id_eq x.id id)) a xs inside).1)

fewer_without : (id : Id) (xs : List Admitted) → length (without id xs) ≤ length xs
fewer_without id [] = omega arith
fewer_without id (a ∷ xs) = on (not (id_eq a.id id)) (fewer_without id xs)
  where
    on : (t : Bool) → length (without id xs) ≤ length xs → length (cond t (a ∷ without id xs) (without id xs)) ≤ suc (length xs)
    on true h = omega (arith, h)
    on false h = omega (arith, h)

-- ---- a message without rows leaves

-- nothing in memory is of this message
pub record HasNoRows (l : Ledger) (id : Id) : Type 0 where
  pub waiting : list_any (λ (r : Row). id_eq r.id id) l.waiting ≡ false
  pub flights : list_any (λ (f : Delivery). id_eq f.row.id id) l.flights ≡ false
  pub unsettled : list_any (λ (u : Unsettled). id_eq u.id id) l.unsettled ≡ false

abbrev pub left_ledger : Ledger → Id → Book → Entry → Ledger
left_ledger l id b e = record l { book = b; admitted = without id l.admitted; past = e ∷ l.past }

left_unread : (l : Ledger) (id : Id) (b : Book) (e : Entry) → ((i : Id) → id_eq i id ≡ false → message_of b i ≡ message_of l.book i) → (i : Id) → (unread_of (left_ledger l id b e) i == 0) ≡ false → (unread_of l i == 0) ≡ false
left_unread l id b e same i some = which (id_eq i id) refl
  where
    on : (o : Option Admitted) → ((a : Admitted) → o ≡ Some a → id_eq a.id id ≡ false) → option_map_or (λ (a : Admitted). unread_count (left_ledger l id b e) a) o 0 ≡ option_map_or (λ (a : Admitted). unread_count l a) o 0
    on None h = refl
    on (Some a) h = ap (λ (o : Option Message). option_map_or (λ m. length m.recipients - a.unread) o 0) (same a.id (h a refl))

    which : (t : Bool) → id_eq i id ≡ t → (unread_of l i == 0) ≡ false
    which false k =
        let found : admitted_of (left_ledger l id b e) i ≡ admitted_of l i = find_without id i l.admitted k in
        let equal : unread_of (left_ledger l id b e) i ≡ unread_of l i =
        ap (λ (o : Option Admitted). option_map_or (λ (a : Admitted). unread_count (left_ledger l id b e) a) o 0) found
        ∙ on (admitted_of l i) (λ a f. ap (λ (j : Id). id_eq j id) (id_eq-true a.id i (find_in (λ (x : Admitted). id_eq x.id i) a l.admitted f).1) ∙ k) in
        ap (λ n. n == 0) (sym equal) ∙ some
    which true k =
        let none : unread_of (left_ledger l id b e) i ≡ 0 =
        ap (λ (o : Option Admitted). option_map_or (λ (a : Admitted). unread_count (left_ledger l id b e) a) o 0) (ap (admitted_of (left_ledger l id b e)) (id_eq-true i id k) ∙ gone_without id l.admitted) in
        let bad : true ≡ false = sym (ap (λ n. n == 0) none) ∙ some in
        absurd cc

-- a leftover that stays was one before
left_before : (l : Ledger) (id : Id) (b : Book) (e : Entry) → ((i : Id) → IsIn i (ids_at is_active b) → IsIn i (ids_at is_active l.book) × (id_eq i id ≡ false)) → (i : Id) → is_leftover (left_ledger l id b e) i ≡ true → (is_leftover l i ≡ true) × (id_eq i id ≡ false)
left_before l id b e active i left = let two = active i (left_parts (left_ledger l id b e) i left).0 in (left_from l i two.0 (out (is_admitted l i) refl two.1), two.1)
  where
    out : (t : Bool) → is_admitted l i ≡ t → id_eq i id ≡ false → not t ≡ true
    out false adm other = refl
    out true adm other = let bad : false ≡ true = sym (ap not (any_without id i l.admitted other adm)) ∙ (left_parts (left_ledger l id b e) i left).1 in cc

-- those that were synced well still are
left_well : (l : Ledger) (id : Id) (b : Book) (e : Entry) → ((i : Id) → IsIn i (ids_at is_active b) → IsIn i (ids_at is_active l.book) × (id_eq i id ≡ false)) → ((i : Id) → id_eq i id ≡ false → message_of b i ≡ message_of l.book i) →
    list_all (is_synced_well l) l.synced ≡ true → list_all (is_synced_well (left_ledger l id b e)) l.synced ≡ true
left_well l id b e active same h = all_weaker (is_synced_well l) (is_synced_well (left_ledger l id b e)) l.synced (λ i inside well. well_still l (left_ledger l id b e) i (λ left. let two = left_before l id b e active i left in (two.0, same i two.1)) well) h

pub leave_ready : (w : World) (l : Ledger) (id : Id) (b : Book) (e : Entry) → IsConsistent w l → IsQuiet e → IsBookConsistent (left_ledger l id b e) → HasNoRows l id →
    ((i : Id) → id_eq i id ≡ false → message_of b i ≡ message_of l.book i) → ((i : Id) → IsIn i (ids_at is_active b) → IsIn i (ids_at is_active l.book) × (id_eq i id ≡ false)) → IsReady w (left_ledger l id b e)
leave_ready w l id b e c quiet book none same active =
    let m = c.memory in
    let k = left_ledger l id b e in
    record {
      usable = c.usable;
      book = book;
      memory = record {
        admitted = distinct_named (λ (a : Admitted). a.id) (λ (a : Admitted). not (id_eq a.id id)) l.admitted m.admitted;
        present = all_from (is_present k) (without id l.admitted) (λ a inside.
            let two = in_filtered (λ (x : Admitted). not (id_eq x.id id)) a l.admitted inside in
            ap (λ (o : Option Message). option_map_or (λ x. is_active x.place) o false) (same a.id (not-true (id_eq a.id id) two.1)) ∙ all_at (is_present l) a l.admitted m.present two.0);
        within = all_from (is_within k) (without id l.admitted) (λ a inside.
            let two = in_filtered (λ (x : Admitted). not (id_eq x.id id)) a l.admitted inside in
            ap (λ (o : Option Message). option_map_or (λ x. nat_le a.unread (length x.recipients)) o false) (same a.id (not-true (id_eq a.id id) two.1)) ∙ all_at (is_within l) a l.admitted m.within two.0);
        waiting = all_weaker (λ (r : Row). is_admitted l r.id) (λ (r : Row). is_admitted k r.id) l.waiting (λ r inside h. any_without id r.id l.admitted (none_at (λ (x : Row). id_eq x.id id) r l.waiting none.waiting inside) h) m.waiting;
        filled = m.filled;
        flights = all_weaker (λ (f : Delivery). is_admitted l f.row.id) (λ (f : Delivery). is_admitted k f.row.id) l.flights (λ f inside h. any_without id f.row.id l.admitted (none_at (λ (x : Delivery). id_eq x.row.id id) f l.flights none.flights inside) h) m.flights;
        unsettled = all_weaker (λ (u : Unsettled). is_admitted l u.id) (λ (u : Unsettled). is_admitted k u.id) l.unsettled (λ u inside h. any_without id u.id l.admitted (none_at (λ (x : Unsettled). id_eq x.id id) u l.unsettled none.unsettled inside) h) m.unsettled;
        remembered = λ a x here there.
            let inside = (find_in (λ (y : Admitted). id_eq y.id a.id) a (without id l.admitted) here).0 in
            let other : id_eq a.id id ≡ false = not-true (id_eq a.id id) (in_filtered (λ (y : Admitted). not (id_eq y.id id)) a l.admitted inside).1 in
            let h = m.remembered a x (sym (find_without id a.id l.admitted other) ∙ here) (sym (same a.id other) ∙ there) in
            record { read = h.read; once = h.once; unmarked = h.unmarked; logged = h.logged };
        numbers = m.numbers;
        begun = begun_noted l e m.begun;
        single = m.single;
        fresh = λ i t some gone. account_kept l e i t (quiet i t) (m.fresh i t (left_unread l id b e same i some) gone);
        synced = left_well l id b e active same m.synced;
        synced_next = still_next l k (λ i left. (left_before l id b e active i left).0) refl m.synced_next;
        messages = le_trans (fewer_without id l.admitted) m.messages;
        recipients = m.recipients;
      };
    }

pub idle_rows : (l : Ledger) (id : Id) → is_idle l id ≡ true → HasNoRows l id
idle_rows l id h =
    let two = and_parts (is_admitted l id && (unread_of l id == 0)) (not (has_rows l id)) h in
    let none = or_parts (has_waiting l id || list_any (λ (f : Delivery). id_eq f.row.id id) l.flights) (list_any (λ (u : Unsettled). id_eq u.id id) l.unsettled) (not-true (has_rows l id) two.1) in
    let both = or_parts (has_waiting l id) (list_any (λ (f : Delivery). id_eq f.row.id id) l.flights) none.0 in
    record { waiting = both.0; flights = both.1; unsettled = none.1 }

pub idle_admitted : (l : Ledger) (id : Id) → is_idle l id ≡ true → is_admitted l id ≡ true
idle_admitted l id h = (and_parts (is_admitted l id) (unread_of l id == 0) (and_parts (is_admitted l id && (unread_of l id == 0)) (not (has_rows l id)) h).0).0

-- of a message that isn't in memory there are no rows
pub absent_rows : (w : World) (l : Ledger) (id : Id) → IsConsistent w l → is_admitted l id ≡ false → HasNoRows l id
absent_rows w l id c out = record {
  waiting = none_from (λ (r : Row). id_eq r.id id) l.waiting (λ r inside. apart r.id (all_at (λ (x : Row). is_admitted l x.id) r l.waiting c.memory.waiting inside) (id_eq r.id id) refl);
  flights = none_from (λ (f : Delivery). id_eq f.row.id id) l.flights (λ f inside. apart f.row.id (all_at (λ (x : Delivery). is_admitted l x.row.id) f l.flights c.memory.flights inside) (id_eq f.row.id id) refl);
  unsettled = none_from (λ (u : Unsettled). id_eq u.id id) l.unsettled (λ u inside. apart u.id (all_at (λ (x : Unsettled). is_admitted l x.id) u l.unsettled c.memory.unsettled inside) (id_eq u.id id) refl);
}
  where
    apart : (i : Id) → is_admitted l i ≡ true → (t : Bool) → id_eq i id ≡ t → t ≡ false
    apart i adm false e = refl
    apart i adm true e = let bad : true ≡ false = sym adm ∙ ap (is_admitted l) (id_eq-true i id e) ∙ out in absurd cc

-- where no unsettled outcome is of a message, none of its positions is logged without a mark
pub tidied_rows : (w : World) (l : Ledger) (id : Id) (m : Message) → IsConsistent w l → is_admitted l id ≡ true → message_of l.book id ≡ Some m → list_any (λ (u : Unsettled). id_eq u.id id) l.unsettled ≡ false → unmarked_logged m ≡ []
tidied_rows w l id m c adm there none =
    let a = found_admitted w l id c adm in
    let h = c.memory.remembered a.0 m a.1 (ap (message_of l.book) a.2 ∙ there) in
    h.logged ∙ on (slice_get l.unsettled 0) refl
  where
    on : (o : Option Unsettled) → slice_get l.unsettled 0 ≡ o → logged_of m o ≡ []
    on None e = refl
    on (Some u) e = other_logged m u (ap (id_eq u.id) (message_in l.book id m there).1 ∙ none_at (λ (x : Unsettled). id_eq x.id id) u l.unsettled none (got_in u l.unsettled 0 e))
