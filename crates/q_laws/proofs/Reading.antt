-- Lines, accounts and limits after a load, and that the ledger is consistent.
use Rattle.std.proofs.Common.{◌≡◌, ℕ, ◌+◌, ◌-◌, ◌≤◌, Bool, true, false, not, List, [], ◌∷◌, ◌++◌, map, length, Option, Some, None, option_map, inl, inr, refl, sym, ap, ◌∙◌, subst, arith, eq-eqb, if◌then◌else◌, eqb-true, le-leb}
use Rattle.std.proofs.lemmas.Bool.{and_from, and_parts, not-true}
use Rattle.std.proofs.lemmas.List.{length-map}
use Rattle.std.proofs.lemmas.List.Sums.{sum_by-append}
use Rattle.std.proofs.lemmas.Option.{same_Some}
use Rattle.std.specs.List.{enumerate_from, list_all, list_any}
use Rattle.std.specs.Option.{option_map_or}
use Rattle.std.specs.Prelude.{◌==◌, ◌&&◌, ◌||◌, nat_le, slice_get}
use Rattle.q_laws.proofs.Batched.{rows_filled, rows_length, rows_of}
use Rattle.q_laws.proofs.Books.{message_in}
use Rattle.q_laws.proofs.Distinct.{id_eq-sym, distinct_join, gone_listed}
use Rattle.q_laws.proofs.Members.{filter_same, none_at, IsIn, all_append, all_at, all_from, all_weaker, any_from, find_in, in_left, in_unmap, none_from}
use Rattle.q_laws.proofs.Places.{got_numbered}
use Rattle.q_laws.proofs.Quiet.{account_kept, begun_noted, book_noted}
use Rattle.q_laws.proofs.RowCounts.{row_lengths}
use Rattle.q_laws.proofs.Tidied.{IsReady, after_consistent}
use Rattle.q_laws.proofs.NextLeft.{still_next}
use Rattle.q_laws.specs.Consistency.{IsConsistent, IsRemembered, is_filled, is_present, is_synced_well, is_within}
use Rattle.q_model.proofs.IdLaws.{id_eq-true}
use Rattle.q_model.specs.Batches.{load_positions, load_rows}
use Rattle.q_model.specs.Book.{ids_at, message_of}
use Rattle.q_model.specs.Finishing.{is_clean}
use Rattle.q_model.specs.Ids.{are_distinct, id_eq}
use Rattle.q_model.specs.Ledger.{Ledger}
use Rattle.q_model.specs.Leftovers.{leftovers}
use Rattle.q_model.specs.Lists.{has_none}
use Rattle.q_model.specs.Loads.{join_lines, joins, loaded, may_load, with_records}
use Rattle.q_model.specs.Memory.{admitted_of, in_memory, is_admitted, unread_count, unread_of}
use Rattle.q_model.specs.Message.{Message, unmarked_logged}
use Rattle.q_model.specs.Places.{is_active}
use Rattle.q_model.specs.Settings.{World}
use Rattle.q_model.specs.Step.{after, noted}
use Rattle.q_model.specs.Values.{SiteRecord}
use Rattle.q_model.specs.declared.entry.Entry.{Entry}
use Rattle.q_model.specs.declared.id.Id.{Id}
use Rattle.q_model.specs.declared.rows.Admitted.{Admitted}
use Rattle.q_model.specs.declared.rows.Delivery.{Delivery}
use Rattle.q_model.specs.declared.rows.Row.{Row}
use Rattle.q_model.specs.declared.rows.Unsettled.{Unsettled}
use Rattle.q_model.specs.declared.entry.Entry.TheVariants as entries
use Rattle.q_laws.proofs.Loaded.{IsLoad, any_read, find_read, load_on, loaded_ledger, mine_remembered, names_read, other_remembered, read_name, read_on, read_to, records_is}

-- ---- lines

joined_single : (id : Id) (rows : List Row) (n : ℕ) (ids : List Id) → are_distinct ids ≡ true → are_distinct (joins id rows (n, ids)) ≡ true
joined_single id rows n ids h = which (list_any (λ (r : Row). r.site.transport == n) rows && not (list_any (id_eq id) ids)) refl
  where
    which : (b : Bool) → (list_any (λ (r : Row). r.site.transport == n) rows && not (list_any (id_eq id) ids)) ≡ b → are_distinct (if b then ids ++ id ∷ [] else ids) ≡ true
    which false e = h
    which true e =
        let out = not-true (list_any (id_eq id) ids) (and_parts (list_any (λ (r : Row). r.site.transport == n) rows) (not (list_any (id_eq id) ids)) e).1 in
        distinct_join ids (id ∷ []) h refl (λ i k g. apart out i k g)
      where
        apart : list_any (id_eq id) ids ≡ false → (i : Id) → IsIn i ids → IsIn i (id ∷ []) → ⊥
        apart out i k (inl s) = gone_listed id ids out (subst (λ j. IsIn j ids) (sym s) k)
        apart out i k (inr s) = s

lines_joined : (id : Id) (rows : List Row) (n : ℕ) (ls : List (List Id)) → list_all are_distinct ls ≡ true → list_all are_distinct (map (joins id rows) (enumerate_from n ls)) ≡ true
lines_joined id rows n [] h = refl
lines_joined id rows n (ids ∷ ls) h =
    let two = and_parts (are_distinct ids) (list_all are_distinct ls) h in
    and_from (are_distinct (joins id rows (n, ids))) (list_all are_distinct (map (joins id rows) (enumerate_from (n + 1) ls))) (joined_single id rows n ids two.0) (lines_joined id rows (n + 1) ls two.1)

abbrev line_at : Option (List Id) → List Id
line_at o = option_map_or (λ ids. ids) o []

-- who isn't in a line after it was joined, wasn't in it
was_gone : (id : Id) (rows : List Row) (ls : List (List Id)) (i : Id) (t : ℕ) → list_any (id_eq i) (line_at (slice_get (join_lines id rows ls) t)) ≡ false → list_any (id_eq i) (line_at (slice_get ls t)) ≡ false
was_gone id rows ls i t gone = on (slice_get ls t) (ap (λ o. list_any (id_eq i) (line_at o)) (sym (got_numbered (joins id rows) 0 t t ls (omega arith))) ∙ gone)
  where
    on : (o : Option (List Id)) → list_any (id_eq i) (line_at (option_map (λ ids. joins id rows (t, ids)) o)) ≡ false → list_any (id_eq i) (line_at o) ≡ false
    on None h = refl
    on (Some ids) h = which (list_any (λ (r : Row). r.site.transport == t) rows && not (list_any (id_eq id) ids)) h
      where
        which : (b : Bool) → list_any (id_eq i) (if b then ids ++ id ∷ [] else ids) ≡ false → list_any (id_eq i) ids ≡ false
        which false k = k
        which true k = none_from (id_eq i) ids (λ x there. none_at (id_eq i) x (ids ++ id ∷ []) k (in_left x ids (id ∷ []) there))

-- ---- unread recipients

not_zero : (m n : ℕ) → m ≤ n → (m == 0) ≡ false → (n == 0) ≡ false
not_zero m n h e = which (n == 0) refl
  where
    which : (b : Bool) → (n == 0) ≡ b → b ≡ false
    which false k = refl
    which true k =
        let none : n ≡ 0 = eqb-true n 0 k in
        let zero : m ≡ 0 = omega (arith, h, none) in
        let bad : true ≡ false = sym (eq-eqb m 0 zero) ∙ e in
        cc

-- what is unread of a message read further is no more
less_left : (b : Admitted) (to : ℕ) (o : Option Message) → b.unread ≤ to → option_map_or (λ (m : Message). length m.recipients - to) o 0 ≤ option_map_or (λ (m : Message). length m.recipients - b.unread) o 0
less_left b to None h = omega arith
less_left b to (Some m) h = omega (arith, h)

less_unread : (w : World) (l : Ledger) (id : Id) (from to : ℕ) (rows : List Row) (sites : List SiteRecord) (e : Entry) → IsLoad w l id from to → (i : Id) → unread_of (loaded_ledger l id to rows sites e) i ≤ unread_of l i
less_unread w l id from to rows sites e load i =
    subst (λ o. option_map_or (λ (a : Admitted). unread_count l a) o 0 ≤ unread_of l i) (sym (find_read id i to l.admitted)) (on (admitted_of l i) refl)
  where
    on : (o : Option Admitted) → admitted_of l i ≡ o → option_map_or (λ (a : Admitted). unread_count l a) (option_map (read_to id to) o) 0 ≤ option_map_or (λ (a : Admitted). unread_count l a) o 0
    on None found = omega arith
    on (Some b) found = which (id_eq b.id id) refl
      where
        which : (c : Bool) → id_eq b.id id ≡ c → unread_count l (if c then record b { unread = to } else b) ≤ unread_count l b
        which false s = omega arith
        which true s =
            let at : i ≡ id = sym (id_eq-true b.id i (find_in (λ (x : Admitted). id_eq x.id i) b l.admitted found).1) ∙ id_eq-true b.id id s in
            let same : load.row ≡ b = same_Some load.row b (sym load.found ∙ ap (admitted_of l) (sym at) ∙ found) in
            let start : b.unread ≡ from = ap (λ (x : Admitted). x.unread) (sym same) ∙ load.start in
            let late : from ≤ to = load.end.late in
            less_left b to (message_of l.book b.id) (omega (arith, start, late))

-- ---- the ledger

load_remembered : (w : World) (l : Ledger) (id : Id) (from to : ℕ) (sites : List SiteRecord) (e : Entry) → IsConsistent w l → (load : IsLoad w l id from to) → (a : Admitted) (x : Message) →
    admitted_of (loaded_ledger l id to (load_rows w load.message from to) sites e) a.id ≡ Some a → message_of l.book a.id ≡ Some x → IsRemembered (loaded_ledger l id to (load_rows w load.message from to) sites e) a x
load_remembered w l id from to sites e c load a x here there =
    let k = loaded_ledger l id to (load_rows w load.message from to) sites e in
    let one = read_on id to (admitted_of l a.id) a (sym (find_read id a.id to l.admitted) ∙ here) in
    let b = one.0 in
    let name : b.id ≡ a.id = sym (read_name id to b) ∙ ap (λ (y : Admitted). y.id) one.2 in
    let found : admitted_of l b.id ≡ Some b = ap (admitted_of l) name ∙ one.1 in
    let theirs : message_of l.book b.id ≡ Some x = ap (message_of l.book) name ∙ there in
    let h = c.memory.remembered b x found theirs in
    subst (λ y. IsRemembered k y x) one.2 (which b found theirs h (id_eq b.id id) refl)
  where
    which : (b : Admitted) → admitted_of l b.id ≡ Some b → message_of l.book b.id ≡ Some x → IsRemembered l b x → (t : Bool) → id_eq b.id id ≡ t → IsRemembered (loaded_ledger l id to (load_rows w load.message from to) sites e) (if t then record b { unread = to } else b) x
    which b found theirs h false s =
        other_remembered w l id from to sites e load.message b x (ap (λ (i : Id). id_eq i b.id) (message_in l.book id load.message load.there).1 ∙ id_eq-sym b.id id s) h
    which b found theirs h true s =
        let at : b.id ≡ id = id_eq-true b.id id s in
        let same : load.row ≡ b = same_Some load.row b (sym load.found ∙ ap (admitted_of l) (sym at) ∙ found) in
        let mine : x ≡ load.message = same_Some x load.message (sym theirs ∙ ap (message_of l.book) at ∙ load.there) in
        subst (λ y. IsRemembered (loaded_ledger l id to (load_rows w load.message from to) sites e) (record b { unread = to }) y) (sym mine)
        (mine_remembered w l id from to sites e load.message b (ap (λ (y : Admitted). y.unread) (sym same) ∙ load.start) ((message_in l.book id load.message load.there).1 ∙ sym at) load.end.late (subst (IsRemembered l b) mine h))

load_ready : (w : World) (l : Ledger) (id : Id) (from to : ℕ) (sites : List SiteRecord) → IsConsistent w l → (load : IsLoad w l id from to) →
    IsReady w (loaded_ledger l id to (load_rows w load.message from to) sites (entries.Load id from to))
load_ready w l id from to sites c load =
    let e = entries.Load id from to in
    let rows = load_rows w load.message from to in
    let k = loaded_ledger l id to rows sites e in
    let b = book_noted l e c.book in
    let m = c.memory in
    let adm : (i : Id) → is_admitted k i ≡ is_admitted l i = λ i. any_read id i to l.admitted in
    let left : leftovers k ≡ leftovers l = filter_same (λ x. not (is_admitted k x)) (λ x. not (is_admitted l x)) (λ x. ap not (adm x)) (ids_at is_active l.book) in
    let name : load.message.id ≡ id = (message_in l.book id load.message load.there).1 in
    record {
      usable = c.usable;
      book = record { distinct = b.distinct; orderly = b.orderly; firm = b.firm; come = b.come };
      memory = record {
        admitted = ap are_distinct (names_read id to l.admitted) ∙ m.admitted;
        present = all_from (is_present k) (map (read_to id to) l.admitted) (λ x inside.
            let one = in_unmap (read_to id to) x l.admitted inside in
            ap (λ i. option_map_or (λ (y : Message). is_active y.place) (message_of l.book i) false) (sym (ap (λ (y : Admitted). y.id) one.2) ∙ read_name id to one.0) ∙ all_at (is_present l) one.0 l.admitted m.present one.1);
        within = all_from (is_within k) (map (read_to id to) l.admitted) (λ x inside.
            let one = in_unmap (read_to id to) x l.admitted inside in
            subst (λ y. is_within k y ≡ true) one.2 (fits one.0 (all_at (is_within l) one.0 l.admitted m.within one.1) (id_eq (one.0).id id) refl));
        waiting = all_append (λ (r : Row). is_admitted k r.id) l.waiting rows
            (all_weaker (λ (r : Row). is_admitted l r.id) (λ (r : Row). is_admitted k r.id) l.waiting (λ r inside h. adm r.id ∙ h) m.waiting)
            (all_from (λ (r : Row). is_admitted k r.id) rows (λ r inside. adm r.id ∙ ap (is_admitted l) (rows_of w load.message [] (load_positions load.message from to) (λ x g. absurd g) r inside ∙ name)
            ∙ (let mine = find_in (λ (x : Admitted). id_eq x.id id) load.row l.admitted load.found in any_from (λ (x : Admitted). id_eq x.id id) load.row l.admitted mine.0 mine.1)));
        filled = all_append is_filled l.waiting rows m.filled (rows_filled w load.message [] (load_positions load.message from to) refl);
        flights = all_weaker (λ (f : Delivery). is_admitted l f.row.id) (λ (f : Delivery). is_admitted k f.row.id) l.flights (λ f inside h. adm f.row.id ∙ h) m.flights;
        unsettled = all_weaker (λ (u : Unsettled). is_admitted l u.id) (λ (u : Unsettled). is_admitted k u.id) l.unsettled (λ u inside h. adm u.id ∙ h) m.unsettled;
        remembered = λ a x here there. load_remembered w l id from to sites e c load a x here there;
        numbers = m.numbers;
        begun = begun_noted l e m.begun;
        single = lines_joined id rows 0 l.lines m.single;
        fresh = λ i t some gone. account_kept l e i t (record { admit = refl; start = refl; charge = refl })
            (m.fresh i t (not_zero (unread_of k i) (unread_of l i) (less_unread w l id from to rows sites e load i) some) (was_gone id rows l.lines i t gone));
        synced = all_weaker (is_synced_well l) (is_synced_well k) l.synced (λ i inside h.
            ap (λ (is : List Id). not (list_any (id_eq i) is) || option_map_or (λ x. is_clean x && has_none (unmarked_logged x)) (message_of l.book i) true) left ∙ h) m.synced;
        synced_next = still_next l k (λ i h. ap (list_any (id_eq i)) (sym left) ∙ h) refl m.synced_next;
        messages = (let n = length-map l.admitted (read_to id to) in omega (arith, n, m.messages));
        recipients = (
            let n : row_lengths (l.waiting ++ rows) ≡ row_lengths l.waiting + row_lengths rows = sum_by-append (λ (r : Row). length r.positions) l.waiting rows in
            let j : row_lengths rows ≡ 0 + length (load_positions load.message from to) = rows_length w load.message [] (load_positions load.message from to) in
            let few : length (load_positions load.message from to) ≤ w.settings.recipient_limit - in_memory l = load.end.few in
            let fits : in_memory l ≤ w.settings.recipient_limit = m.recipients in
            omega (arith, n, j, few, fits));
      };
    }
  where
    fits : (a : Admitted) → is_within l a ≡ true → (t : Bool) → id_eq a.id id ≡ t → option_map_or (λ (m : Message). nat_le (if t then record a { unread = to } else a).unread (length m.recipients)) (message_of l.book (if t then record a { unread = to } else a).id) false ≡ true
    fits a h false s = h
    fits a h true s =
        ap (λ (o : Option Message). option_map_or (λ (m : Message). nat_le to (length m.recipients)) o false) (ap (message_of l.book) (id_eq-true a.id id s) ∙ load.there) ∙ le-leb to (length load.message.recipients) load.end.within

load_loaded : (w : World) (l : Ledger) (id : Id) (from to : ℕ) (o : Option Message) → IsConsistent w l → message_of l.book id ≡ o → (load : IsLoad w l id from to) →
    IsReady w (noted (entries.Load id from to) (option_map_or (λ m. loaded w l id to (load_rows w m from to)) o l))
load_loaded w l id from to None c there load = let bad : ◌≡◌ {A = Option Message} None (Some load.message) = sym there ∙ load.there in absurd cc
load_loaded w l id from to (Some m) c there load =
    let same : load.message ≡ m = same_Some load.message m (sym load.there ∙ there) in
    subst (λ x. IsReady w (noted (entries.Load id from to) (loaded w l id to (load_rows w x from to)))) same (with_sites (records_is w (load_rows w load.message from to) l))
  where
    with_sites : (s : List SiteRecord) × (with_records w (load_rows w load.message from to) l ≡ record l { sites = s }) → IsReady w (noted (entries.Load id from to) (loaded w l id to (load_rows w load.message from to)))
    with_sites known =
        subst (λ (x : Ledger). IsReady w (noted (entries.Load id from to) (record x { admitted = map (read_to id to) l.admitted; waiting = l.waiting ++ load_rows w load.message from to; lines = join_lines id (load_rows w load.message from to) l.lines })))
        (sym known.1) (load_ready w l id from to known.0 c load)

-- recipients of a message are read
pub load_consistent : (w : World) (l : Ledger) (id : Id) (from to : ℕ) → IsConsistent w l → may_load w l id from to ≡ true → IsConsistent w (after w l (entries.Load id from to))
load_consistent w l id from to c may =
    after_consistent w l (entries.Load id from to) (load_loaded w l id from to (message_of l.book id) c refl (load_on w l id from to (admitted_of l id) (message_of l.book id) c refl refl may))
