-- What fits together still does as a message comes into memory.
use Rattle.std.proofs.Common.{option_map, cond, find, sum_by, length-append, ◌≡◌, ℕ, ◌-◌, ◌<◌, Bool, true, false, not, List, [], ◌∷◌, ◌++◌, map, length, is_some, Option, Some, None, inl, inr, refl, sym, ap, ◌∙◌, subst, arith, if◌then◌else◌, le-leb, ltb-true, count_by}
use Rattle.std.proofs.lemmas.Bool.{and_from, and_parts, or_parts}
use Rattle.std.proofs.lemmas.List.Sums.{take_while-cons}
use Rattle.std.proofs.lemmas.Option.{same_Some}
use Rattle.std.specs.List.{flat_map, list_all, list_any}
use Rattle.std.specs.Option.{option_map_or}
use Rattle.std.specs.Prelude.{slice_get, ◌==◌, ◌&&◌, ◌||◌, nat_le, nat_lt}
use Rattle.q_laws.proofs.Added.{find_passed}
use Rattle.q_laws.proofs.Books.{left_from, left_parts, message_in}
use Rattle.q_laws.proofs.Distinct.{id_eq-sym, distinct_join, id_cases, id_other, id_same}
use Rattle.q_laws.proofs.InPlace.{changed_same, changed_name, change_book, changed}
use Rattle.q_laws.proofs.Leaving.{HasNoRows, absent_rows, well_still}
use Rattle.q_laws.proofs.NextLeft.{still_next}
use Rattle.q_laws.proofs.Members.{in_unmap, in_left, in_right, none_at, find_none_from, IsIn, all_append, all_at, all_weaker, any_from, any_in, find_in}
use Rattle.q_laws.proofs.Moved.{keeps_move, move_to, moved_at, other_moved}
use Rattle.q_laws.proofs.Places.{none_of, got_in}
use Rattle.q_laws.proofs.Quiet.{account_kept, begun_noted, otherwise_ready}
use Rattle.q_laws.proofs.Tidied.{IsReady, after_consistent}
use Rattle.q_laws.proofs.Synced.{admitted_active, mine_or_not}
use Rattle.q_laws.specs.Consistency.{IsRemembered, are_once, flight_positions, memory_positions, logged_of, unsettled_positions, IsBookConsistent, IsConsistent, is_present, is_synced_well, is_within}
use Rattle.q_model.proofs.IdLaws.{id_eq-refl, id_eq-true}
use Rattle.q_model.specs.Admissions.{delivers, may_admit, cause_gone, has_room}
use Rattle.q_model.specs.Book.{Book, all_ids, message_of, stands}
use Rattle.q_model.specs.BookChanges.{move_message}
use Rattle.q_model.specs.Ids.{are_distinct, cause_of, id_eq}
use Rattle.q_model.specs.Ledger.{Ledger}
use Rattle.q_model.specs.Leftovers.{is_leftover}
use Rattle.q_model.specs.Lists.{has_none}
use Rattle.q_model.specs.Marking.{is_unmarked_at}
use Rattle.q_model.specs.Memory.{admitted_of, is_admitted, unread_count, unread_of, free}
use Rattle.q_model.specs.Message.{Message, unmarked_logged, written_marks}
use Rattle.q_model.specs.Orderly.{has_firm_failures, is_paired, is_sealed, is_sound}
use Rattle.q_model.specs.Places.{is_active, is_incoming}
use Rattle.q_model.specs.Settings.{World}
use Rattle.q_model.specs.Step.{after, noted}
use Rattle.q_model.specs.Alternation.{Pick, from_deferred, from_incoming, is_pick, passed, pick}
use Rattle.q_model.specs.declared.id.Id.{Id}
use Rattle.q_model.specs.declared.rows.Admitted.{Admitted}
use Rattle.q_model.specs.declared.entry.Entry.TheVariants as entries
use Rattle.q_model.specs.declared.rows.Place.TheVariants as places
use Rattle.q_laws.proofs.First.{other_logged}
use Rattle.q_laws.proofs.Mapped.{find_mapped}
use Rattle.q_laws.proofs.Picked.{picked_out}
use Rattle.q_model.specs.Accounts.{charge_of, charged, is_start_of, is_admit_of, since_admit, starts_of}
use Rattle.q_model.specs.declared.rows.Delivery.{Delivery}
use Rattle.q_model.specs.declared.rows.Row.{Row}
use Rattle.q_model.specs.declared.rows.Unsettled.{Unsettled}

-- the message comes last, all of it unread
abbrev new_admitted : Id → Admitted
new_admitted id = record { id = id; unread = 0 }

abbrev entered : Ledger → Id → Ledger
entered l id = record l { book = move_message l.book id places.Active; admitted = l.admitted ++ new_admitted id ∷ []; past = entries.Admit id ∷ l.past }

-- ---- who is in memory

names_more : (id : Id) (xs : List Admitted) → map (λ (a : Admitted). a.id) (xs ++ new_admitted id ∷ []) ≡ map (λ (a : Admitted). a.id) xs ++ id ∷ []
names_more id [] = refl
names_more id (a ∷ xs) = ap (λ (is : List Id). a.id ∷ is) (names_more id xs)

still_admitted : (l : Ledger) (id i : Id) → is_admitted l i ≡ true → is_admitted (entered l id) i ≡ true
still_admitted l id i h = let one = any_in (λ (a : Admitted). id_eq a.id i) l.admitted h in any_from (λ (a : Admitted). id_eq a.id i) one.0 (l.admitted ++ new_admitted id ∷ []) (in_left one.0 l.admitted (new_admitted id ∷ []) one.1) one.2

find_last : (id : Id) (xs : List Admitted) → find (λ (a : Admitted). id_eq a.id id) xs ≡ None → find (λ (a : Admitted). id_eq a.id id) (xs ++ new_admitted id ∷ []) ≡ Some (new_admitted id)
find_last id [] h = ap (λ b. cond b (Some (new_admitted id)) None) (id_eq-refl id)
find_last id (a ∷ xs) h = on (id_eq a.id id) (find_last id xs) h
  where
    on : (t : Bool) → (find (λ (x : Admitted). id_eq x.id id) xs ≡ None → find (λ (x : Admitted). id_eq x.id id) (xs ++ new_admitted id ∷ []) ≡ Some (new_admitted id)) → cond t (Some a) (find (λ (x : Admitted). id_eq x.id id) xs) ≡ None →
        cond t (Some a) (find (λ (x : Admitted). id_eq x.id id) (xs ++ new_admitted id ∷ [])) ≡ Some (new_admitted id)
    on true rest k = absurd cc
    on false rest k = rest k

-- ---- nothing of it is in memory

flat_none : {A : Type 0} (test : A → Bool) (f : A → List ℕ) (xs : List A) → list_any test xs ≡ false → flat_map (λ x. if test x then f x else []) xs ≡ []
flat_none test f [] h = refl
flat_none test f (x ∷ xs) h =
    let two = or_parts (test x) (list_any test xs) h in
    ap (λ b. (if b then f x else []) ++ flat_map (λ y. if test y then f y else []) xs) two.0 ∙ flat_none test f xs two.1

nothing_remembered : (l : Ledger) (id : Id) → HasNoRows l id → memory_positions l id ≡ []
nothing_remembered l id h =
    ap (λ (ps : List ℕ). ps ++ flight_positions id l.flights ++ unsettled_positions id l.unsettled) (flat_none (λ (r : Row). id_eq r.id id) (λ r. r.positions) l.waiting h.waiting)
    ∙ ap (λ (ps : List ℕ). ps ++ unsettled_positions id l.unsettled) (flat_none (λ (f : Delivery). id_eq f.row.id id) (λ f. f.row.positions) l.flights h.flights)
    ∙ flat_none (λ (u : Unsettled). id_eq u.id id) (λ u. u.position ∷ []) l.unsettled h.unsettled

other_first : (l : Ledger) (m : Message) → HasNoRows l m.id → logged_of m (slice_get l.unsettled 0) ≡ []
other_first l m h = on (slice_get l.unsettled 0) refl
  where
    on : (o : Option Unsettled) → slice_get l.unsettled 0 ≡ o → logged_of m o ≡ []
    on None e = refl
    on (Some u) e = other_logged m u (none_at (λ (x : Unsettled). id_eq x.id m.id) u l.unsettled h.unsettled (got_in u l.unsettled 0 e))

new_remembered : (l : Ledger) (id : Id) (m : Message) → m.id ≡ id → HasNoRows l id → unmarked_logged m ≡ [] → IsRemembered (entered l id) (new_admitted id) m
new_remembered l id m name none clean =
    let empty = nothing_remembered l id none in
    record {
      read = ap (list_all (λ p. nat_lt p 0)) empty;
      once = ap are_once empty;
      unmarked = ap (list_all (is_unmarked_at m)) empty;
      logged = clean ∙ sym (other_first l m (subst (HasNoRows l) (sym name) none));
    }

-- ---- accounts

since_none : (l : Ledger) (id : Id) → since_admit (entered l id) id ≡ []
since_none l id = take_while-cons (λ e. not (is_admit_of id e)) (entries.Admit id) l.past ∙ ap (λ b. cond (not b) (entries.Admit id ∷ since_admit l id) []) (id_eq-refl id)

new_account : (l : Ledger) (id : Id) (t : ℕ) → (starts_of (entered l id) id t ≡ 0) × (charged (entered l id) id t ≡ 0)
new_account l id t = (ap (count_by (is_start_of id t)) (since_none l id), ap (sum_by (charge_of id t)) (since_none l id))

-- what is unread of another message stays
other_unread : (l : Ledger) (id i : Id) → id_eq i id ≡ false → unread_of (entered l id) i ≡ unread_of l i
other_unread l id i other =
    ap (λ (o : Option Admitted). option_map_or (λ (a : Admitted). unread_count (entered l id) a) o 0) (find_passed (λ (a : Admitted). id_eq a.id i) l.admitted (new_admitted id) (id_eq-sym i id other)) ∙ on (admitted_of l i) refl
  where
    on : (o : Option Admitted) → admitted_of l i ≡ o → option_map_or (λ (a : Admitted). unread_count (entered l id) a) o 0 ≡ option_map_or (λ (a : Admitted). unread_count l a) o 0
    on None f = refl
    on (Some a) f = ap (λ (o : Option Message). option_map_or (λ m. length m.recipients - a.unread) o 0)
        (other_moved l.book id a.id (move_to places.Active) (λ x. refl) (ap (λ (j : Id). id_eq j id) (id_eq-true a.id i (find_in (λ (x : Admitted). id_eq x.id i) a l.admitted f).1) ∙ other))

-- ---- the ledger

-- a message that comes into memory
pub record MayEnter (w : World) (l : Ledger) (id : Id) (m : Message) : Type 0 where
  pub there : message_of l.book id ≡ Some m
  pub out : is_active m.place ≡ false
  pub absent : is_admitted l id ≡ false
  pub gone : cause_gone l.book id ≡ true
  pub room : length l.admitted < w.settings.active_limit

enter_book : (w : World) (l : Ledger) (id : Id) (m : Message) → IsBookConsistent l → MayEnter w l id m → IsBookConsistent (entered l id)
enter_book w l id m h p =
    let order = keeps_move l.book id places.Active m h.distinct p.there (λ k. (and_parts (is_active m.place) (is_sealed m) k).1) (λ k bounce standing. caught bounce standing) refl in
    let book = change_book l id (move_to places.Active) l.unsettled l.synced (entries.Admit id) h order (λ x inside firm. mine_or_not id (move_to places.Active) x (λ y. has_firm_failures y ≡ true) (λ k. firm) (λ k. firm)) in
    record { distinct = book.distinct; orderly = book.orderly; firm = book.firm; come = book.come }
  where
    caught : id.bounce ≡ true → stands l.book (cause_of id) ≡ true → is_incoming places.Active ≡ true
    caught bounce standing =
        let bad : false ≡ true = sym (ap (λ x. not (x && stands l.book (cause_of id))) bounce ∙ ap not standing) ∙ p.gone in
        absurd cc

-- the message as it stands now
entered_message : (l : Ledger) (id : Id) (m : Message) → message_of l.book id ≡ Some m → message_of (move_message l.book id places.Active) id ≡ Some (move_to places.Active m)
entered_message l id m there =
    find_mapped (changed id (move_to places.Active)) (changed_name id (move_to places.Active) (λ x. refl)) id l.book.messages
    ∙ ap (option_map (changed id (move_to places.Active))) there ∙ ap Some (changed_same id (move_to places.Active) m (id_same m.id id (message_in l.book id m there).1))

tidied_before : (l : Ledger) (m : Message) → IsBookConsistent l → IsIn m l.book.messages → is_active m.place ≡ false → unmarked_logged m ≡ []
tidied_before l m h inside out =
    let rest : Message → Bool = λ x. is_active x.place || is_sound x in
    let all = (and_parts (list_all (λ id. nat_le id.generation l.book.generation && is_paired l.book id) (all_ids l.book)) (list_all rest l.book.messages) h.orderly).1 in
    let sound : is_sound m ≡ true = sym (ap (λ b. b || is_sound m) out) ∙ all_at rest m l.book.messages all inside in
    none_of (unmarked_logged m) (and_parts (has_none (unmarked_logged m)) (has_none (written_marks m)) (and_parts (has_none (unmarked_logged m) && has_none (written_marks m)) (has_firm_failures m) sound).0).0

enter_remembered : (w : World) (l : Ledger) (id : Id) (m : Message) → IsConsistent w l → MayEnter w l id m → (a : Admitted) (x : Message) → admitted_of (entered l id) a.id ≡ Some a → message_of (move_message l.book id places.Active) a.id ≡ Some x → IsRemembered (entered l id) a x
enter_remembered w l id m c p a x here there = elim (id_cases a.id id) [
  | inl same ↦
      let none : find (λ (b : Admitted). id_eq b.id id) l.admitted ≡ None = find_none_from (λ (b : Admitted). id_eq b.id id) l.admitted (λ b inside. none_at (λ (y : Admitted). id_eq y.id id) b l.admitted p.absent inside) in
      let it : new_admitted id ≡ a = same_Some (new_admitted id) a (sym (find_last id l.admitted none) ∙ ap (admitted_of (entered l id)) (sym same.0) ∙ here) in
      let mine : move_to places.Active m ≡ x = same_Some (move_to places.Active m) x (sym (entered_message l id m p.there) ∙ ap (message_of (move_message l.book id places.Active)) (sym same.0) ∙ there) in
      let found = message_in l.book id m p.there in
      subst (λ (b : Admitted). IsRemembered (entered l id) b x) it (subst (λ (y : Message). IsRemembered (entered l id) (new_admitted id) y) mine
      (new_remembered l id (move_to places.Active m) found.1 (absent_rows w l id c p.absent) (tidied_before l m c.book found.0 p.out)))
  | inr other ↦
      let h = c.memory.remembered a x (sym (find_passed (λ (b : Admitted). id_eq b.id a.id) l.admitted (new_admitted id) (id_eq-sym a.id id other)) ∙ here) (sym (other_moved l.book id a.id (move_to places.Active) (λ y. refl) other) ∙ there) in
      record { read = h.read; once = h.once; unmarked = h.unmarked; logged = h.logged }
]

-- a leftover was one before, and is as it was
enter_before : (w : World) (l : Ledger) (id : Id) (m : Message) → IsConsistent w l → MayEnter w l id m → (i : Id) → is_leftover (entered l id) i ≡ true → (is_leftover l i ≡ true) × (message_of (move_message l.book id places.Active) i ≡ message_of l.book i)
enter_before w l id m c p i left = elim (moved_at is_active l.book id i places.Active m c.book.distinct p.there (left_parts (entered l id) i left).0) [
  | inl old ↦ (left_from l i old.0 (outside (is_admitted l i) refl), other_moved l.book id i (move_to places.Active) (λ x. refl) old.1)
  | inr moved ↦
      let adm : is_admitted (entered l id) i ≡ true = any_from (λ (a : Admitted). id_eq a.id i) (new_admitted id) (l.admitted ++ new_admitted id ∷ []) (in_right (new_admitted id) l.admitted (new_admitted id ∷ []) (inl refl)) (id_same id i (sym moved.0)) in
      let bad : false ≡ true = sym (ap not adm) ∙ (left_parts (entered l id) i left).1 in
      absurd cc
]
  where
    outside : (t : Bool) → is_admitted l i ≡ t → not t ≡ true
    outside false e = refl
    outside true e = let bad : false ≡ true = sym (ap not (still_admitted l id i e)) ∙ (left_parts (entered l id) i left).1 in cc

enter_well : (w : World) (l : Ledger) (id : Id) (m : Message) → IsConsistent w l → MayEnter w l id m → list_all (is_synced_well (entered l id)) l.synced ≡ true
enter_well w l id m c p = all_weaker (is_synced_well l) (is_synced_well (entered l id)) l.synced (λ i inside well. well_still l (entered l id) i (enter_before w l id m c p i) well) c.memory.synced

enter_ready : (w : World) (l : Ledger) (id : Id) (m : Message) → IsConsistent w l → MayEnter w l id m → IsReady w (entered l id)
enter_ready w l id m c p =
    let k = entered l id in
    let e = entries.Admit id in
    let h = c.memory in
    let now : message_of (move_message l.book id places.Active) id ≡ Some (move_to places.Active m) = entered_message l id m p.there in
    let other : (a : Admitted) → IsIn a l.admitted → id_eq a.id id ≡ false = λ a inside. none_at (λ (x : Admitted). id_eq x.id id) a l.admitted p.absent inside in
    let same : (a : Admitted) → IsIn a l.admitted → message_of (move_message l.book id places.Active) a.id ≡ message_of l.book a.id = λ a inside. other_moved l.book id a.id (move_to places.Active) (λ x. refl) (other a inside) in
    record {
      usable = c.usable;
      book = enter_book w l id m c.book p;
      memory = record {
        admitted = ap are_distinct (names_more id l.admitted) ∙ distinct_join (map (λ (a : Admitted). a.id) l.admitted) (id ∷ []) h.admitted refl (λ i inside it. apart i inside it);
        present = all_append (is_present k) l.admitted (new_admitted id ∷ [])
            (all_weaker (is_present l) (is_present k) l.admitted (λ a inside g. ap (λ (o : Option Message). option_map_or (λ x. is_active x.place) o false) (same a inside) ∙ g) h.present)
            (and_from (is_present k (new_admitted id)) true (ap (λ (o : Option Message). option_map_or (λ x. is_active x.place) o false) now) refl);
        within = all_append (is_within k) l.admitted (new_admitted id ∷ [])
            (all_weaker (is_within l) (is_within k) l.admitted (λ a inside g. ap (λ (o : Option Message). option_map_or (λ x. nat_le a.unread (length x.recipients)) o false) (same a inside) ∙ g) h.within)
            (and_from (is_within k (new_admitted id)) true (ap (λ (o : Option Message). option_map_or (λ x. nat_le 0 (length x.recipients)) o false) now ∙ le-leb 0 (length m.recipients) (omega arith)) refl);
        waiting = all_weaker (λ (r : Row). is_admitted l r.id) (λ (r : Row). is_admitted k r.id) l.waiting (λ r inside g. still_admitted l id r.id g) h.waiting;
        filled = h.filled;
        flights = all_weaker (λ (f : Delivery). is_admitted l f.row.id) (λ (f : Delivery). is_admitted k f.row.id) l.flights (λ f inside g. still_admitted l id f.row.id g) h.flights;
        unsettled = all_weaker (λ (u : Unsettled). is_admitted l u.id) (λ (u : Unsettled). is_admitted k u.id) l.unsettled (λ u inside g. still_admitted l id u.id g) h.unsettled;
        remembered = enter_remembered w l id m c p;
        numbers = h.numbers;
        begun = begun_noted l e h.begun;
        single = h.single;
        fresh = λ i t some gone. elim (id_cases i id) [
          | inl it ↦ subst (λ j. (starts_of k j t ≡ 0) × (charged k j t ≡ 0)) (sym it.0) (new_account l id t)
          | inr not ↦ account_kept l e i t (record { admit = id_eq-sym i id not; start = refl; charge = refl }) (h.fresh i t (ap (λ n. n == 0) (sym (other_unread l id i not)) ∙ some) gone)
        ];
        synced = enter_well w l id m c p;
        synced_next = still_next l k (λ i left. (enter_before w l id m c p i left).0) refl h.synced_next;
        messages = (let n = length-append l.admitted (new_admitted id ∷ []) in let room : length l.admitted < w.settings.active_limit = p.room in omega (arith, n, room));
        recipients = h.recipients;
      };
    }
  where
    apart : (i : Id) → IsIn i (map (λ (a : Admitted). a.id) l.admitted) → IsIn i (id ∷ []) → ⊥
    apart i inside (inl it) =
        let one = in_unmap (λ (a : Admitted). a.id) i l.admitted inside in
        id_other (one.0).id id (none_at (λ (x : Admitted). id_eq x.id id) one.0 l.admitted p.absent one.1) (one.2 ∙ sym it)
    apart i inside (inr it) = it

turned : (w : World) (l : Ledger) (id : Id) (p : Pick) → IsReady w (entered l id) → IsReady w (noted (entries.Admit id) (record (passed p l) { book = move_message l.book id places.Active; admitted = l.admitted ++ new_admitted id ∷ [] }))
turned w l id (from_incoming i) h = otherwise_ready w (entered l id) l.now l.timed l.next_run l.scan l.asked l.ignores true l.served l.sites h
turned w l id (from_deferred name) h = otherwise_ready w (entered l id) l.now l.timed l.next_run (passed (from_deferred name) l).scan l.asked l.ignores false l.served l.sites h

pick_ready : (w : World) (l : Ledger) (id : Id) (o : Option Pick) → IsReady w (entered l id) → IsReady w (noted (entries.Admit id) (record (option_map_or (λ p. passed p l) o l) { book = move_message l.book id places.Active; admitted = l.admitted ++ new_admitted id ∷ [] }))
pick_ready w l id None h = h
pick_ready w l id (Some p) h = turned w l id p h

not_admitted : (w : World) (l : Ledger) (id : Id) (m : Message) → IsConsistent w l → message_of l.book id ≡ Some m → is_active m.place ≡ false → (t : Bool) → is_admitted l id ≡ t → t ≡ false
not_admitted w l id m c there out false e = refl
not_admitted w l id m c there out true e =
    let one = admitted_active w l id c e in
    let bad : true ≡ false = sym (subst (λ (x : Message). is_active x.place ≡ true) (same_Some one.0 m (sym one.1.there ∙ there)) one.1.active) ∙ out in
    cc

some_there : (b : Book) (id : Id) (o : Option Message) → message_of b id ≡ o → is_some o ≡ true → (m : Message) × (message_of b id ≡ Some m)
some_there b id None e h = absurd cc
some_there b id (Some m) e h = (m, e)

-- a message comes into memory
pub admit_consistent : (w : World) (l : Ledger) (id : Id) → IsConsistent w l → may_admit w l id ≡ true → IsConsistent w (after w l (entries.Admit id))
admit_consistent w l id c may =
    let three = and_parts (has_room w l && is_pick l id && is_some (message_of l.book id)) (cause_gone l.book id) may in
    let two = and_parts (has_room w l && is_pick l id) (is_some (message_of l.book id)) three.0 in
    let one = and_parts (has_room w l) (is_pick l id) two.0 in
    let room = and_parts (delivers l.mode && nat_lt (length l.admitted) w.settings.active_limit) (nat_le w.settings.recipient_minimum (free w l)) one.0 in
    let m = some_there l.book id (message_of l.book id) refl two.1 in
    let out = picked_out l id m.0 c.book.distinct one.1 m.1 in
    let enters : MayEnter w l id m.0 = record {
      there = m.1;
      out = out;
      absent = not_admitted w l id m.0 c m.1 out (is_admitted l id) refl;
      gone = three.1;
      room = ltb-true (length l.admitted) w.settings.active_limit (and_parts (delivers l.mode) (nat_lt (length l.admitted) w.settings.active_limit) room.0).1;
    } in
    after_consistent w l (entries.Admit id) (pick_ready w l id (pick l) (enter_ready w l id m.0 c enters))
