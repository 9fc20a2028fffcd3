-- What fits together still does as a recipient is marked.
use Rattle.std.proofs.Common.{◌≡◌, ℕ, suc, ◌+◌, ◌≤◌, Bool, true, false, not, List, [], ◌∷◌, ◌++◌, drop, length, Option, Some, None, inl, inr, refl, sym, ap, ◌∙◌, subst, if◌then◌else◌, arith, eqb-true, le_refl}
use Rattle.std.proofs.lemmas.Bool.{and_parts}
use Rattle.std.specs.List.{list_all}
use Rattle.std.specs.Option.{option_map_or}
use Rattle.std.specs.Prelude.{nat_lt, ◌&&◌, ◌||◌, ◌==◌, slice_get}
use Rattle.q_laws.proofs.Books.{left_active, message_in}
use Rattle.q_laws.proofs.Counts.{all_fewer, in_times, once_fewer, once_times, times, times_append}
use Rattle.q_laws.proofs.Decided.{Says}
use Rattle.q_laws.proofs.Distinct.{id_cases, id_eq-sym, id_same}
use Rattle.q_laws.proofs.InPlace.{KeepsShape, admitted_not_left, change_ready, changed, changed_ledger, changed_other, keeps_active, well_kept, well_other}
use Rattle.q_laws.proofs.Places.{got_in, length-numbered, none_in}
use Rattle.q_laws.proofs.Members.{find_in, IsIn, all_at, all_weaker, any_from, in_right}
use Rattle.q_laws.proofs.RowCounts.{unsettled_remembered}
use Rattle.q_laws.proofs.Tidied.{IsReady, after_consistent}
use Rattle.q_laws.proofs.Unmarked.{bare_logged, bare_mark, bare_not_sealed, none_logged, none_more}
use Rattle.q_laws.specs.Consistency.{IsConsistent, IsRemembered, flight_positions, is_synced_well, logged_of, memory_positions, unsettled_positions, waiting_positions}
use Rattle.q_model.proofs.IdLaws.{id_eq-refl, id_eq-true}
use Rattle.q_model.specs.Book.{message_of}
use Rattle.q_model.specs.Finishing.{is_clean}
use Rattle.q_model.specs.Ids.{id_eq}
use Rattle.q_model.specs.Ledger.{Ledger}
use Rattle.q_model.specs.Leftovers.{is_leftover}
use Rattle.q_model.specs.Lists.{has_none}
use Rattle.q_model.specs.Marking.{is_unmarked_at, mark_one, marks_first, needs_mark, with_mark}
use Rattle.q_model.specs.Memory.{admitted_of, is_admitted}
use Rattle.q_model.specs.Message.{Message, is_logged, unmarked_logged}
use Rattle.q_model.specs.Orderly.{has_firm_failures}
use Rattle.q_model.specs.Settings.{World}
use Rattle.q_model.specs.Step.{after}
use Rattle.q_model.specs.declared.id.Id.{Id}
use Rattle.q_model.specs.declared.rows.Admitted.{Admitted}
use Rattle.q_model.specs.declared.rows.Unsettled.{Unsettled}
use Rattle.q_model.specs.declared.entry.Entry.TheVariants as entries
use Rattle.q_laws.proofs.First.{first_on, first_positions, other_logged}
use Rattle.q_laws.proofs.Synced.{admitted_active, found_admitted, mine_or_not}

mark_shape : (p : ℕ) → KeepsShape (with_mark p)
mark_shape p = record { name = λ m. refl; place = λ m. refl; count = λ m. length-numbered (mark_one p) 0 m.recipients }

-- ---- the mark of the first unsettled outcome

-- what is in memory beside the first unsettled outcome
fewer_remembered : (l : Ledger) (u : Unsettled) (rest : List Unsettled) (id : Id) → l.unsettled ≡ u ∷ rest → (q : ℕ) → times q (memory_positions l id) ≡ times q (if id_eq u.id id then u.position ∷ [] else []) + times q (waiting_positions id l.waiting ++ flight_positions id l.flights ++ unsettled_positions id rest)
fewer_remembered l u rest id e q =
    let front = waiting_positions id l.waiting ++ flight_positions id l.flights in
    let one : List ℕ = if id_eq u.id id then u.position ∷ [] else [] in
    let whole : times q (memory_positions l id) ≡ times q front + times q (unsettled_positions id l.unsettled) = times_append q front (unsettled_positions id l.unsettled) in
    let split : times q (unsettled_positions id l.unsettled) ≡ times q one + times q (unsettled_positions id rest) = ap (λ us. times q (unsettled_positions id us)) e ∙ times_append q one (unsettled_positions id rest) in
    let left : times q (front ++ unsettled_positions id rest) ≡ times q front + times q (unsettled_positions id rest) = times_append q front (unsettled_positions id rest) in
    omega (arith, whole, split, left)

mark_remembered : (l : Ledger) (id : Id) (p : ℕ) (u : Unsettled) (rest : List Unsettled) (a : Admitted) (m : Message) → l.unsettled ≡ u ∷ rest → u.id ≡ id → u.position ≡ p → needs_mark u.need ≡ true → m.id ≡ a.id → IsRemembered l a m →
    IsRemembered (changed_ledger l id (with_mark p) rest l.synced (entries.Mark id p)) a (changed id (with_mark p) m)
mark_remembered l id p u rest a m e mine at need name h =
    let k = changed_ledger l id (with_mark p) rest l.synced (entries.Mark id p) in
    let fewer : (q : ℕ) → times q (memory_positions k a.id) ≤ times q (memory_positions l a.id) = λ q. let s = fewer_remembered l u rest a.id e q in omega (arith, s) in
    let reads = all_fewer (λ q. nat_lt q a.unread) (memory_positions l a.id) (memory_positions k a.id) fewer h.read in
    let once = once_fewer (memory_positions l a.id) (memory_positions k a.id) fewer h.once in
    let bare : list_all (is_unmarked_at m) (memory_positions k a.id) ≡ true = all_fewer (is_unmarked_at m) (memory_positions l a.id) (memory_positions k a.id) fewer h.unmarked in
    let now : unmarked_logged m ≡ logged_of m (Some u) = h.logged ∙ ap (λ (us : List Unsettled). logged_of m (slice_get us 0)) e in
    mine_or_not id (with_mark p) m (λ x. IsRemembered k a x)
    (λ it.
    let still : list_all (is_unmarked_at (with_mark p m)) (memory_positions k a.id) ≡ true =
    all_weaker (is_unmarked_at m) (is_unmarked_at (with_mark p m)) (memory_positions k a.id) (λ q there b. bare_mark p q m (apart (mine ∙ sym it ∙ name) q there (q == p) refl) ∙ b) bare in
    record {
      read = reads;
      once = once;
      unmarked = still;
      logged = none_more p m (λ q k. only now q k) ∙ sym (none_logged (with_mark p m) (slice_get rest 0) (none_more p m (λ q k. only now q k)) (λ v f s. all_at (is_unmarked_at (with_mark p m)) v.position (memory_positions k a.id) still (behind v f (s ∙ name))));
    })
    (λ other.
    let none : unmarked_logged m ≡ [] = now ∙ other_logged m u (ap (λ i. id_eq i m.id) mine ∙ id_eq-sym m.id id other) in
    record {
      read = reads;
      once = once;
      unmarked = bare;
      logged = none ∙ sym (none_logged m (slice_get rest 0) none (λ v f s. all_at (is_unmarked_at m) v.position (memory_positions k a.id) bare (behind v f (s ∙ name))));
    })
  where
    only : unmarked_logged m ≡ logged_of m (Some u) → (q : ℕ) → IsIn q (unmarked_logged m) → q ≡ p
    only now q k = which (id_eq u.id m.id && needs_mark u.need && is_logged m u.position) (subst (λ ps. IsIn q ps) now k)
      where
        which : (b : Bool) → IsIn q (if b then u.position ∷ [] else []) → q ≡ p
        which true (inl s) = sym s ∙ at
        which true (inr s) = absurd s
        which false s = absurd s

    apart : u.id ≡ a.id → (q : ℕ) → IsIn q (waiting_positions a.id l.waiting ++ flight_positions a.id l.flights ++ unsettled_positions a.id rest) → (b : Bool) → (q == p) ≡ b → (q == p) ≡ false
    apart same q there false k = k
    apart same q there true k =
        let both : q ≡ u.position = eqb-true q p k ∙ sym at in
        let more : 1 ≤ times q (waiting_positions a.id l.waiting ++ flight_positions a.id l.flights ++ unsettled_positions a.id rest) = in_times q (waiting_positions a.id l.waiting ++ flight_positions a.id l.flights ++ unsettled_positions a.id rest) there in
        let first : 1 ≤ times q (if id_eq u.id a.id then u.position ∷ [] else []) = in_times q (if id_eq u.id a.id then u.position ∷ [] else []) (subst (λ b. IsIn q (if b then u.position ∷ [] else [])) (sym (id_same u.id a.id same)) (inl (sym both))) in
        let all : times q (memory_positions l a.id) ≤ 1 = once_times (memory_positions l a.id) h.once q in
        let s = fewer_remembered l u rest a.id e q in
        absurd (omega (arith, more, first, all, s))

    behind : (v : Unsettled) → slice_get rest 0 ≡ Some v → v.id ≡ a.id → IsIn v.position (waiting_positions a.id l.waiting ++ flight_positions a.id l.flights ++ unsettled_positions a.id rest)
    behind v f s = in_right v.position (waiting_positions a.id l.waiting ++ flight_positions a.id l.flights) (unsettled_positions a.id rest) (unsettled_remembered a.id v rest (got_in v rest 0 f) s)

marked_ready : (w : World) (l : Ledger) (id : Id) (p : ℕ) → IsConsistent w l → marks_first l id p ≡ true → IsReady w (changed_ledger l id (with_mark p) (drop 1 l.unsettled) l.synced (entries.Mark id p))
marked_ready w l id p c first =
    let one = first_on l id p needs_mark l.unsettled refl first in
    let u = one.0 in
    let adm : is_admitted l id ≡ true = subst (λ i. is_admitted l i ≡ true) one.3 (all_at (λ (x : Unsettled). is_admitted l x.id) u l.unsettled c.memory.unsettled (subst (λ us. IsIn u us) (sym one.2) (inl refl))) in
    let mine = admitted_active w l id c adm in
    let a = found_admitted w l id c adm in
    let h = c.memory.remembered a.0 mine.0 a.1 (ap (message_of l.book) a.2 ∙ mine.1.there) in
    let bare : is_unmarked_at mine.0 p ≡ true = subst (λ q. is_unmarked_at mine.0 q ≡ true) one.4 (all_at (is_unmarked_at mine.0) u.position (memory_positions l (a.0).id) h.unmarked (first_positions u one.1 l (a.0).id one.2 (one.3 ∙ sym a.2))) in
    subst (λ us. IsReady w (changed_ledger l id (with_mark p) us l.synced (entries.Mark id p))) (sym (ap (drop 1) one.2))
    (change_ready w l id (with_mark p) one.1 l.synced (entries.Mark id p) c (mark_shape p)
    (keeps_active l.book id (with_mark p) mine.0 c.book.distinct mine.1.there (mark_shape p) mine.1.active (λ sealed. absurd (bare_not_sealed mine.0 p bare sealed)))
    (λ x inside firm. mine_or_not id (with_mark p) x (λ y. has_firm_failures y ≡ true) (λ same. firm) (λ other. firm))
    (λ i t. record { admit = refl; start = refl; charge = refl })
    (and_parts (is_admitted l u.id) (list_all (λ (x : Unsettled). is_admitted l x.id) one.1) (sym (ap (list_all (λ (x : Unsettled). is_admitted l x.id)) one.2) ∙ c.memory.unsettled)).1
    (let n : length l.unsettled ≡ suc (length one.1) = ap length one.2 in omega (arith, n))
    (λ b x here there. mark_remembered l id p u one.1 b x one.2 one.3 one.4 one.5 (message_in l.book b.id x there).1 (c.memory.remembered b x here there))
    (well_kept l id (with_mark p) one.1 l.synced (entries.Mark id p) (mark_shape p) adm c.memory.synced)
    c.memory.synced_next)

-- ---- the mark of a leftover

left_remembered : (l : Ledger) (id : Id) (p : ℕ) (a : Admitted) (m : Message) → id_eq m.id id ≡ false → IsRemembered l a m → IsRemembered (changed_ledger l id (with_mark p) l.unsettled l.synced (entries.Mark id p)) a (changed id (with_mark p) m)
left_remembered l id p a m other h =
    subst (λ x. IsRemembered (changed_ledger l id (with_mark p) l.unsettled l.synced (entries.Mark id p)) a x) (sym (changed_other id (with_mark p) m other))
    (record { read = h.read; once = h.once; unmarked = h.unmarked; logged = h.logged })

-- a leftover that lacks a mark wasn't synced
not_synced : (l : Ledger) (id : Id) (m : Message) (p : ℕ) → is_leftover l id ≡ true → message_of l.book id ≡ Some m → IsIn p (unmarked_logged m) → is_synced_well l id ≡ true → ⊥
not_synced l id m p left there half well =
    let good : option_map_or (λ x. is_clean x && has_none (unmarked_logged x)) (message_of l.book id) true ≡ true = sym (ap (λ b. not b || option_map_or (λ x. is_clean x && has_none (unmarked_logged x)) (message_of l.book id) true) left) ∙ well in
    let mine : (is_clean m && has_none (unmarked_logged m)) ≡ true = sym (ap (λ o. option_map_or (λ x. is_clean x && has_none (unmarked_logged x)) o true) there) ∙ good in
    none_in p (unmarked_logged m) (and_parts (is_clean m) (has_none (unmarked_logged m)) mine).1 half

left_on : (w : World) (l : Ledger) (id : Id) (p : ℕ) (o : Option Message) → IsConsistent w l → message_of l.book id ≡ o → is_leftover l id ≡ true → option_map_or (λ m. is_logged m p && is_unmarked_at m p) o false ≡ true →
    IsReady w (changed_ledger l id (with_mark p) l.unsettled l.synced (entries.Mark id p))
left_on w l id p None c there left may = absurd cc
left_on w l id p (Some m) c there left may =
    let two = and_parts (is_logged m p) (is_unmarked_at m p) may in
    let half : IsIn p (unmarked_logged m) = bare_logged m p two.1 two.0 in
    change_ready w l id (with_mark p) l.unsettled l.synced (entries.Mark id p) c (mark_shape p)
    (keeps_active l.book id (with_mark p) m c.book.distinct there (mark_shape p) (left_active l c.book.distinct id m left there) (λ sealed. absurd (bare_not_sealed m p two.1 sealed)))
    (λ x inside firm. mine_or_not id (with_mark p) x (λ y. has_firm_failures y ≡ true) (λ same. firm) (λ other. firm))
    (λ i t. record { admit = refl; start = refl; charge = refl })
    c.memory.unsettled (le_refl (length l.unsettled))
    (λ a x here found. left_remembered l id p a x (another a x (message_in l.book a.id x found).1 here (id_eq x.id id) refl) (c.memory.remembered a x here found))
    (all_weaker (is_synced_well l) (is_synced_well (changed_ledger l id (with_mark p) l.unsettled l.synced (entries.Mark id p))) l.synced (λ i inside well. elim (id_cases i id) [
      | inl same ↦ absurd (not_synced l id m p left there half (subst (λ j. is_synced_well l j ≡ true) same.0 well))
      | inr other ↦ well_other l id (with_mark p) l.unsettled l.synced (entries.Mark id p) (mark_shape p) i other well
    ]) c.memory.synced)
    c.memory.synced_next
  where
    another : (a : Admitted) (x : Message) → x.id ≡ a.id → admitted_of l a.id ≡ Some a → (b : Bool) → id_eq x.id id ≡ b → b ≡ false
    another a x name here false e = refl
    another a x name here true e =
        let adm : is_admitted l a.id ≡ true = any_from (λ (y : Admitted). id_eq y.id a.id) a l.admitted (find_in (λ (y : Admitted). id_eq y.id a.id) a l.admitted here).0 (id_eq-refl a.id) in
        let mine : a.id ≡ id = sym name ∙ id_eq-true x.id id e in
        let bad : false ≡ true = sym (admitted_not_left l id (subst (λ i. is_admitted l i ≡ true) mine adm)) ∙ left in
        absurd cc

dropped : (l : Ledger) (id : Id) (p : ℕ) (b : Bool) → b ≡ true → (if b then drop 1 l.unsettled else l.unsettled) ≡ drop 1 l.unsettled
dropped l id p true e = refl
dropped l id p false e = absurd cc

none_dropped : (us : List Unsettled) (b : Bool) → us ≡ [] → (if b then drop 1 us else us) ≡ us
none_dropped us false e = refl
none_dropped us true e = ap (drop 1) e ∙ sym e

-- a recipient is marked
pub mark_consistent : (w : World) (l : Ledger) (id : Id) (p : ℕ) → IsConsistent w l → Says l (entries.Mark id p) → IsConsistent w (after w l (entries.Mark id p))
mark_consistent w l id p c (inl first) =
    after_consistent w l (entries.Mark id p)
    (subst (λ us. IsReady w (changed_ledger l id (with_mark p) us l.synced (entries.Mark id p))) (sym (dropped l id p (marks_first l id p) first)) (marked_ready w l id p c first))
mark_consistent w l id p c (inr left) =
    let two = and_parts (is_leftover l id) (option_map_or (λ m. is_logged m p && is_unmarked_at m p) (message_of l.book id) false) left.1 in
    after_consistent w l (entries.Mark id p)
    (subst (λ us. IsReady w (changed_ledger l id (with_mark p) us l.synced (entries.Mark id p))) (sym (none_dropped l.unsettled (marks_first l id p) left.0)) (left_on w l id p (message_of l.book id) c refl two.0 two.1))
