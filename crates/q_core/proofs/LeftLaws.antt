-- What earlier lives left in active.
use Rattle.std.proofs.Common.{◌≡◌, ℕ, Bool, true, false, cond, List, [], ◌∷◌, ◌++◌, length, map, refl, sym, ap, ◌∙◌, subst, Option, Some, None, inl, inr}
use Rattle.std.specs.Prelude.{find, filter, not, ◌&&◌, ◌||◌, nat_lt, is_none, is_some, if◌then◌else◌, option_and_then, option_map, slice_get}
use Rattle.std.specs.Option.{option_map_or, option_or}
use Rattle.std.specs.List.{list_any, list_all}
use Rattle.std.proofs.lemmas.List.Folds.{list_all-map}
use Rattle.q_core.proofs.ChoiceLaws.{least-all, list_all-filter}
use Rattle.q_core.proofs.ListLaws.{find-passes}
use Rattle.q_core.proofs.NameLaws.{and_true_parts, id_eq-same, id_eq-true, or_right}
use Rattle.q_model.specs.declared.rows.Place.TheVariants as places
use Rattle.q_core.proofs.PendingLaws.{pending_count}
use Rattle.q_core.proofs.RuleLaws.{kept_wants, no_length}
use Rattle.q_core.specs.Agrees.{AgreesButScan, IsSeen, file_of, found_active, found_at}
use Rattle.q_laws.specs.Consistency.{IsConsistent, is_synced_well}
use Rattle.q_core.proofs.StandingLaws.{leftover_active}
use Rattle.q_core.specs.Decisions.{IsRule, IsRuleOrLook}
use Rattle.q_core.specs.Rules.{clear_found_in, clear_in, clear_marked_in, is_synced_in, next_clearing_in}
use Rattle.q_core.specs.declared.decision.Decision.{Decision}
use Rattle.q_core.specs.declared.decision.Found.{Found}
use Rattle.q_core.specs.declared.decision.Found.TheVariants.{Damaged, Nothing, Whole}
use Rattle.q_core.specs.declared.state.Core.{Core}
use Rattle.q_core.specs.declared.state.Seen.{Seen}
use Rattle.q_core.specs.declared.state.Seen.TheVariants.{Known, Unknown}
use Rattle.q_model.specs.Admissions.{cause_gone, has_room}
use Rattle.q_model.specs.Book.{Book, damaged_of, ids_at, message_of, stands}
use Rattle.q_model.specs.Bounces.{may_bounce}
use Rattle.q_model.specs.Finishing.{has_bounce, is_at_rest, is_clean, is_done, wants_bounce}
use Rattle.q_model.specs.Ids.{id_before, id_eq}
use Rattle.q_model.specs.Leaving.{may_back, may_corrupt, may_remove}
use Rattle.q_model.specs.Ledger.{Ledger}
use Rattle.q_model.specs.Leftovers.{is_leftover, is_next_leftover, leftovers, next_leftover, was_synced}
use Rattle.q_model.specs.Lists.{first_of, has_none, least}
use Rattle.q_model.specs.Memory.{is_admitted, is_idle}
use Rattle.q_model.specs.Message.{Message, pending, unmarked_logged}
use Rattle.q_model.specs.Next.{clear_leftover, leftover_decision, leftover_rule}
use Rattle.q_model.specs.Places.{is_active}
use Rattle.q_model.specs.Settings.{World}
use Rattle.q_model.specs.Alternation.{is_pick}
use Rattle.q_model.specs.declared.entry.Entry.{Entry}
use Rattle.q_model.specs.declared.id.Id.{Id}
use Rattle.q_model.specs.declared.rows.Place.{Place}
use Rattle.q_model.specs.declared.entry.Entry.TheVariants as entries
use Rattle.q_core.specs.declared.decision.Decision.TheVariants as decisions
use Rattle.q_model.specs.Book.{Damaged as DamagedFile}

-- an id that is in the list
any_of_all : (q : Id → Bool) (id x : Id) (xs : List Id) (b c : Bool) → id_eq id x ≡ b → q x ≡ c → (c && list_all q xs) ≡ true → (list_all q xs ≡ true → list_any (id_eq id) xs ≡ true → q id ≡ true) →
    (b || list_any (id_eq id) xs) ≡ true → q id ≡ true
any_of_all q id x xs true true e h all rest any = ap q (id_eq-true id x e) ∙ h
any_of_all q id x xs false true e h all rest any = rest all any
any_of_all q id x xs b false e h all rest any = cc

pub in_all : (q : Id → Bool) (id : Id) (xs : List Id) → list_all q xs ≡ true → list_any (id_eq id) xs ≡ true → q id ≡ true
in_all q id [] all any = cc
in_all q id (x ∷ xs) all any = any_of_all q id x xs (id_eq id x) (q x) refl refl all (in_all q id xs) any

-- each of a list is in it, and in a longer one
each_in : (xs ys : List Id) → ((k : Id) → list_any (id_eq k) xs ≡ true → list_any (id_eq k) ys ≡ true) → list_all (λ k. list_any (id_eq k) ys) xs ≡ true
each_in [] ys h = refl
each_in (x ∷ xs) ys h =
    ap (λ b. b && list_all (λ k. list_any (id_eq k) ys) xs) (h x (ap (λ b. b || list_any (id_eq x) xs) (id_eq-same x)))
    ∙ each_in xs ys (λ k g. h k (or_right (id_eq k x) (list_any (id_eq k) xs) g))

-- the least is in the list
pub least_in : (before : Id → Id → Bool) (xs : List Id) (id : Id) → least before xs ≡ Some id → list_any (id_eq id) xs ≡ true
least_in before xs id e = least-all before (λ k. list_any (id_eq k) xs) xs id (each_in xs xs (λ k g. g)) e

pub all_append : (q : Id → Bool) (xs ys : List Id) → list_all q xs ≡ true → list_all q ys ≡ true → list_all q (xs ++ ys) ≡ true
all_append q [] ys h k = k
all_append q (x ∷ xs) ys h k = let p = and_true_parts (q x) (list_all q xs) h in ap (λ b. b && list_all q (xs ++ ys)) p.0 ∙ all_append q xs ys p.1 k

pub some_later : {X : Type 0} (b : Bool) (x : X) (o : Option X) → is_some o ≡ true → is_some (cond b (Some x) o) ≡ true
some_later true x o h = refl
some_later false x o h = h

-- each element of a list is found by its name
pub stand_each : {X : Type 0} (name : X → Id) (q : Id → Bool) (xs : List X) → ((k : Id) → is_some (find (λ x. id_eq (name x) k) xs) ≡ true → q k ≡ true) → list_all (λ x. q (name x)) xs ≡ true
stand_each name q [] h = refl
stand_each name q (x ∷ xs) h =
    ap (λ b. b && list_all (λ y. q (name y)) xs) (h (name x) (ap (λ b. is_some (cond b (Some x) (find (λ y. id_eq (name y) (name x)) xs))) (id_eq-same (name x))))
    ∙ stand_each name q xs (λ k g. h k (some_later (id_eq (name x) k) x (find (λ y. id_eq (name y) k) xs) g))

-- each name at a place is that of a message or of a damaged file
pub stands_all : (place : Place → Bool) (b : Book) → list_all (stands b) (ids_at place b) ≡ true
stands_all place b =
    all_append (stands b) (map (λ (m : Message). m.id) (filter (λ (m : Message). place m.place) b.messages)) (map (λ (d : DamagedFile). d.id) (filter (λ (d : DamagedFile). place d.place) b.damaged))
    (list_all-map (stands b) (λ (m : Message). m.id) (filter (λ (m : Message). place m.place) b.messages)
    ∙ list_all-filter (λ (m : Message). stands b m.id) (λ (m : Message). place m.place) b.messages
    (stand_each (λ (m : Message). m.id) (stands b) b.messages (λ k g. ap (λ z. z || is_some (damaged_of b k)) g)))
    (list_all-map (stands b) (λ (d : DamagedFile). d.id) (filter (λ (d : DamagedFile). place d.place) b.damaged)
    ∙ list_all-filter (λ (d : DamagedFile). stands b d.id) (λ (d : DamagedFile). place d.place) b.damaged
    (stand_each (λ (d : DamagedFile). d.id) (stands b) b.damaged (λ k g. or_right (is_some (message_of b k)) (is_some (damaged_of b k)) g)))

pub damaged_there : (b : Book) (id : Id) → stands b id ≡ true → message_of b id ≡ None → is_some (damaged_of b id) ≡ true
damaged_there b id h e = ap (λ (o : Option Message). is_some o || is_some (damaged_of b id)) (sym e) ∙ h

left_stands : (l : Ledger) (id : Id) → next_leftover l ≡ Some id → stands l.book id ≡ true
left_stands l id e = least-all id_before (stands l.book) (leftovers l) id (list_all-filter (stands l.book) (λ k. not (is_admitted l k)) (ids_at is_active l.book) (stands_all is_active l.book)) e

abbrev next_is : Id → Option Id → Bool
next_is id o = option_map_or (λ x. id_eq x id) o false

corrupt_is : (w : World) (l : Ledger) (id : Id) → next_leftover l ≡ Some id → message_of l.book id ≡ None → may_corrupt w l id ≡ cause_gone l.book id
corrupt_is w l id next none =
    ap (λ b. b && (is_next_leftover l id || (has_room w l && is_pick l id)) && cause_gone l.book id) (damaged_there l.book id (left_stands l id next) none)
    ∙ ap (λ b. (b || (has_room w l && is_pick l id)) && cause_gone l.book id) (ap (next_is id) next ∙ id_eq-same id)

corrupt_table : (c : Core) (id : Id) (b : Bool) → IsRule c (if b then Some (decisions.Corrupt id places.Active) else None) (first_of ((b, entries.Corrupt id) ∷ []))
corrupt_table c id true = (entries.Corrupt id, refl, refl)
corrupt_table c id false = refl

abbrev decision_on : World → Ledger → Id → Option Message → Option Entry
decision_on w l id o = option_map_or (λ m. clear_leftover w l m) o (first_of ((may_corrupt w l id, entries.Corrupt id) ∷ []))

left_damaged : (w : World) (c : Core) (l : Ledger) (id : Id) → next_leftover l ≡ Some id → message_of l.book id ≡ None →
    IsRule c (if cause_gone l.book id then Some (decisions.Corrupt id places.Active) else None) (leftover_decision w l id)
left_damaged w c l id next none =
    subst (λ o. IsRule c (if cause_gone l.book id then Some (decisions.Corrupt id places.Active) else None) o)
    (sym (ap (decision_on w l id) none ∙ ap (λ b. first_of ((b, entries.Corrupt id) ∷ [])) (corrupt_is w l id next none)))
    (corrupt_table c id (cause_gone l.book id))

abbrev mark_of : Id → List ℕ → Option Entry
mark_of k ps = option_map (λ p. entries.Mark k p) (slice_get ps 0)

abbrev clear_choice : Id → Bool → Bool → Bool → Bool → Option Entry
clear_choice k unsynced bounce remove back = first_of ((unsynced, entries.Sync k) ∷ (bounce, entries.Bounce k) ∷ (remove, entries.Remove k) ∷ (back, entries.Back k) ∷ [])

abbrev clear_tests : Ledger → Id → Option Entry
clear_tests l k = clear_choice k (not (was_synced l k)) (may_bounce l k) (may_remove l k) (may_back l k)

left_table : (c : Core) (id : Id) (no_pending wants bounced : Bool) →
    IsRule c (Some (if not no_pending then decisions.Back id else (if wants && not bounced then decisions.Bounce id else decisions.Remove id)))
    (clear_choice id false (no_pending && wants && not bounced) (no_pending && (not wants || bounced)) (not no_pending))
left_table c id false wants bounced = (entries.Back id, refl, refl)
left_table c id true true false = (entries.Bounce id, refl, refl)
left_table c id true true true = (entries.Remove id, refl, refl)
left_table c id true false bounced = (entries.Remove id, refl, refl)

-- what is known of a leftover that was synced
pub record IsSyncedLeft (l : Ledger) (id : Id) (m : Message) : Type 0 where
  pub there : message_of l.book id ≡ Some m
  pub name : m.id ≡ id
  pub left : is_leftover l id ≡ true
  pub active : is_active m.place ≡ true
  pub synced : was_synced l id ≡ true
  pub clean : is_clean m ≡ true
  pub marked : has_none (unmarked_logged m) ≡ true

twice : (b : Bool) → (b && true && true) ≡ b
twice true = refl
twice false = refl

left_done : (l : Ledger) (id : Id) (m : Message) → IsSyncedLeft l id m → is_done m ≡ has_none (pending m)
left_done l id m k =
    ap (λ b. has_none (pending m) && b && is_clean m) k.marked ∙ ap (λ b. has_none (pending m) && true && b) k.clean ∙ twice (has_none (pending m))

left_rest : (l : Ledger) (id : Id) (m : Message) → IsSyncedLeft l id m → is_at_rest l id ≡ true
left_rest l id m k = or_right (is_idle l id) (is_leftover l id && was_synced l id) (ap (λ b. b && was_synced l id) k.left ∙ k.synced)

abbrev bounce_on : Ledger → Id → Option Message → Bool
bounce_on l id o = option_map_or (λ m. is_active m.place && is_at_rest l id && is_done m && wants_bounce m && not (has_bounce l id)) o false

abbrev remove_on : Ledger → Id → Option Message → Bool
remove_on l id o = option_map_or (λ m. is_active m.place && is_at_rest l id && is_done m && (not (wants_bounce m) || has_bounce l id)) o false

abbrev back_on : Option Message → Bool
back_on o = option_map_or (λ m. has_none (unmarked_logged m) && is_clean m && not (has_none (pending m))) o false

left_bounce : (l : Ledger) (id : Id) (m : Message) → IsSyncedLeft l id m → may_bounce l id ≡ (has_none (pending m) && wants_bounce m && not (has_bounce l id))
left_bounce l id m k =
    ap (bounce_on l id) k.there
    ∙ ap (λ b. b && is_at_rest l id && is_done m && wants_bounce m && not (has_bounce l id)) k.active
    ∙ ap (λ b. true && b && is_done m && wants_bounce m && not (has_bounce l id)) (left_rest l id m k)
    ∙ ap (λ b. b && wants_bounce m && not (has_bounce l id)) (left_done l id m k)

left_remove : (l : Ledger) (id : Id) (m : Message) → IsSyncedLeft l id m → may_remove l id ≡ (has_none (pending m) && (not (wants_bounce m) || has_bounce l id))
left_remove l id m k =
    ap (remove_on l id) k.there
    ∙ ap (λ b. b && is_at_rest l id && is_done m && (not (wants_bounce m) || has_bounce l id)) k.active
    ∙ ap (λ b. true && b && is_done m && (not (wants_bounce m) || has_bounce l id)) (left_rest l id m k)
    ∙ ap (λ b. b && (not (wants_bounce m) || has_bounce l id)) (left_done l id m k)

left_back : (l : Ledger) (id : Id) (m : Message) → IsSyncedLeft l id m → may_back l id ≡ not (has_none (pending m))
left_back l id m k =
    ap (λ o. is_leftover l id && was_synced l id && back_on o) k.there
    ∙ ap (λ b. b && was_synced l id && back_on (Some m)) k.left
    ∙ ap (λ b. true && b && back_on (Some m)) k.synced
    ∙ ap (λ b. b && is_clean m && not (has_none (pending m))) k.marked
    ∙ ap (λ b. true && b && not (has_none (pending m))) k.clean

left_choice : (l : Ledger) (id : Id) (m : Message) → IsSyncedLeft l id m →
    clear_tests l id ≡ clear_choice id false (has_none (pending m) && wants_bounce m && not (has_bounce l id)) (has_none (pending m) && (not (wants_bounce m) || has_bounce l id)) (not (has_none (pending m)))
left_choice l id m k =
    ap (λ b. clear_choice id (not b) (may_bounce l id) (may_remove l id) (may_back l id)) k.synced
    ∙ ap (λ b. clear_choice id false b (may_remove l id) (may_back l id)) (left_bounce l id m k)
    ∙ ap (λ b. clear_choice id false (has_none (pending m) && wants_bounce m && not (has_bounce l id)) b (may_back l id)) (left_remove l id m k)
    ∙ ap (λ b. clear_choice id false (has_none (pending m) && wants_bounce m && not (has_bounce l id)) (has_none (pending m) && (not (wants_bounce m) || has_bounce l id)) b) (left_back l id m k)

abbrev left_kept : Id → Bool → Bool → Bool → Decision
left_kept id some_pending wants bounced = if some_pending then decisions.Back id else (if wants && not bounced then decisions.Bounce id else decisions.Remove id)

left_code : (l : Ledger) (id : Id) (m : Message) → has_none (unmarked_logged m) ≡ true → m.id ≡ id → clear_marked_in true id (file_of l id m) ≡ left_kept id (not (has_none (pending m))) (wants_bounce m) (has_bounce l id)
left_code l id m marked name =
    ap (λ b. left_kept id b (nat_lt 0 (length m.failures) && not (is_none m.sender) && not id.bounce) (has_bounce l id)) (ap (nat_lt 0) (sym (pending_count m marked)) ∙ no_length (pending m))
    ∙ ap (λ b. left_kept id (not (has_none (pending m))) b (has_bounce l id)) (kept_wants m id name)

left_synced : (c : Core) (l : Ledger) (id : Id) (m : Message) → IsSyncedLeft l id m → IsRule c (Some (clear_marked_in true id (file_of l id m))) (clear_tests l id)
left_synced c l id m k =
    subst (λ d. IsRule c (Some d) (clear_tests l id)) (sym (left_code l id m k.marked k.name))
    (subst (λ o. IsRule c (Some (left_kept id (not (has_none (pending m))) (wants_bounce m) (has_bounce l id))) o) (sym (left_choice l id m k))
    (left_table c id (has_none (pending m)) (wants_bounce m) (has_bounce l id)))

left_unsynced : (c : Core) (l : Ledger) (id : Id) (m : Message) → was_synced l id ≡ false → IsRule c (Some (clear_marked_in false id (file_of l id m))) (clear_tests l id)
left_unsynced c l id m s = (entries.Sync id, refl, ap (λ b. clear_choice id (not b) (may_bounce l id) (may_remove l id) (may_back l id)) s)

-- a leftover that was synced in this life has each mark synced
left_well : {w : World} {c : Core} {l : Ledger} → AgreesButScan w c l → IsConsistent w l → (id : Id) (m : Message) → message_of l.book id ≡ Some m → is_leftover l id ≡ true → was_synced l id ≡ true →
    (is_clean m && has_none (unmarked_logged m)) ≡ true
left_well {l = l} h k id m e left synced =
    let well : Message → Bool = λ (x : Message). is_clean x && has_none (unmarked_logged x) in
    sym (ap (λ o. option_map_or well o true) e)
    ∙ sym (ap (λ b. not b || option_map_or well (message_of l.book id) true) left)
    ∙ in_all (is_synced_well l) id l.synced k.memory.synced synced

left_none : {w : World} {c : Core} {l : Ledger} → AgreesButScan w c l → IsConsistent w l → (id : Id) (m : Message) (s : Bool) → was_synced l id ≡ s → message_of l.book id ≡ Some m → m.id ≡ id → is_leftover l id ≡ true →
    unmarked_logged m ≡ [] → IsRule c (Some (clear_marked_in s id (file_of l id m))) (clear_tests l id)
left_none {c = c} {l = l} h k id m false s e name left none = left_unsynced c l id m s
left_none {c = c} {l = l} h k id m true s e name left none =
    let well = and_true_parts (is_clean m) (has_none (unmarked_logged m)) (left_well h k id m e left s) in
    left_synced c l id m (record { there = e; name = name; left = left; active = leftover_active l k.book.distinct id m left e; synced = s; clean = well.0; marked = well.1 })

left_list : {w : World} {c : Core} {l : Ledger} → AgreesButScan w c l → IsConsistent w l → (id : Id) (m : Message) → message_of l.book id ≡ Some m → m.id ≡ id → is_leftover l id ≡ true →
    (xs : List ℕ) → unmarked_logged m ≡ xs → IsRule c (Some (option_map_or (λ position. decisions.Mark id position) (slice_get xs 0) (clear_marked_in (was_synced l id) id (file_of l id m)))) (option_or (mark_of id xs) (clear_tests l id))
left_list h k id m e name left [] none = left_none h k id m _ refl e name left none
left_list {c = c} h k id m e name left (p ∷ ps) some = (entries.Mark id p, refl, refl)

left_whole : {w : World} {c : Core} {l : Ledger} → AgreesButScan w c l → IsConsistent w l → (id : Id) (m : Message) → message_of l.book id ≡ Some m → is_leftover l id ≡ true →
    IsRule c (Some (clear_in (is_synced_in c id) id (file_of l id m))) (leftover_decision w l id)
left_whole {w = w} {c = c} {l = l} h k id m e left =
    let name : m.id ≡ id = id_eq-true m.id id (find-passes (λ x. id_eq x.id id) l.book.messages m e) in
    let rule : leftover_decision w l id ≡ option_or (mark_of id (unmarked_logged m)) (clear_tests l id) =
    ap (decision_on w l id) e ∙ ap (λ i. option_or (mark_of i (unmarked_logged m)) (clear_tests l i)) name in
    subst (λ b. IsRule c (Some (clear_in b id (file_of l id m))) (leftover_decision w l id)) (sym (h.synced id left))
    (subst (λ o. IsRule c (Some (clear_in (was_synced l id) id (file_of l id m))) o) (sym rule)
    (left_list h k id m e name left (unmarked_logged m) refl))

abbrev found_on : Ledger → ℕ → Id → Option Message → Found
found_on l due id o = option_map_or (λ m. Whole id due (file_of l id m)) o (Damaged id due (cause_gone l.book id))

left_at : {w : World} {c : Core} {l : Ledger} → AgreesButScan w c l → IsConsistent w l → (id : Id) → next_leftover l ≡ Some id → (o : Option Message) → message_of l.book id ≡ o →
    IsRule c (clear_found_in c (found_on l 0 id o)) (leftover_decision w l id)
left_at {w = w} {c = c} {l = l} h k id next None e = left_damaged w c l id next e
left_at {l = l} h k id next (Some m) e = left_whole h k id m e (least_in id_before (leftovers l) id next)

abbrev active_on : Ledger → Option Id → Found
active_on l o = option_map_or (λ id. found_at l 0 id) o Nothing

abbrev rule_on : World → Ledger → Option Id → Option Entry
rule_on w l o = option_and_then (λ id. leftover_decision w l id) o

left_found : {w : World} {c : Core} {l : Ledger} → AgreesButScan w c l → IsConsistent w l → (o : Option Id) → next_leftover l ≡ o → IsRule c (clear_found_in c (active_on l o)) (rule_on w l o)
left_found h k None e = refl
left_found {l = l} h k (Some id) e = left_at h k id e (message_of l.book id) refl

left_seen : {w : World} {c : Core} {l : Ledger} → AgreesButScan w c l → IsConsistent w l → (seen : Seen) → IsSeen seen (found_active l) → IsRuleOrLook c decisions.LookActive seen (next_clearing_in c seen) (leftover_rule w l)
left_seen h k Unknown e = inr (refl, refl)
left_seen {w = w} {c = c} {l = l} h k (Known found) e = inl (subst (λ f. IsRule c (clear_found_in c f) (leftover_rule w l)) (sym e) (left_found h k (next_leftover l) refl))

pub leftover_law : {w : World} {c : Core} {l : Ledger} → AgreesButScan w c l → IsConsistent w l → IsRuleOrLook c decisions.LookActive c.active (next_clearing_in c c.active) (leftover_rule w l)
leftover_law {c = c} h k = left_seen h k c.active h.active
