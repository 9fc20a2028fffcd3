-- The rules by what the core holds are those of the ledger.
use Rattle.std.proofs.Common.{◌≡◌, ℕ, ◌-◌, Bool, true, false, List, [], ◌∷◌, cond, length, map, refl, sym, ap, ◌∙◌, subst, arith, Option, Some, None, option_map, inl, inr, IsTrue}
use Rattle.std.specs.List.{list_all, list_any}
use Rattle.std.specs.Option.{option_map_or}
use Rattle.std.specs.Prelude.{find, not, ◌&&◌, ◌||◌, ◌==◌, ◌+◌, min, max, is_none, nat_lt, nat_le, option_and_then, if◌then◌else◌, slice_get}
use Rattle.q_core.proofs.AgreesLaws.{recipients_on, same_dead, same_idle, same_waiting, unread_same}
use Rattle.q_core.proofs.ListLaws.{IsFoundAt, find-all, find-map, find-passes, find-same, position-find}
use Rattle.q_core.proofs.NameLaws.{and_true_parts, id_eq-same, id_eq-true}
use Rattle.q_model.proofs.IdLaws.{site_eq-refl, site_eq-true}
use Rattle.q_core.specs.Sending.{is_for, row_for}
use Rattle.q_model.specs.Sites.{site_eq}
use Rattle.q_core.specs.Agrees.{AgreesButScan, slot_from, slot_of}
use Rattle.q_laws.specs.Consistency.{is_present}
use Rattle.q_core.specs.Decisions.{IsReadRule, IsRule}
use Rattle.q_core.proofs.KindLaws.{is_whole}
use Rattle.q_core.specs.Held.{due_in, finish_in, free_in, is_damaged_in, is_dead_in, is_idle_in, may_read_in, wants_sync_in}
use Rattle.q_core.specs.Rules.{decision_of, first_need_in, needed_in, next_finish_in, next_read_in, next_skip_in, next_sync_in, skip_at, skip_decision}
use Rattle.q_core.specs.declared.decision.Decision.{Decision}
use Rattle.q_pool.specs.declared.slot.Slot.{Slot}
use Rattle.q_core.specs.declared.state.Core.{Core}
use Rattle.q_model.specs.Batches.{load_end}
use Rattle.q_model.specs.Book.{message_of}
use Rattle.q_model.specs.Bounces.{may_bounce}
use Rattle.q_model.specs.Finishing.{has_bounce, is_at_rest, is_clean, is_done, wants_bounce}
use Rattle.q_model.specs.Ids.{id_eq}
use Rattle.q_model.specs.Leaving.{may_defer, may_remove}
use Rattle.q_model.specs.Ledger.{Ledger}
use Rattle.q_model.specs.Leftovers.{is_leftover, was_synced}
use Rattle.q_model.specs.Lists.{first_of, has_none}
use Rattle.q_model.specs.Loads.{may_read}
use Rattle.q_model.specs.Memory.{free, has_waiting, in_memory, is_idle}
use Rattle.q_model.specs.Message.{Message, pending, unmarked_logged, written_marks}
use Rattle.q_model.specs.Next.{finish, finishing_rule, load_of, load_rule, marks_of, needed, settling_rule, skip_rule, sync_rule, wants_sync}
use Rattle.q_model.specs.Places.{is_active}
use Rattle.q_model.specs.Settings.{Settings, World}
use Rattle.q_model.specs.SiteRecords.{is_dead_site}
use Rattle.q_model.specs.Times.{due}
use Rattle.q_model.specs.declared.entry.Entry.{Entry}
use Rattle.q_model.specs.declared.id.Id.{Id}
use Rattle.q_model.specs.declared.rows.Admitted.{Admitted}
use Rattle.q_model.specs.declared.rows.Need.{Need}
use Rattle.q_model.specs.declared.rows.Row.{Row}
use Rattle.q_model.specs.declared.rows.Unsettled.{Unsettled}
use Rattle.q_model.specs.declared.entry.Entry.TheVariants as entries
use Rattle.q_core.specs.declared.decision.Decision.TheVariants as decisions
use Rattle.q_model.specs.declared.rows.Need.TheVariants as needs

and_false : (b : Bool) → (b && false) ≡ false
and_false true = refl
and_false false = refl

same_wish : {w : World} {c : Core} {l : Ledger} → AgreesButScan w c l → (x : Admitted) → wants_sync_in c (slot_of l x) ≡ wants_sync w l x
same_wish {w = w} {c = c} {l = l} a x =
    ap (λ n. nat_le n (marks_of l x.id) || (nat_lt 0 (marks_of l x.id) && is_idle_in c x.id)) (ap (λ (s : Settings). s.mark_sync_limit) a.settings)
    ∙ ap (λ b. nat_le w.settings.mark_sync_limit (marks_of l x.id) || (nat_lt 0 (marks_of l x.id) && b)) (same_idle a x.id)

-- the slots that are found are those of the admitted that are found
pub found_slot : {w : World} {c : Core} {l : Ledger} → AgreesButScan w c l → (p : Slot → Bool) (q : Admitted → Bool) → ((x : Admitted) → p (slot_of l x) ≡ q x) →
    find p c.admitted ≡ option_map (slot_of l) (find q l.admitted)
found_slot {l = l} a p q h = ap (find p) a.admitted ∙ find-map p (slot_of l) l.admitted ∙ ap (option_map (slot_of l)) (find-same (λ x. p (slot_of l x)) q h l.admitted)

whole_one : (l : Ledger) (o : Option Admitted) → option_map_or (λ (s : Slot). not s.damaged) (option_map (slot_of l) o) true ≡ true
whole_one l None = refl
whole_one l (Some x) = refl

-- a message in memory can be read, on a ledger
pub whole_law : {w : World} {c : Core} {l : Ledger} → AgreesButScan w c l → is_whole c ≡ true
whole_law {c = c} {l = l} a =
    ap (λ (ss : List Slot). option_map_or (λ s. not s.damaged) (find (λ s. is_idle_in c s.id) ss) true) a.admitted
    ∙ ap (λ o. option_map_or (λ (s : Slot). not s.damaged) o true) (find-map (λ s. is_idle_in c s.id) (slot_of l) l.admitted)
    ∙ whole_one l (find (λ x. is_idle_in c (slot_of l x).id) l.admitted)

no_damage_in : (l : Ledger) (id : Id) (xs : List Admitted) → list_any (λ (s : Slot). id_eq s.id id && s.damaged) (map (slot_of l) xs) ≡ false
no_damage_in l id [] = refl
no_damage_in l id (x ∷ xs) = ap (λ b. b || list_any (λ (s : Slot). id_eq s.id id && s.damaged) (map (slot_of l) xs)) (and_false (id_eq x.id id)) ∙ no_damage_in l id xs

pub no_damage : {w : World} {c : Core} {l : Ledger} → AgreesButScan w c l → (id : Id) → is_damaged_in c id ≡ false
no_damage {l = l} a id = ap (list_any (λ (s : Slot). id_eq s.id id && s.damaged)) a.admitted ∙ no_damage_in l id l.admitted

sync_found : (c : Core) (l : Ledger) (o : Option Admitted) → IsRule c (option_map (λ s. decisions.Sync s.id) (option_map (slot_of l) o)) (option_map (λ a. entries.Sync a.id) o)
sync_found c l None = refl
sync_found c l (Some x) = (entries.Sync x.id, refl, refl)

pub sync_law : {w : World} {c : Core} {l : Ledger} → AgreesButScan w c l → IsRule c (next_sync_in c) (sync_rule w l)
sync_law {w = w} {c = c} {l = l} a =
    subst (λ (o : Option Slot). IsRule c (option_map (λ s. decisions.Sync s.id) o) (sync_rule w l))
    (sym (found_slot a (wants_sync_in c) (wants_sync w l) (same_wish a)))
    (sync_found c l (find (wants_sync w l) l.admitted))

abbrev skip_entry : Row → Entry
skip_entry r = entries.Skip r.id r.site r.positions

narrow_step : (y x : Row) (b d : Bool) (o r : Option Row) → (d ≡ true → b ≡ true) → (b ≡ true → y ≡ x → d ≡ true) → (o ≡ Some x → r ≡ Some x) → cond b (Some y) o ≡ Some x → cond d (Some y) r ≡ Some x
narrow_step y x true true o r f g h e = e
narrow_step y x true false o r f g h e = let same : y ≡ x = cc in let bad = g refl same in cc
narrow_step y x false true o r f g h e = let bad = f refl in cc
narrow_step y x false false o r f g h e = h e

-- what is found is found by a narrower test that it passes
find_narrow : (p q : Row → Bool) (x : Row) → q x ≡ true → ((y : Row) → q y ≡ true → p y ≡ true) → (ys : List Row) → find p ys ≡ Some x → find q ys ≡ Some x
find_narrow p q x passes wider [] e = cc
find_narrow p q x passes wider (y ∷ ys) e = narrow_step y x (p y) (q y) (find p ys) (find q ys) (wider y) (λ k same. ap q same ∙ passes) (find_narrow p q x passes wider ys) e

-- the first row at a dead site is the first of its message at its site
pub first_at_site : (c : Core) (x : Row) → find (λ (r : Row). is_dead_in c r.site) c.waiting ≡ Some x → row_for c x.id x.site ≡ Some x
first_at_site c x e =
    find_narrow (λ (r : Row). is_dead_in c r.site) (is_for x.id x.site) x
    (ap (λ b. b && site_eq x.site x.site) (id_eq-same x.id) ∙ site_eq-refl x.site)
    (λ y k. ap (is_dead_in c) (site_eq-true y.site x.site (and_true_parts (id_eq y.id x.id) (site_eq y.site x.site) k).1) ∙ find-passes (λ (r : Row). is_dead_in c r.site) c.waiting x e)
    c.waiting e

-- the row that is skipped is the ledger's
skip_at_row : (c : Core) (l : Ledger) (i : ℕ) (x : Row) → IsFoundAt (λ (r : Row). is_dead_in c r.site) c.waiting i x → skip_rule l ≡ Some (skip_entry x) → IsRule c (next_skip_in c) (skip_rule l)
skip_at_row c l i x f e =
    subst (λ o. IsRule c (option_and_then (skip_at c) o) (skip_rule l)) (sym f.place)
    (subst (λ o. IsRule c (option_map (skip_decision c) o) (skip_rule l)) (sym f.there)
    (skip_entry x, (x.positions, first_at_site c x f.found, refl), e))

pub skip_law : {w : World} {c : Core} {l : Ledger} → AgreesButScan w c l → IsRule c (next_skip_in c) (skip_rule l)
skip_law {c = c} {l = l} a =
    let p : Row → Bool = λ (r : Row). is_dead_in c r.site in
    let same : find (λ (r : Row). is_dead_site l r.site) l.waiting ≡ find p c.waiting =
    sym (find-same p (λ (r : Row). is_dead_site l r.site) (λ (r : Row). same_dead a r.site) c.waiting ∙ ap (find (λ (r : Row). is_dead_site l r.site)) a.waiting) in
    elim (position-find p c.waiting) [
      | inl h ↦ subst (λ o. IsRule c (option_and_then (skip_at c) o) (skip_rule l)) (sym h.0) (ap (option_map skip_entry) (same ∙ h.1))
      | inr h ↦ skip_at_row c l h.0 h.1 h.2 (ap (option_map skip_entry) (same ∙ h.2.found))
    ]

-- the eight ways in which an idle message stands
finish_table : (c : Core) (id : Id) (t : ℕ) (clean no_pending no_half wants bounced : Bool) → IsRule c
    (if not clean then None else (if not no_pending then Some (decisions.Defer id t) else (if not no_half then None else (if wants && not bounced then Some (decisions.Bounce id) else Some (decisions.Remove id)))))
    (first_of ((not no_pending && clean, entries.Defer id t) ∷ (no_pending && no_half && clean && wants && not bounced, entries.Bounce id) ∷ (no_pending && no_half && clean && (not wants || bounced), entries.Remove id) ∷ []))
finish_table c id t false false no_half wants bounced = refl
finish_table c id t false true false wants bounced = refl
finish_table c id t false true true wants bounced = refl
finish_table c id t true false no_half wants bounced = (entries.Defer id t, refl, refl)
finish_table c id t true true false wants bounced = refl
finish_table c id t true true true true false = (entries.Bounce id, refl, refl)
finish_table c id t true true true true true = (entries.Remove id, refl, refl)
finish_table c id t true true true false bounced = (entries.Remove id, refl, refl)

pub no_length : {A : Type 0} (xs : List A) → nat_lt 0 (length xs) ≡ not (has_none xs)
no_length [] = refl
no_length (x ∷ xs) = grind arith

abbrev defer_test : World → Ledger → ℕ → Option Message → Bool
defer_test w l t o = option_map_or (λ m. not (has_none (pending m)) && is_clean m && (t == due w l.now m)) o false

same_number : (n : ℕ) → (n == n) ≡ true
same_number n = grind arith

and_true : (b : Bool) → (b && true) ≡ b
and_true true = refl
and_true false = refl

defer_is : (w : World) (l : Ledger) (id : Id) (m : Message) → message_of l.book id ≡ Some m → is_idle l id ≡ true → may_defer w l id (due w l.now m) ≡ (not (has_none (pending m)) && is_clean m)
defer_is w l id m e idle =
    ap (λ o. is_idle l id && defer_test w l (due w l.now m) o) e ∙ ap (λ i. i && defer_test w l (due w l.now m) (Some m)) idle
    ∙ ap (λ b. not (has_none (pending m)) && is_clean m && b) (same_number (due w l.now m))
    ∙ and_true (not (has_none (pending m)) && is_clean m)

abbrev bounce_test : Ledger → Id → Option Message → Bool
bounce_test l id o = option_map_or (λ m. is_active m.place && is_at_rest l id && is_done m && wants_bounce m && not (has_bounce l id)) o false

abbrev remove_test : Ledger → Id → Option Message → Bool
remove_test l id o = option_map_or (λ m. is_active m.place && is_at_rest l id && is_done m && (not (wants_bounce m) || has_bounce l id)) o false

at_rest : (l : Ledger) (id : Id) → is_idle l id ≡ true → is_at_rest l id ≡ true
at_rest l id idle = ap (λ b. b || (is_leftover l id && was_synced l id)) idle

bounce_is : (l : Ledger) (id : Id) (m : Message) → message_of l.book id ≡ Some m → is_idle l id ≡ true → is_active m.place ≡ true →
    may_bounce l id ≡ (is_done m && wants_bounce m && not (has_bounce l id))
bounce_is l id m e idle active =
    ap (bounce_test l id) e
    ∙ ap (λ b. b && is_at_rest l id && is_done m && wants_bounce m && not (has_bounce l id)) active
    ∙ ap (λ b. true && b && is_done m && wants_bounce m && not (has_bounce l id)) (at_rest l id idle)

remove_is : (l : Ledger) (id : Id) (m : Message) → message_of l.book id ≡ Some m → is_idle l id ≡ true → is_active m.place ≡ true →
    may_remove l id ≡ (is_done m && (not (wants_bounce m) || has_bounce l id))
remove_is l id m e idle active =
    ap (remove_test l id) e
    ∙ ap (λ b. b && is_at_rest l id && is_done m && (not (wants_bounce m) || has_bounce l id)) active
    ∙ ap (λ b. true && b && is_done m && (not (wants_bounce m) || has_bounce l id)) (at_rest l id idle)

abbrev finish_choice : Id → ℕ → Bool → Bool → Bool → Option Entry
finish_choice id t defer bounce remove = first_of ((defer, entries.Defer id t) ∷ (bounce, entries.Bounce id) ∷ (remove, entries.Remove id) ∷ [])

abbrev finish_on : World → Ledger → Id → Option Message → Option Entry
finish_on w l id o = option_and_then (λ m. finish_choice id (due w l.now m) (may_defer w l id (due w l.now m)) (may_bounce l id) (may_remove l id)) o

finish_is : (w : World) (l : Ledger) (id : Id) (m : Message) → message_of l.book id ≡ Some m → is_idle l id ≡ true → is_active m.place ≡ true →
    finish w l id ≡ finish_choice id (due w l.now m) (not (has_none (pending m)) && is_clean m) (is_done m && wants_bounce m && not (has_bounce l id)) (is_done m && (not (wants_bounce m) || has_bounce l id))
finish_is w l id m e idle active =
    ap (finish_on w l id) e
    ∙ ap (λ b. finish_choice id (due w l.now m) b (may_bounce l id) (may_remove l id)) (defer_is w l id m e idle)
    ∙ ap (λ b. finish_choice id (due w l.now m) (not (has_none (pending m)) && is_clean m) b (may_remove l id)) (bounce_is l id m e idle active)
    ∙ ap (λ b. finish_choice id (due w l.now m) (not (has_none (pending m)) && is_clean m) (is_done m && wants_bounce m && not (has_bounce l id)) b) (remove_is l id m e idle active)

abbrev finish_kept : Id → ℕ → Bool → Bool → Bool → Bool → Bool → Option Decision
finish_kept id t marked some_pending some_half wants bounced = if marked then None else (if some_pending then Some (decisions.Defer id t) else (if some_half then None else (if wants && not bounced then Some (decisions.Bounce id) else Some (decisions.Remove id))))

same_due : {w : World} {c : Core} {l : Ledger} → AgreesButScan w c l → (m : Message) → due_in c m.arrival ≡ due w l.now m
same_due {c = c} {l = l} a m =
    ap (λ n. n + max c.params.minimal_backoff (min c.params.maximal_backoff (n - m.arrival))) a.clock
    ∙ ap (λ (s : Settings). l.now + max s.minimal_backoff (min s.maximal_backoff (l.now - m.arrival))) a.settings

pub kept_wants : (m : Message) (id : Id) → m.id ≡ id → (nat_lt 0 (length m.failures) && not (is_none m.sender) && not id.bounce) ≡ wants_bounce m
kept_wants m id e = ap (λ b. b && not (is_none m.sender) && not id.bounce) (no_length m.failures) ∙ ap (λ (i : Id). not (has_none m.failures) && not (is_none m.sender) && not i.bounce) (sym e)

kept_is : {w : World} {c : Core} {l : Ledger} → AgreesButScan w c l → (x : Admitted) (m : Message) → message_of l.book x.id ≡ Some m → m.id ≡ x.id →
    finish_in c (slot_of l x) ≡ finish_kept x.id (due w l.now m) (not (is_clean m)) (not (has_none (pending m))) (not (has_none (unmarked_logged m))) (wants_bounce m) (has_bounce l x.id)
kept_is {w = w} {c = c} {l = l} a x m e same =
    ap (λ o. finish_in c (slot_from x (has_bounce l x.id) o)) e
    ∙ ap (λ t. finish_kept x.id t (nat_lt 0 (length (written_marks m))) (nat_lt 0 (length (pending m))) (not (has_none (unmarked_logged m))) (not (has_none m.failures) && not (is_none m.sender) && not x.id.bounce) (has_bounce l x.id)) (same_due a m)
    ∙ ap (λ b. finish_kept x.id (due w l.now m) b (nat_lt 0 (length (pending m))) (not (has_none (unmarked_logged m))) (not (has_none m.failures) && not (is_none m.sender) && not x.id.bounce) (has_bounce l x.id)) (no_length (written_marks m))
    ∙ ap (λ b. finish_kept x.id (due w l.now m) (not (is_clean m)) b (not (has_none (unmarked_logged m))) (not (has_none m.failures) && not (is_none m.sender) && not x.id.bounce) (has_bounce l x.id)) (no_length (pending m))
    ∙ ap (λ b. finish_kept x.id (due w l.now m) (not (is_clean m)) (not (has_none (pending m))) (not (has_none (unmarked_logged m))) b (has_bounce l x.id)) (ap (λ (i : Id). not (has_none m.failures) && not (is_none m.sender) && not i.bounce) (sym same))

finish_same : {w : World} {c : Core} {l : Ledger} → AgreesButScan w c l → (x : Admitted) (m : Message) → message_of l.book x.id ≡ Some m → m.id ≡ x.id → is_idle l x.id ≡ true → is_active m.place ≡ true → IsRule c (finish_in c (slot_of l x)) (finish w l x.id)
finish_same {w = w} {c = c} {l = l} a x m e same idle active =
    subst (λ o. IsRule c o (finish w l x.id)) (sym (kept_is a x m e same))
    (subst (λ o. IsRule c (finish_kept x.id (due w l.now m) (not (is_clean m)) (not (has_none (pending m))) (not (has_none (unmarked_logged m))) (wants_bounce m) (has_bounce l x.id)) o) (sym (finish_is w l x.id m e idle active))
    (finish_table c x.id (due w l.now m) (is_clean m) (has_none (pending m)) (has_none (unmarked_logged m)) (wants_bounce m) (has_bounce l x.id)))

-- an admitted message stands in active
stands_there : (l : Ledger) (x : Admitted) (o : Option Message) → message_of l.book x.id ≡ o → option_map_or (λ m. is_active m.place) o false ≡ true → (m : Message) × (message_of l.book x.id ≡ Some m) × (m.id ≡ x.id) × (is_active m.place ≡ true)
stands_there l x None e h = cc
stands_there l x (Some m) e h = (m, e, id_eq-true m.id x.id (find-passes (λ m'. id_eq m'.id x.id) l.book.messages m e), h)

finish_found : {w : World} {c : Core} {l : Ledger} → AgreesButScan w c l → IsTrue (list_all (is_present l) l.admitted) → (o : Option Admitted) → find (λ x. is_idle l x.id) l.admitted ≡ o → IsRule c (option_and_then (finish_in c) (option_map (slot_of l) o)) (option_and_then (λ (x : Admitted). finish w l x.id) o)
finish_found a p None e = refl
finish_found {l = l} a p (Some x) e =
    let there = stands_there l x (message_of l.book x.id) refl (find-all (λ y. is_idle l y.id) (is_present l) l.admitted x p e) in
    finish_same a x there.0 there.1 there.2 (find-passes (λ y. is_idle l y.id) l.admitted x e) there.3

pub finishing_law : {w : World} {c : Core} {l : Ledger} → AgreesButScan w c l → IsTrue (list_all (is_present l) l.admitted) → IsRule c (next_finish_in c) (finishing_rule w l)
finishing_law {w = w} {c = c} {l = l} a p =
    subst (λ (o : Option Slot). IsRule c (option_and_then (finish_in c) o) (finishing_rule w l))
    (sym (found_slot a (λ s. is_idle_in c s.id) (λ x. is_idle l x.id) (λ x. same_idle a x.id)))
    (finish_found a p (find (λ x. is_idle l x.id) l.admitted) refl)

pub same_free : {w : World} {c : Core} {l : Ledger} → AgreesButScan w c l → free_in c ≡ free w l
same_free {w = w} {c = c} {l = l} a = ap (λ n. c.params.recipient_limit - n) a.memory ∙ ap (λ (s : Settings). s.recipient_limit - in_memory l) a.settings

abbrev reads_at : World → Ledger → Id → ℕ → Bool
reads_at w l id n = nat_lt 0 n && not (has_waiting l id) && nat_le (min w.settings.recipient_minimum n) (free w l)

same_read : {w : World} {c : Core} {l : Ledger} → AgreesButScan w c l → (x : Admitted) → may_read_in c (slot_of l x) ≡ may_read w l x
same_read {w = w} {c = c} {l = l} a x =
    let n = recipients_on (message_of l.book x.id) - x.unread in
    ap (λ b. nat_lt 0 n && not b && nat_le (min c.params.recipient_minimum n) (free_in c)) (same_waiting a x.id)
    ∙ ap (λ (s : Settings). nat_lt 0 n && not (has_waiting l x.id) && nat_le (min s.recipient_minimum n) (free_in c)) a.settings
    ∙ ap (λ f. nat_lt 0 n && not (has_waiting l x.id) && nat_le (min w.settings.recipient_minimum n) f) (same_free a)
    ∙ ap (reads_at w l x.id) (unread_same (message_of l.book x.id) x.unread)

abbrev load_on : World → Ledger → Admitted → Option Message → Option Entry
load_on w l x o = option_and_then (λ (m : Message). Some (entries.Load x.id x.unread (load_end m x.unread (free w l)))) o

read_found : {w : World} {c : Core} {l : Ledger} → AgreesButScan w c l → IsTrue (list_all (is_present l) l.admitted) → (o : Option Admitted) → find (may_read w l) l.admitted ≡ o →
    IsReadRule w l (option_map (λ s. decisions.Read s.id s.unread (free_in c)) (option_map (slot_of l) o)) (option_and_then (λ (x : Admitted). load_of w l x) o)
read_found a p None e = refl
read_found {w = w} {c = c} {l = l} a p (Some x) e =
    let there = stands_there l x (message_of l.book x.id) refl (find-all (may_read w l) (is_present l) l.admitted x p e) in
    (there.0, there.1, same_free a, ap (load_on w l x) there.1 ∙ ap (λ n. Some (entries.Load x.id x.unread (load_end there.0 x.unread n))) (sym (same_free a)))

pub load_law : {w : World} {c : Core} {l : Ledger} → AgreesButScan w c l → IsTrue (list_all (is_present l) l.admitted) → IsReadRule w l (next_read_in c) (load_rule w l)
load_law {w = w} {c = c} {l = l} a p =
    subst (λ (o : Option Slot). IsReadRule w l (option_map (λ s. decisions.Read s.id s.unread (free_in c)) o) (load_rule w l))
    (sym (found_slot a (may_read_in c) (may_read w l) (same_read a)))
    (read_found a p (find (may_read w l) l.admitted) refl)

need_of : (c : Core) (id : Id) (position : ℕ) (n : Need) → IsRule c (Some (needed_in id position n)) (Some (needed id position n))
need_of c id position (needs.Log why code) = (entries.Log id (record { position = position; why = why; code = code }), refl, refl)
need_of c id position needs.Mark = (entries.Mark id position, refl, refl)

need_found : (c : Core) (o : Option Unsettled) → IsRule c (option_map decision_of o) (option_map (λ (u : Unsettled). needed u.id u.position u.need) o)
need_found c None = refl
need_found c (Some u) = need_of c u.id u.position u.need

pub settling_law : {w : World} {c : Core} {l : Ledger} → AgreesButScan w c l → IsRule c (first_need_in c) (settling_rule l)
settling_law {c = c} {l = l} h = subst (λ (us : List Unsettled). IsRule c (option_map decision_of (slice_get us 0)) (settling_rule l)) (sym h.unsettled) (need_found c (slice_get l.unsettled 0))
