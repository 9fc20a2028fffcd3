-- Which jobs stay as messages in memory and rows that wait change.
use Rattle.std.proofs.Common.{◌≡◌, ℕ, Bool, true, false, cond, List, [], ◌∷◌, ◌++◌, map, not, Option, Some, None, inl, inr, refl, sym, ap, ◌∙◌, suc, zero, if◌then◌else◌}
use Rattle.std.proofs.lemmas.Bool.{or_cases, or_left, or_right}
use Rattle.std.proofs.lemmas.List.Folds.{find-append, list_any-append}
use Rattle.std.specs.List.{list_any, remove}
use Rattle.std.specs.Option.{option_map_or, option_or}
use Rattle.std.specs.Prelude.{◌&&◌, ◌||◌, ◌-◌, ◌==◌, slice_get}
use Rattle.q_core.specs.Changes.{slots_without}
use Rattle.q_pool.specs.Slots.{changed_at, with_slot_mark}
use Rattle.q_core.specs.Tidied.{slot_among, stays_among, unread_among, waits_for}
use Rattle.q_pool.specs.declared.slot.Slot.{Slot}
use Rattle.q_laws.proofs.Members.{find_none_from, in_filtered}
use Rattle.q_model.proofs.IdLaws.{id_eq-refl, id_eq-true}
use Rattle.q_model.specs.Ids.{id_eq}
use Rattle.q_model.specs.declared.id.Id.{Id}
use Rattle.q_model.specs.declared.rows.Row.{Row}

-- ---- messages in memory

abbrev left_of : Slot → ℕ
left_of s = s.recipients - s.unread

either_field : {A : Type 0} (g : Slot → A) (b : Bool) (x y : Slot) (v : A) → (b ≡ true → g x ≡ v) → (b ≡ false → g y ≡ v) → g (if b then x else y) ≡ v
either_field g true x y v h k = h refl
either_field g false x y v h k = k refl

left_step : (u s : Slot) (o r : Option Slot) (b : Bool) → (b ≡ true → left_of u ≡ left_of s) → option_map_or left_of o 0 ≡ option_map_or left_of r 0 →
    option_map_or left_of (cond b (Some u) o) 0 ≡ option_map_or left_of (cond b (Some s) r) 0
left_step u s o r true h rest = h refl
left_step u s o r false h rest = rest

unread_mapped : (f : Slot → Slot) → ((s : Slot) → (f s).id ≡ s.id) → (id : Id) → ((s : Slot) → id_eq s.id id ≡ true → left_of (f s) ≡ left_of s) →
    (slots : List Slot) → unread_among (map f slots) id ≡ unread_among slots id
unread_mapped f ids id h [] = refl
unread_mapped f ids id h (s ∷ ss) =
    ap (λ (i : Id). option_map_or left_of (cond (id_eq i id) (Some (f s)) (slot_among (map f ss) id)) 0) (ids s)
    ∙ left_step (f s) s (slot_among (map f ss) id) (slot_among ss id) (id_eq s.id id) (h s) (unread_mapped f ids id h ss)

-- a change of no count of recipients
pub unread_same : (k : Id) (f : Slot → Slot) → ((s : Slot) → (f s).id ≡ s.id) → ((s : Slot) → left_of (f s) ≡ left_of s) →
    (slots : List Slot) (id : Id) → unread_among (map (changed_at k f) slots) id ≡ unread_among slots id
unread_same k f ids same slots id = unread_mapped (changed_at k f)
    (λ s. either_field (λ (x : Slot). x.id) (id_eq s.id k) (f s) s s.id (λ e. ids s) (λ e. refl)) id
    (λ s e. either_field left_of (id_eq s.id k) (f s) s (left_of s) (λ e. same s) (λ e. refl)) slots

-- a change of one message, for the others
pub unread_other : (k : Id) (f : Slot → Slot) → ((s : Slot) → (f s).id ≡ s.id) →
    (slots : List Slot) (id : Id) → id_eq id k ≡ false → unread_among (map (changed_at k f) slots) id ≡ unread_among slots id
unread_other k f ids slots id other = unread_mapped (changed_at k f)
    (λ s. either_field (λ (x : Slot). x.id) (id_eq s.id k) (f s) s s.id (λ e. ids s) (λ e. refl)) id
    (λ s e. either_field left_of (id_eq s.id k) (f s) s (left_of s)
    (λ t. let bad : true ≡ false = sym t ∙ ap (λ i. id_eq i k) (id_eq-true s.id id e) ∙ other in absurd cc) (λ e. refl)) slots

pub mark_id : (s : Slot) → (with_slot_mark s).id ≡ s.id
mark_id s = either_field (λ (x : Slot). x.id) s.logged _ _ s.id (λ e. refl) (λ e. refl)

pub mark_left : (s : Slot) → left_of (with_slot_mark s) ≡ left_of s
mark_left s = either_field left_of s.logged _ _ (left_of s) (λ e. refl) (λ e. refl)

found_before : (o r : Option Slot) → not (option_map_or left_of o 0 == 0) ≡ true → option_map_or left_of (option_or o r) 0 ≡ option_map_or left_of o 0
found_before None r h = absurd cc
found_before (Some s) r h = refl

-- where something is unread, a message that comes later changes nothing
pub unread_entered : (slots : List Slot) (s : Slot) (id : Id) → not (unread_among slots id == 0) ≡ true → not (unread_among (slots ++ s ∷ []) id == 0) ≡ true
unread_entered slots s id h =
    let same : unread_among (slots ++ s ∷ []) id ≡ unread_among slots id =
    ap (λ o. option_map_or left_of o 0) (find-append (λ (x : Slot). id_eq x.id id) slots (s ∷ [])) ∙ found_before (slot_among slots id) (slot_among (s ∷ []) id) h in
    ap (λ n. not (n == 0)) same ∙ h

without_step : (s : Slot) (o r : Option Slot) (kept here : Bool) → (here ≡ true → kept ≡ true) → (xs : List Slot) (id : Id) → id_eq s.id id ≡ here → slot_among xs id ≡ r → o ≡ r →
    slot_among (cond kept (s ∷ xs) xs) id ≡ cond here (Some s) o
without_step s o r true here h xs id e there same = ap (λ b. cond b (Some s) (slot_among xs id)) e ∙ ap (cond here (Some s)) (there ∙ sym same)
without_step s o r false true h xs id e there same = let bad : false ≡ true = h refl in absurd cc
without_step s o r false false h xs id e there same = there ∙ sym same

slot_without : (k id : Id) → id_eq id k ≡ false → (slots : List Slot) → slot_among (slots_without k slots) id ≡ slot_among slots id
slot_without k id other [] = refl
slot_without k id other (s ∷ ss) = without_step s (slot_among ss id) (slot_among ss id) (not (id_eq s.id k)) (id_eq s.id id)
    (λ e. ap (λ i. not (id_eq i k)) (id_eq-true s.id id e) ∙ ap not other) (slots_without k ss) id refl (slot_without k id other ss) refl

-- one message goes, for the others
pub unread_left : (k : Id) (slots : List Slot) (id : Id) → id_eq id k ≡ false → unread_among (slots_without k slots) id ≡ unread_among slots id
unread_left k slots id other = ap (λ o. option_map_or left_of o 0) (slot_without k id other slots)

not_both : (b : Bool) → not b ≡ true → b ≡ false
not_both true h = absurd cc
not_both false h = refl

-- nothing of it is unread once it is gone
pub unread_gone : (k : Id) (slots : List Slot) → unread_among (slots_without k slots) k ≡ 0
unread_gone k slots = ap (λ o. option_map_or left_of o 0) (find_none_from (λ (s : Slot). id_eq s.id k) (slots_without k slots)
    (λ s inside. not_both (id_eq s.id k) (in_filtered (λ (x : Slot). not (id_eq x.id k)) s slots inside).1))

-- ---- rows that wait

pub stays_by : (a b : List Slot) (w v : List Row) (n : ℕ) (id : Id) → (not (unread_among a id == 0) ≡ true → not (unread_among b id == 0) ≡ true) →
    (waits_for w id n ≡ true → waits_for v id n ≡ true) → stays_among a w n id ≡ true → stays_among b v n id ≡ true
stays_by a b w v n id read wait h = elim (or_cases (not (unread_among a id == 0)) (waits_for w id n) h) [
  | inl e ↦ or_left (not (unread_among b id == 0)) (waits_for v id n) (read e)
  | inr e ↦ or_right (not (unread_among b id == 0)) (waits_for v id n) (wait e)
]

pub any_appended : {X : Type 0} (p : X → Bool) (xs ys : List X) → list_any p xs ≡ true → list_any p (xs ++ ys) ≡ true
any_appended p xs ys h = list_any-append p xs ys ∙ or_left (list_any p xs) (list_any p ys) h

removed_step : (a b c d : Bool) → (b || c) ≡ true → (c ≡ true → (a || d) ≡ true) → (a || (b || d)) ≡ true
removed_step true b c d h k = refl
removed_step false true c d h k = refl
removed_step false false c d h k = k h

-- but for the item that goes
pub any_removed : {X : Type 0} (p : X → Bool) (xs : List X) (i : ℕ) (x : X) → slice_get xs i ≡ Some x → list_any p xs ≡ true → (p x || list_any p (remove xs i)) ≡ true
any_removed p [] i x at h = absurd cc
any_removed p (y ∷ ys) zero x at h = let same : y ≡ x = cc in ap (λ z. p z || list_any p ys) (sym same) ∙ h
any_removed p (y ∷ ys) (suc i) x at h = removed_step (p x) (p y) (list_any p ys) (list_any p (remove ys i)) h (any_removed p ys i x at)

id_other : (a b : Id) → id_eq a b ≡ false → (t : Bool) → id_eq b a ≡ t → t ≡ false
id_other a b h false e = refl
id_other a b h true e = let bad : false ≡ true = sym h ∙ ap (λ i. id_eq i b) (sym (id_eq-true b a e)) ∙ id_eq-refl b in absurd cc

row_gone : (a b c : Bool) → a ≡ false → ((a && b) || c) ≡ true → c ≡ true
row_gone true b c e h = absurd cc
row_gone false b c e h = h

-- a row goes, for the other messages
pub waits_left : (w : List Row) (i : ℕ) (row : Row) (n : ℕ) (id : Id) → slice_get w i ≡ Some row → id_eq id row.id ≡ false → waits_for w id n ≡ true → waits_for (remove w i) id n ≡ true
waits_left w i row n id at other h = row_gone (id_eq row.id id) (row.site.transport == n) (waits_for (remove w i) id n) (id_other id row.id other (id_eq row.id id) refl)
    (any_removed (λ (r : Row). id_eq r.id id && (r.site.transport == n)) w i row at h)
