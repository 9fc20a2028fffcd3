-- A job has no account at first, and no more left than its message has recipients.
use Rattle.std.specs.List.{list_any}
use Rattle.std.proofs.Common.{◌≡◌, ℕ, ◌-◌, ◌≤◌, Bool, true, false, cond, not, List, [], ◌∷◌, ◌++◌, find, length, is_some, Option, Some, None, count_by, take_while, refl, sym, ap, ◌∙◌, subst, arith}
use Rattle.std.proofs.lemmas.Bool.{and_parts}
use Rattle.std.proofs.lemmas.List.Sums.{take_while-cons}
use Rattle.std.proofs.lemmas.Option.{same_Some}
use Rattle.std.specs.Option.{option_map_or}
use Rattle.std.specs.Prelude.{◌==◌, ◌&&◌}
use Rattle.q_inflation.proofs.JobsLeft.{after_same, count_none, is_of, unread_in, waiting_of}
use Rattle.q_laws.proofs.InPlace.{on_change}
use Rattle.q_laws.proofs.Leaving.{absent_rows}
use Rattle.q_laws.proofs.Members.{find_none_from, none_at}
use Rattle.q_laws.proofs.Moved.{move_to}
use Rattle.q_laws.proofs.Picked.{picked_out}
use Rattle.q_laws.proofs.Synced.{admitted_active}
use Rattle.q_laws.specs.Consistency.{IsConsistent}
use Rattle.q_model.proofs.IdLaws.{id_eq-refl}
use Rattle.q_model.specs.Accounts.{is_admit_of, is_start_of, job_left, starts_of}
use Rattle.q_model.specs.Admissions.{cause_gone, has_room, may_admit}
use Rattle.q_model.specs.Book.{Book, message_of}
use Rattle.q_model.specs.BookChanges.{move_message}
use Rattle.q_model.specs.Ids.{id_eq}
use Rattle.q_model.specs.Ledger.{Ledger}
use Rattle.q_model.specs.Memory.{is_admitted}
use Rattle.q_model.specs.Message.{Message}
use Rattle.q_model.specs.Places.{is_active}
use Rattle.q_model.specs.Settings.{World}
use Rattle.q_model.specs.Step.{after, change}
use Rattle.q_model.specs.Alternation.{Pick, from_deferred, from_incoming, is_pick, passed, pick, after_pick}
use Rattle.q_model.specs.declared.entry.Entry.{Entry}
use Rattle.q_model.specs.declared.id.Id.{Id}
use Rattle.q_model.specs.declared.rows.Admitted.{Admitted}
use Rattle.q_model.specs.declared.rows.Row.{Row}
use Rattle.q_model.specs.declared.entry.Entry.TheVariants as entries
use Rattle.q_model.specs.declared.rows.Place.TheVariants as places

abbrev new_admitted : Id → Admitted
new_admitted id = record { id = id; unread = 0 }

find_last : (id : Id) (xs : List Admitted) → find (λ (a : Admitted). id_eq a.id id) xs ≡ None → find (λ (a : Admitted). id_eq a.id id) (xs ++ new_admitted id ∷ []) ≡ Some (new_admitted id)
find_last id [] h = ap (λ b. cond b (Some (new_admitted id)) None) (id_eq-refl id)
find_last id (a ∷ xs) h = on (id_eq a.id id) (find_last id xs) h
  where
    on : (t : Bool) → (find (λ (x : Admitted). id_eq x.id id) xs ≡ None → find (λ (x : Admitted). id_eq x.id id) (xs ++ new_admitted id ∷ []) ≡ Some (new_admitted id)) → cond t (Some a) (find (λ (x : Admitted). id_eq x.id id) xs) ≡ None →
        cond t (Some a) (find (λ (x : Admitted). id_eq x.id id) (xs ++ new_admitted id ∷ [])) ≡ Some (new_admitted id)
    on true rest k = absurd cc
    on false rest k = rest k

entered_unread : (rows : List Admitted) (b : Book) (id : Id) (m : Message) → list_any (λ (a : Admitted). id_eq a.id id) rows ≡ false → message_of b id ≡ Some m →
    unread_in (rows ++ new_admitted id ∷ []) (move_message b id places.Active) id ≡ length m.recipients - 0
entered_unread rows b id m absent there =
    let none : find (λ (a : Admitted). id_eq a.id id) rows ≡ None = find_none_from (λ (a : Admitted). id_eq a.id id) rows (λ a inside. none_at (λ (y : Admitted). id_eq y.id id) a rows absent inside) in
    ap (λ (o : Option Admitted). option_map_or (λ (a : Admitted). option_map_or (λ (x : Message). length x.recipients - a.unread) (message_of (move_message b id places.Active) a.id) 0) o 0) (find_last id rows none)
    ∙ on_change 0 (λ (x : Message). length x.recipients - 0) id (move_to places.Active) (λ x. refl) (λ x. refl) b id
    ∙ ap (λ (o : Option Message). option_map_or (λ (x : Message). length x.recipients - 0) o 0) there

picked_waiting : (l : Ledger) (o : Option Pick) → (option_map_or (λ p. passed p l) o l).waiting ≡ l.waiting
picked_waiting l None = refl
picked_waiting l (Some (from_incoming i)) = refl
picked_waiting l (Some (from_deferred name)) = refl

not_admitted : (w : World) (l : Ledger) (id : Id) (m : Message) → IsConsistent w l → message_of l.book id ≡ Some m → is_active m.place ≡ false → (t : Bool) → is_admitted l id ≡ t → t ≡ false
not_admitted w l id m c there out false e = refl
not_admitted w l id m c there out true e =
    let one = admitted_active w l id c e in
    let bad : true ≡ false = sym (subst (λ (x : Message). is_active x.place ≡ true) (same_Some one.0 m (sym one.1.there ∙ there)) one.1.active) ∙ out in
    cc

-- of a message that comes into memory
pub record IsNew (w : World) (l : Ledger) (id : Id) (t : ℕ) (m : Message) : Type 0 where
  pub starts : starts_of (after w l (entries.Admit id)) id t ≡ 0
  pub left : job_left (after w l (entries.Admit id)) id t ≤ length m.recipients

new_starts : (w : World) (l : Ledger) (id : Id) (t : ℕ) → starts_of (after w l (entries.Admit id)) id t ≡ 0
new_starts w l id t =
    let e = entries.Admit id in
    let before = (change w l e).past in
    let none : take_while (λ x. not (is_admit_of id x)) (e ∷ before) ≡ [] = take_while-cons (λ x. not (is_admit_of id x)) e before ∙ ap (λ b. cond (not b) (e ∷ take_while (λ x. not (is_admit_of id x)) before) []) (id_eq-refl id) in
    ap (λ (es : List Entry). count_by (is_start_of id t) (take_while (λ x. not (is_admit_of id x)) es)) (after_same w l e id t).past ∙ ap (count_by (is_start_of id t)) none

pub entered : (w : World) (l : Ledger) (id : Id) (t : ℕ) (m : Message) → IsConsistent w l → may_admit w l id ≡ true → message_of l.book id ≡ Some m → IsNew w l id t m
entered w l id t m c may there =
    let three = and_parts (has_room w l && is_pick l id && is_some (message_of l.book id)) (cause_gone l.book id) may in
    let two = and_parts (has_room w l && is_pick l id) (is_some (message_of l.book id)) three.0 in
    let one = and_parts (has_room w l) (is_pick l id) two.0 in
    let out = picked_out l id m c.book.distinct one.1 there in
    let absent = not_admitted w l id m c there out (is_admitted l id) refl in
    let rows = absent_rows w l id c absent in
    let waits : waiting_of id t (after_pick l).waiting ≡ waiting_of id t l.waiting = ap (waiting_of id t) (picked_waiting l (pick l)) in
    let none : waiting_of id t l.waiting ≡ 0 = count_none (is_of id t) l.waiting (λ r inside. ap (λ b. b && (r.site.transport == t)) (none_at (λ (x : Row). id_eq x.id id) r l.waiting rows.waiting inside)) in
    let unread : unread_in (l.admitted ++ new_admitted id ∷ []) (move_message l.book id places.Active) id ≡ length m.recipients - 0 = entered_unread l.admitted l.book id m absent there in
    let same : job_left (after w l (entries.Admit id)) id t ≡ job_left (change w l (entries.Admit id)) id t = (after_same w l (entries.Admit id) id t).job_left in
    record { starts = new_starts w l id t; left = omega (arith, waits, none, unread, same) }
