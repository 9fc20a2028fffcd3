-- The marks of an admitted message are synced.
use Rattle.std.proofs.Common.{◌≡◌, Bool, true, false, List, [], ◌∷◌, length, refl, sym, ap, ◌∙◌, subst, cond, Some}
use Rattle.std.proofs.lemmas.List.{length-map}
use Rattle.std.specs.List.{list_all}
use Rattle.std.specs.Prelude.{filter, not, ◌&&◌, if◌then◌else◌}
use Rattle.q_core.proofs.BookLaws.{KeepsPlace, pending-sync, unmarked_logged-sync, written_marks-sync}
use Rattle.q_core.proofs.ChangeLaws.{changed_ledger}
use Rattle.q_core.proofs.HeldLaws.{is_there, slot_law}
use Rattle.q_core.proofs.LeftLaws.{in_all}
use Rattle.q_core.proofs.StepLaws.{HoldsRaw}
use Rattle.q_core.specs.Agrees.{slot_from}
use Rattle.q_core.specs.Changes.{IsSlotChange}
use Rattle.q_pool.specs.Slots.{cleared}
use Rattle.q_core.specs.declared.state.Core.{Core}
use Rattle.q_laws.specs.Consistency.{IsConsistent}
use Rattle.q_model.specs.Book.{ids_at}
use Rattle.q_model.specs.Ledger.{Ledger}
use Rattle.q_model.specs.Leftovers.{is_leftover, leftovers}
use Rattle.q_model.specs.Lists.{has_none}
use Rattle.q_model.specs.Memory.{is_admitted}
use Rattle.q_model.specs.Message.{Message, pending, unmarked_logged}
use Rattle.q_model.specs.Places.{is_active}
use Rattle.q_model.specs.Settings.{World}
use Rattle.q_model.specs.Syncs.{after_sync, sync_all}
use Rattle.q_model.specs.declared.id.Id.{Id}
use Rattle.q_model.specs.declared.rows.Admitted.{Admitted}

pub keeps_sync : KeepsPlace sync_all
keeps_sync = record { name = λ m. refl; place = λ m. refl }

filtered_step : (q : Id → Bool) (x : Id) (b : Bool) (xs : List Id) → q x ≡ b → list_all q xs ≡ true → list_all q (cond b (x ∷ xs) xs) ≡ true
filtered_step q x true xs e h = ap (λ z. z && list_all q xs) e ∙ h
filtered_step q x false xs e h = h

all_filtered : (q : Id → Bool) (xs : List Id) → list_all q (filter q xs) ≡ true
all_filtered q [] = refl
all_filtered q (x ∷ xs) = filtered_step q x (q x) (filter q xs) refl (all_filtered q xs)

-- a message in memory isn't one that an earlier life left
pub not_left : (l : Ledger) (id : Id) → is_admitted l id ≡ true → (b : Bool) → is_leftover l id ≡ b → b ≡ false
not_left l id adm false e = refl
not_left l id adm true e = let bad : false ≡ true = sym (ap not adm) ∙ in_all (λ k. not (is_admitted l k)) id (leftovers l) (all_filtered (λ k. not (is_admitted l k)) (ids_at is_active l.book)) e in cc

-- its slot has no marks to sync
pub slot_synced : (m : Message) (a : Admitted) (bounced : Bool) → slot_from a bounced (Some (sync_all m)) ≡ cleared (slot_from a bounced (Some m))
slot_synced m a bounced =
    let s = slot_from a bounced (Some m) in
    ap (λ n. record (slot_from a bounced (Some (sync_all m))) { recipients = n }) (length-map m.recipients _)
    ∙ ap (λ xs. record s { marks = length xs; pending = length (pending (sync_all m)); logged = not (has_none (unmarked_logged (sync_all m))) }) (written_marks-sync m)
    ∙ ap (λ xs. record s { marks = 0; pending = length xs; logged = not (has_none (unmarked_logged (sync_all m))) }) (pending-sync m)
    ∙ ap (λ xs. record s { marks = 0; logged = not (has_none xs) }) (unmarked_logged-sync m)

synced_is : (l : Ledger) (id : Id) → is_admitted l id ≡ true → after_sync l id ≡ changed_ledger l id sync_all
synced_is l id adm = ap (λ b. record (changed_ledger l id sync_all) { synced = if b then id ∷ l.synced else l.synced }) (not_left l id adm (is_leftover l id) refl)

pub marks_law : {w : World} {c d : Core} {l : Ledger} (id : Id) → HoldsRaw w c l → IsConsistent w l → is_admitted l id ≡ true → IsSlotChange c d id cleared → HoldsRaw w d (after_sync l id)
marks_law {w = w} {c = c} {d = d} {l = l} id r k adm s =
    let t = is_there k id adm in
    subst (λ x. HoldsRaw w d x) (sym (synced_is l id adm))
    (slot_law id sync_all t.message cleared r (record { keeps = keeps_sync; there = t.there; active = t.active; distinct = k.book.distinct }) adm (slot_synced t.message) s)
