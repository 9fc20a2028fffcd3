-- A message arrives.
use Rattle.std.proofs.Common.{◌≡◌, ℕ, true, false, List, map, not, Option, refl, sym, ap, ◌∙◌, subst}
use Rattle.std.proofs.lemmas.Bool.{and_parts}
use Rattle.q_model.specs.Values.{Receiver}
use Rattle.q_core.proofs.DueLaws.{is_deferred}
use Rattle.q_core.proofs.AddedLaws.{added_left, added_same, added_still}
use Rattle.q_core.proofs.ChangeLaws.{seen_same}
use Rattle.q_core.proofs.SyncedLaws.{all_left}
use Rattle.q_core.proofs.QueueLaws.{IsSameOf, active_same, files_law, slots_same, with_files}
use Rattle.q_core.proofs.RestLaws.{admitted_active}
use Rattle.q_core.proofs.SameLaws.{not_bool}
use Rattle.q_core.proofs.StepLaws.{HoldsRaw}
use Rattle.q_core.specs.Agrees.{IsSeen, found_active, slot_of}
use Rattle.q_core.specs.declared.state.Core.{Core}
use Rattle.q_core.specs.declared.state.Seen.TheVariants.{Unknown}
use Rattle.q_laws.proofs.Arrived.{new_addable, new_message}
use Rattle.q_laws.proofs.Books.{placed_listed}
use Rattle.q_laws.proofs.Members.{IsIn, in_filtered}
use Rattle.q_laws.specs.Consistency.{IsConsistent}
use Rattle.q_model.proofs.IdLaws.{id_eq-true}
use Rattle.q_model.specs.Arrivals.{after_arrive, may_arrive, next_id}
use Rattle.q_model.specs.Book.{all_ids, ids_at}
use Rattle.q_model.specs.BookChanges.{add_message}
use Rattle.q_model.specs.Ids.{bounce_of, id_eq}
use Rattle.q_model.specs.Ledger.{Ledger}
use Rattle.q_model.specs.Memory.{is_admitted}
use Rattle.q_model.specs.Places.{is_active}
use Rattle.q_model.specs.Settings.{World}
use Rattle.q_model.specs.declared.id.Id.{Id}

-- it is no bounce
no_bounce : (l : Ledger) (i : Id) → id_eq (next_id l) (bounce_of i) ≡ false
no_bounce l i = not_bool (id_eq (next_id l) (bounce_of i)) (λ e. let bad : false ≡ true = ap (λ (x : Id). x.bounce) (id_eq-true (next_id l) (bounce_of i) e) in absurd cc)

arrive_next : {w : World} {c : Core} {l : Ledger} (sender : Option (List ℕ)) (to : List Receiver) (content : List ℕ) → HoldsRaw w c l → IsConsistent w l → HoldsRaw w (record c { incoming = Unknown }) (after_arrive l (next_id l) sender to content)
arrive_next {w = w} {c = c} {l = l} sender to content r k =
    let h = r.parts in
    let x = new_message l sender to content in
    let b = add_message l.book x in
    let next : Ledger = with_files l b l.admitted in
    let same : (i : Id) → IsIn i (all_ids l.book) → IsSameOf l.book b i = λ i inside. added_same l.book x (new_addable l sender to content k.book) i inside (no_bounce l i) in
    let slots : c.admitted ≡ map (slot_of next) l.admitted = h.admitted ∙ slots_same l b l.admitted l.admitted (λ a inside. same a.id (placed_listed is_active l.book a.id (admitted_active k a inside))) in
    let active : IsSeen c.active (found_active next) = seen_same c.active (found_active next) (found_active l) (active_same l b l.admitted (added_left l x refl) (λ i inside.
    same i (placed_listed is_active l.book i (in_filtered (λ j. not (is_admitted l j)) i (ids_at is_active l.book) inside).0))) h.active in
    files_law b l.admitted r refl (all_left l next (added_left l x refl)) slots active tt (added_still c.deferred l x refl (λ i inside. same i (placed_listed is_deferred l.book i inside)) r.seen)

pub arrive_law : {w : World} {c : Core} {l : Ledger} (id : Id) (sender : Option (List ℕ)) (to : List Receiver) (content : List ℕ) → HoldsRaw w c l → IsConsistent w l → may_arrive l id ≡ true → HoldsRaw w (record c { incoming = Unknown }) (after_arrive l id sender to content)
arrive_law {w = w} {c = c} {l = l} id sender to content r k may =
    let same : id ≡ next_id l = id_eq-true id (next_id l) (and_parts l.timed (id_eq id (next_id l)) may).1 in
    subst (λ i. HoldsRaw w (record c { incoming = Unknown }) (after_arrive l i sender to content)) (sym same) (arrive_next sender to content r k)
