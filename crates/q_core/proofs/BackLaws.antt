-- A message that an earlier life left goes back to incoming.
use Rattle.std.proofs.Common.{◌≡◌, Bool, true, false, map, not, Option, Some, None, refl, sym, ap, ◌∙◌, subst}
use Rattle.std.proofs.lemmas.Bool.{and_parts, not-true}
use Rattle.std.specs.Option.{option_map_or}
use Rattle.std.specs.Prelude.{◌&&◌}
use Rattle.q_core.proofs.DueLaws.{active_has_none, deferred_or_active, due_joined, due_listed, due_mapped, due_name, one_queue, is_deferred}
use Rattle.q_core.proofs.HeldLaws.{IsThere}
use Rattle.q_core.proofs.SyncedLaws.{fewer_left, moved_fewer}
use Rattle.q_core.proofs.QueueLaws.{IsSameOf, files_law, slots_same, still_same, with_files}
use Rattle.q_core.proofs.RestLaws.{admitted_active}
use Rattle.q_core.proofs.SameLaws.{moved_same, no_bounce_of, not_bool}
use Rattle.q_core.proofs.StepLaws.{HoldsRaw}
use Rattle.q_core.specs.Agrees.{slot_of}
use Rattle.q_core.specs.declared.state.Core.{Core}
use Rattle.q_core.specs.declared.state.Seen.TheVariants.{Unknown}
use Rattle.q_laws.proofs.Books.{active_not_incoming, at_place, left_active, left_parts, message_in, only_message, placed_listed}
use Rattle.q_laws.proofs.InPlace.{changed, changed_other, changed_same}
use Rattle.q_laws.proofs.Members.{IsIn, none_at}
use Rattle.q_laws.proofs.Moved.{move_to}
use Rattle.q_laws.specs.Consistency.{IsConsistent}
use Rattle.q_model.proofs.IdLaws.{id_eq-true}
use Rattle.q_model.specs.Book.{Book, all_ids, ids_at, message_of}
use Rattle.q_model.specs.BookChanges.{move_message}
use Rattle.q_model.specs.Finishing.{is_clean}
use Rattle.q_model.specs.Ids.{are_distinct, id_eq}
use Rattle.q_model.specs.Leaving.{after_back, may_back}
use Rattle.q_model.specs.Ledger.{Ledger}
use Rattle.q_model.specs.Leftovers.{is_leftover, was_synced}
use Rattle.q_model.specs.Lists.{has_none}
use Rattle.q_model.specs.Memory.{is_admitted}
use Rattle.q_model.specs.Message.{Message, pending, unmarked_logged}
use Rattle.q_model.specs.Places.{is_active, is_incoming}
use Rattle.q_model.specs.Scans.{deferred_names}
use Rattle.q_model.specs.Settings.{World}
use Rattle.q_model.specs.declared.id.Id.{Id}
use Rattle.q_model.specs.declared.rows.Admitted.{Admitted}
use Rattle.q_model.specs.declared.rows.DeferredName.{DeferredName}
use Rattle.q_model.specs.declared.rows.Place.{Place}
use Rattle.q_model.specs.declared.rows.Place.TheVariants as places

-- a message in active comes to a place that isn't in deferred: it has no name there as before
name_one : (b : Book) (id : Id) (place : Place) (m : Message) → are_distinct (all_ids b) ≡ true → message_of b id ≡ Some m → due_name m ≡ None → due_name (move_to place m) ≡ None → (x : Message) → IsIn x b.messages → (t : Bool) → id_eq x.id id ≡ t →
    due_name (changed id (move_to place) x) ≡ due_name x
name_one b id place m distinct there none out x inside false e = ap due_name (changed_other id (move_to place) x e)
name_one b id place m distinct there none out x inside true e =
    let mine = message_in b id m there in
    let same : x ≡ m = only_message b distinct x m inside mine.0 (id_eq-true x.id id e ∙ sym mine.1) in
    ap due_name (changed_same id (move_to place) x e) ∙ ap (λ y. due_name (move_to place y)) same ∙ out ∙ sym (ap due_name same ∙ none)

pub moved_names : (b : Book) (id : Id) (place : Place) (m : Message) → are_distinct (all_ids b) ≡ true → message_of b id ≡ Some m → due_name m ≡ None → due_name (move_to place m) ≡ None → deferred_names (move_message b id place) ≡ deferred_names b
moved_names b id place m distinct there none out =
    due_joined b (move_message b id place) refl (due_mapped (changed id (move_to place)) b.messages (λ x h. name_one b id place m distinct there none out x h (id_eq x.id id) refl))

back_there : {w : World} {l : Ledger} → IsConsistent w l → (id : Id) → may_back l id ≡ true → IsThere l id × (is_admitted l id ≡ false)
back_there {l = l} k id h =
    let two = and_parts (is_leftover l id && was_synced l id) (option_map_or (λ m. has_none (unmarked_logged m) && is_clean m && not (has_none (pending m))) (message_of l.book id) false) h in
    let left = (and_parts (is_leftover l id) (was_synced l id) two.0).0 in
    (on left (message_of l.book id) refl two.1, not-true (is_admitted l id) (left_parts l id left).1)
  where
    on : is_leftover l id ≡ true → (o : Option Message) → message_of l.book id ≡ o → option_map_or (λ m. has_none (unmarked_logged m) && is_clean m && not (has_none (pending m))) o false ≡ true → IsThere l id
    on left None e may = absurd cc
    on left (Some m) e may = record { message = m; there = e; active = left_active l k.book.distinct id m left e }

pub back_law : {w : World} {c : Core} {l : Ledger} (id : Id) → HoldsRaw w c l → IsConsistent w l → may_back l id ≡ true → HoldsRaw w (record c { active = Unknown; incoming = Unknown }) (after_back l id)
back_law {w = w} {c = c} {l = l} id r k may =
    let h = r.parts in
    let b = move_message l.book id places.Incoming in
    let both = back_there k id may in
    let t = both.0 in
    let out = not_bool (is_incoming t.message.place) (active_not_incoming t.message.place t.active) in
    let same : (i : Id) → IsIn i (all_ids l.book) → id_eq i id ≡ false → IsSameOf l.book b i = λ i inside other. moved_same l.book id places.Incoming i other (no_bounce_of l.book k.book.orderly k.book.distinct id t.message t.there out i inside other) in
    let slots : c.admitted ≡ map (slot_of (with_files l b l.admitted)) l.admitted = h.admitted ∙ slots_same l b l.admitted l.admitted (λ a inside.
    same a.id (placed_listed is_active l.book a.id (admitted_active k a inside)) (none_at (λ (x : Admitted). id_eq x.id id) a l.admitted both.1 inside)) in
    let names = moved_names l.book id places.Incoming t.message k.book.distinct t.there (active_has_none t.message t.message.place t.active) refl in
    files_law b l.admitted r refl (fewer_left l b (moved_fewer l.book id places.Incoming refl)) slots tt tt (still_same c.deferred l b l.admitted names (λ n inside. same n.id (placed_listed is_deferred l.book n.id (due_listed l.book n inside)) (not_bool (id_eq n.id id) (λ e. apart t n inside (id_eq-true n.id id e)))) r.seen)
  where
    apart : IsThere l id → (n : DeferredName) → IsIn n (deferred_names l.book) → n.id ≡ id → ⊥
    apart t n inside e =
        let mine = message_in l.book id t.message t.there in
        one_queue is_deferred is_active deferred_or_active l.book k.book.distinct n.id (due_listed l.book n inside)
        (subst (λ j. IsIn j (ids_at is_active l.book)) (mine.1 ∙ sym e) (at_place is_active l.book t.message mine.0 t.active))
