-- The message that is next comes into memory.
use Rattle.std.proofs.Common.{◌≡◌, ◌<◌, arith, length, ltb-true, ℕ, Bool, true, false, List, [], ◌∷◌, ◌++◌, filter, map, is_some, Option, Some, None, refl, sym, ap, ◌∙◌, subst, IsTrue}
use Rattle.std.proofs.lemmas.Bool.{and_parts}
use Rattle.std.proofs.lemmas.List.{length-map}
use Rattle.std.specs.Option.{option_map_or}
use Rattle.std.specs.Prelude.{◌&&◌, nat_le, nat_lt, option_and_then}
use Rattle.q_core.proofs.AgreesLaws.{same_admitted}
use Rattle.q_core.proofs.AdmitLaws.{IsComing, admitting, coming_active, coming_left, coming_same, newcomer}
use Rattle.q_core.proofs.BackLaws.{moved_names}
use Rattle.q_core.proofs.ChangeLaws.{seen_same}
use Rattle.q_core.proofs.CorruptLaws.{picked_rows}
use Rattle.q_core.proofs.DeferLaws.{moved_out}
use Rattle.q_core.proofs.DueLaws.{deferred_or_incoming, due_listed, one_queue, is_deferred}
use Rattle.q_core.proofs.HeldLaws.{is_there}
use Rattle.q_core.proofs.NewcomerLaws.{coming_slots}
use Rattle.q_core.proofs.NoteAdmitLaws.{in_no_line, note_admit}
use Rattle.q_core.proofs.SyncedLaws.{all_left}
use Rattle.q_core.proofs.QueueLaws.{IsSameOf, files_law, incoming_same, still_same}
use Rattle.q_core.proofs.SameLaws.{not_bool}
use Rattle.q_core.proofs.StepLaws.{HasRowsOf, HoldsRaw}
use Rattle.q_core.proofs.CorruptNextLaws.{picked_one}
use Rattle.q_core.proofs.AlternationLaws.{alternation_law, pick_by, picked_found, picks}
use Rattle.q_core.specs.Agrees.{IsSeen, file_of, found_active, found_at, found_incoming, slot_of}
use Rattle.q_core.specs.Held.{is_admitted_in}
use Rattle.q_core.specs.declared.decision.FileFacts.{FileFacts}
use Rattle.q_core.specs.declared.decision.Found.TheVariants.{Damaged, Whole}
use Rattle.q_core.specs.Changes.{is_known, is_looked_at}
use Rattle.q_core.specs.Picking.{IsEntered, found_name, found_slot, from_deferred_in, passed_in, picked_in}
use Rattle.q_pool.specs.declared.slot.Slot.{Slot}
use Rattle.q_core.specs.declared.state.Core.{Core}
use Rattle.q_laws.proofs.Books.{message_at, placed_listed}
use Rattle.q_laws.proofs.Members.{IsIn, in_filtered, least_in}
use Rattle.q_laws.proofs.Picked.{picked_out}
use Rattle.q_laws.specs.Consistency.{IsConsistent}
use Rattle.q_model.proofs.IdLaws.{id_eq-true}
use Rattle.q_model.specs.Admissions.{after_admit, cause_gone, delivers, has_room, may_admit}
use Rattle.q_model.specs.Book.{Book, ids_at, message_of}
use Rattle.q_model.specs.BookChanges.{move_message}
use Rattle.q_model.specs.Ids.{id_before, id_eq}
use Rattle.q_model.specs.Ledger.{Ledger}
use Rattle.q_model.specs.Memory.{free, is_admitted}
use Rattle.q_model.specs.Message.{Message}
use Rattle.q_model.specs.Places.{is_active, is_incoming}
use Rattle.q_model.specs.Scans.{deferred_name, deferred_names, is_ahead, name_before, scan_next}
use Rattle.q_model.specs.Settings.{Settings, World}
use Rattle.q_model.specs.Step.{noted}
use Rattle.q_model.specs.Alternation.{Pick, deferred_next, incoming_next, is_pick, passed, pick, pick_id, pick_of}
use Rattle.q_model.specs.Alternation.Pick.{from_deferred, from_incoming}
use Rattle.q_model.specs.declared.entry.Entry.TheVariants as entries
use Rattle.q_model.specs.declared.id.Id.{Id}
use Rattle.q_model.specs.declared.rows.DeferredName.{DeferredName}
use Rattle.q_model.specs.declared.rows.Place.{Place}
use Rattle.q_model.specs.declared.rows.Place.TheVariants as places
use Rattle.q_model.specs.declared.rows.Scan.{Scan}

-- ---- where it comes from

given_incoming : (follows : Bool) (o : Option Id) (q : Option DeferredName) (i : Id) → pick_of follows o q ≡ Some (from_incoming i) → o ≡ Some i
given_incoming follows None None i h = absurd cc
given_incoming follows None (Some n) i h = absurd cc
given_incoming follows (Some k) None i h = cc
given_incoming true (Some k) (Some n) i h = absurd cc
given_incoming false (Some k) (Some n) i h = cc

given_deferred : (follows : Bool) (o : Option Id) (q : Option DeferredName) (n : DeferredName) → pick_of follows o q ≡ Some (from_deferred n) → q ≡ Some n
given_deferred follows None None n h = absurd cc
given_deferred follows None (Some x) n h = cc
given_deferred follows (Some k) None n h = absurd cc
given_deferred true (Some k) (Some x) n h = cc
given_deferred false (Some k) (Some x) n h = absurd cc

from_scan : (b : Book) (o : Option Scan) (n : DeferredName) → option_and_then (λ s. scan_next b s) o ≡ Some n → IsIn n (deferred_names b)
from_scan b None n h = absurd cc
from_scan b (Some s) n h = (in_filtered (is_ahead s) n (deferred_names b) (least_in name_before n (filter (is_ahead s) (deferred_names b)) h)).0

from_out : (l : Ledger) (id : Id) → pick l ≡ Some (from_incoming id) → IsIn id (ids_at is_incoming l.book)
from_out l id h = least_in id_before id (ids_at is_incoming l.book) (given_incoming l.deferred_follows (incoming_next l) (deferred_next l) id h)

from_due : (l : Ledger) (n : DeferredName) → pick l ≡ Some (from_deferred n) → IsIn n.id (ids_at is_deferred l.book)
from_due l n h = due_listed l.book n (from_scan l.book l.scan n (given_deferred l.deferred_follows (incoming_next l) (deferred_next l) n h))

incoming_has_none : (place : Place) (id : Id) → is_incoming place ≡ true → deferred_name place id ≡ None
incoming_has_none places.Incoming id h = refl
incoming_has_none places.Active id h = refl
incoming_has_none (places.Deferred due) id h = absurd cc
incoming_has_none places.Hold id h = refl
incoming_has_none places.Corrupt id h = refl

-- ---- the message that comes

coming : {w : World} {l : Ledger} → IsConsistent w l → (id : Id) → may_admit w l id ≡ true → IsComing l id
coming {w = w} {l = l} k id may =
    let three = and_parts (has_room w l && is_pick l id && is_some (message_of l.book id)) (cause_gone l.book id) may in
    let two = and_parts (has_room w l && is_pick l id) (is_some (message_of l.book id)) three.0 in
    on (and_parts (has_room w l) (is_pick l id) two.0).1 three.1 (message_of l.book id) refl two.1
  where
    out_of : (m : Message) → message_of l.book id ≡ Some m → is_active m.place ≡ false → is_admitted l id ≡ true → ⊥
    out_of m e out adm =
        let t = is_there k id adm in
        let same : Some t.message ≡ Some m = sym t.there ∙ e in
        let one : t.message ≡ m = cc in
        let bad : true ≡ false = sym t.active ∙ ap (λ (x : Message). is_active x.place) one ∙ out in
        absurd cc

    on : is_pick l id ≡ true → cause_gone l.book id ≡ true → (o : Option Message) → message_of l.book id ≡ o → is_some o ≡ true → IsComing l id
    on pick alone None e h = absurd cc
    on pick alone (Some m) e h =
        let out = picked_out l id m k.book.distinct pick e in
        record { message = m; there = e; out = out; absent = not_bool (is_admitted l id) (out_of m e out); alone = alone }

-- it comes from incoming or from deferred
enter_case : {w : World} {c : Core} {l : Ledger} (d : Core) (id : Id) (b : Bool) (name : DeferredName) → HoldsRaw w c l → IsConsistent w l → IsComing l id → pick l ≡ Some (pick_by b name) → pick_id (pick_by b name) ≡ id →
    d.admitted ≡ map (slot_of (admitting l id)) (l.admitted ++ newcomer id ∷ []) →
    HoldsRaw w (passed_in b name (record c { admitted = d.admitted })) (noted (entries.Admit id) (record (passed (pick_by b name) l) { book = move_message l.book id places.Active; admitted = l.admitted ++ newcomer id ∷ [] }))
enter_case {w = w} {c = c} {l = l} d id false name r k m from same slots =
    let book = move_message l.book id places.Active in
    let rows = l.admitted ++ newcomer id ∷ [] in
    let turned : HoldsRaw w (passed_in false name c) (record l { deferred_follows = true }) = alternation_law false name r in
    let inside = subst (λ i. IsIn i (ids_at is_incoming l.book)) same (from_out l name.id from) in
    let place = message_at is_incoming l.book k.book.distinct id m.message inside m.there in
    let active : IsSeen c.active (found_active (admitting l id)) = seen_same c.active (found_active (admitting l id)) (found_active l) (coming_active l id m k.book.distinct) r.parts.active in
    let names = moved_names l.book id places.Active m.message k.book.distinct m.there (incoming_has_none m.message.place m.message.id place) refl in
    let other : (n : DeferredName) → IsIn n (deferred_names l.book) → IsSameOf l.book book n.id = λ n h.
    let due = due_listed l.book n h in
    coming_same l id m n.id (placed_listed is_deferred l.book n.id due) (not_bool (id_eq n.id id) (λ e. one_queue is_deferred is_incoming deferred_or_incoming l.book k.book.distinct n.id due (subst (λ i. IsIn i (ids_at is_incoming l.book)) (sym (id_eq-true n.id id e)) inside))) in
    note_admit id (in_no_line k id m.absent)
    (files_law {d = passed_in false name (record c { admitted = d.admitted })} book rows turned refl (all_left l (admitting l id) (coming_left l id m k.book.distinct)) slots active tt (still_same c.deferred (record l { deferred_follows = true }) book rows names other turned.seen))
enter_case {w = w} {c = c} {l = l} d id true name r k m from same slots =
    let book = move_message l.book id places.Active in
    let rows = l.admitted ++ newcomer id ∷ [] in
    let turned = alternation_law true name r in
    let inside = subst (λ i. IsIn i (ids_at is_deferred l.book)) same (from_due l name from) in
    let place = message_at is_deferred l.book k.book.distinct id m.message inside m.there in
    let away = not_bool (is_incoming m.message.place) (deferred_or_incoming m.message.place place) in
    let active : IsSeen c.active (found_active (admitting l id)) = seen_same c.active (found_active (admitting l id)) (found_active l) (coming_active l id m k.book.distinct) r.parts.active in
    let other : (i : Id) → IsIn i (ids_at is_incoming l.book) → IsSameOf l.book book i = λ i h.
    coming_same l id m i (placed_listed is_incoming l.book i h) (not_bool (id_eq i id) (λ e. one_queue is_deferred is_incoming deferred_or_incoming l.book k.book.distinct id inside (subst (λ j. IsIn j (ids_at is_incoming l.book)) (id_eq-true i id e) h))) in
    let incoming : IsSeen c.incoming (found_incoming (admitting l id)) = seen_same c.incoming (found_incoming (admitting l id)) (found_incoming l) (incoming_same l book rows (moved_out l.book id places.Active m.message k.book.distinct m.there away refl) other) r.parts.incoming in
    note_admit id (in_no_line k id m.absent)
    (files_law {d = passed_in true name (record c { admitted = d.admitted })} book rows turned refl (all_left l (admitting l id) (coming_left l id m k.book.distinct)) slots active incoming tt)

pub admit_law : {w : World} {c d : Core} {l : Ledger} (id : Id) → HoldsRaw w c l → IsConsistent w l → IsTrue (is_looked_at c) → is_known c.incoming ≡ true → may_admit w l id ≡ true → IsEntered c d (picked_in c) →
    HoldsRaw w (passed_in (from_deferred_in c) (found_name (picked_in c)) d) (noted (entries.Admit id) (after_admit l id))
admit_law {w = w} {c = c} {d = d} {l = l} id r k looked known may e =
    let three = and_parts (has_room w l && is_pick l id && is_some (message_of l.book id)) (cause_gone l.book id) may in
    let two = and_parts (has_room w l && is_pick l id) (is_some (message_of l.book id)) three.0 in
    let one = picked_one l id (pick l) refl (and_parts (has_room w l) (is_pick l id) two.0).1 in
    let m = coming k id may in
    let from = from_deferred_in c in
    let name = found_name (picked_in c) in
    let found = picked_found r looked known one.0 one.1 in
    let is : pick_by from name ≡ one.0 = picks r looked known one.0 one.1 in
    let slots : d.admitted ≡ map (slot_of (admitting l id)) (l.admitted ++ newcomer id ∷ []) =
    e.admitted
    ∙ ap (λ (ss : List Slot). ss ++ found_slot (picked_in c) ∷ []) r.parts.admitted
    ∙ ap (λ f. map (slot_of l) l.admitted ++ found_slot f ∷ []) (found.1 ∙ ap (found_at l found.0) one.2)
    ∙ coming_slots k id found.0 m in
    let raw = enter_case {c = c} d id from name r k m (one.1 ∙ ap (λ p. Some p) (sym is)) (ap pick_id is ∙ one.2) slots in
    subst (λ x. HoldsRaw w (passed_in from name x) (noted (entries.Admit id) (after_admit l id))) (sym e.rest)
    (subst (λ (o : Option Pick). HoldsRaw w (passed_in from name (record c { admitted = d.admitted })) (noted (entries.Admit id) (record (option_map_or (λ p. passed p l) o l) { book = move_message l.book id places.Active; admitted = l.admitted ++ newcomer id ∷ [] })))
    (ap (λ p. Some p) is ∙ sym one.1) raw)

-- no row moves
pub admit_rows : (l : Ledger) (id : Id) → HasRowsOf l (after_admit l id)
admit_rows l id = let rows = picked_rows l in record { waiting = rows.waiting; flights = rows.flights }

named_at : (o : Option Message) (id : Id) (due : ℕ) (f : Message → FileFacts) (alone : Bool) → (found_slot (option_map_or (λ m. Whole id due (f m)) o (Damaged id due alone))).id ≡ id
named_at None id due f alone = refl
named_at (Some m) id due f alone = refl

-- the message that comes isn't in memory yet, and has room there
pub admit_fits : {w : World} {c : Core} {l : Ledger} (id : Id) → HoldsRaw w c l → IsConsistent w l → IsTrue (is_looked_at c) → is_known c.incoming ≡ true → may_admit w l id ≡ true →
    (is_admitted_in c (found_slot (picked_in c)).id ≡ false) × (length c.admitted < c.params.active_limit)
admit_fits {w = w} {c = c} {l = l} id r k looked known may =
    let three = and_parts (has_room w l && is_pick l id && is_some (message_of l.book id)) (cause_gone l.book id) may in
    let two = and_parts (has_room w l && is_pick l id) (is_some (message_of l.book id)) three.0 in
    let roomy = (and_parts (has_room w l) (is_pick l id) two.0).0 in
    let one = picked_one l id (pick l) refl (and_parts (has_room w l) (is_pick l id) two.0).1 in
    let m = coming k id may in
    let found = picked_found r looked known one.0 one.1 in
    let named : (found_slot (picked_in c)).id ≡ id = ap (λ f. (found_slot f).id) (found.1 ∙ ap (found_at l found.0) one.2) ∙ named_at (message_of l.book id) id found.0 (file_of l id) (cause_gone l.book id) in
    let count = ap length r.parts.admitted ∙ length-map l.admitted (slot_of l) in
    let limit = ap (λ (p : Settings). p.active_limit) r.parts.settings in
    let less = ltb-true (length l.admitted) w.settings.active_limit (and_parts (delivers l.mode) (nat_lt (length l.admitted) w.settings.active_limit) (and_parts (delivers l.mode && nat_lt (length l.admitted) w.settings.active_limit) (nat_le w.settings.recipient_minimum (free w l)) roomy).0).1 in (
      ap (is_admitted_in c) named ∙ same_admitted r.parts id ∙ m.absent,
      omega (arith, count, limit, less),
    )
