-- A damaged file goes to corrupt.
use Rattle.std.proofs.Common.{◌≡◌, Bool, true, false, map, is_some, not, Option, Some, None, option_map, refl, sym, ap, ◌∙◌, subst}
use Rattle.std.proofs.lemmas.Bool.{and_parts}
use Rattle.std.specs.List.{list_any}
use Rattle.std.specs.Option.{option_map_or}
use Rattle.std.specs.Prelude.{◌&&◌, ◌||◌, if◌then◌else◌}
use Rattle.q_core.proofs.HeldLaws.{is_there}
use Rattle.q_core.proofs.ListLaws.{find-map, find-same, list_any-map, list_any-same}
use Rattle.q_core.proofs.SyncedLaws.{fewer_left, shifted_fewer}
use Rattle.q_core.proofs.QueueLaws.{IsSameOf, files_law, slots_same, with_files}
use Rattle.q_core.proofs.RestLaws.{admitted_active}
use Rattle.q_core.proofs.SameLaws.{listed_stands, not_bool}
use Rattle.q_core.proofs.StepLaws.{HasRowsOf, HoldsRaw}
use Rattle.q_core.proofs.PickLaws.{found_on}
use Rattle.q_core.specs.Agrees.{IsSeen, found_active, found_at, slot_of}
use Rattle.q_core.specs.Facts.{shows_damaged}
use Rattle.q_core.specs.declared.state.Core.{Core}
use Rattle.q_core.specs.declared.state.Seen.{Seen}
use Rattle.q_core.specs.declared.state.Seen.TheVariants.{Known, Unknown}
use Rattle.q_core.specs.declared.decision.Found.TheVariants.{Nothing}
use Rattle.q_laws.proofs.Books.{message_in, not_damaged, placed_listed}
use Rattle.q_laws.proofs.Distinct.{id_other}
use Rattle.q_laws.proofs.Members.{IsIn, find_in, none_at}
use Rattle.q_laws.specs.Consistency.{IsConsistent}
use Rattle.q_model.proofs.IdLaws.{id_eq-true}
use Rattle.q_model.specs.Admissions.{cause_gone, has_room}
use Rattle.q_model.specs.Book.{Book, Damaged, all_ids, damaged_of, message_of, stands, stands_in}
use Rattle.q_model.specs.BookChanges.{move_damaged}
use Rattle.q_model.specs.Ids.{bounce_of, cause_of, id_eq}
use Rattle.q_model.specs.Ledger.{Ledger}
use Rattle.q_model.specs.Leaving.{after_corrupt, may_corrupt}
use Rattle.q_model.specs.Leftovers.{is_next_leftover, next_leftover}
use Rattle.q_model.specs.Memory.{is_admitted}
use Rattle.q_model.specs.Message.{Message}
use Rattle.q_model.specs.Alternation.{Pick, is_pick, passed, pick, after_pick}
use Rattle.q_model.specs.Alternation.Pick.{from_deferred, from_incoming}
use Rattle.q_model.specs.Places.{is_active, is_incoming}
use Rattle.q_model.specs.Settings.{World}
use Rattle.q_model.specs.declared.id.Id.{Id}
use Rattle.q_model.specs.declared.rows.Admitted.{Admitted}
use Rattle.q_model.specs.declared.rows.Place.{Place}
use Rattle.q_model.specs.declared.rows.Place.TheVariants as places

abbrev shifted : Id → Place → Damaged → Damaged
shifted id place d = if id_eq d.id id then record d { place = place } else d

name_of : (id : Id) (place : Place) (d : Damaged) (t : Bool) → (if t then record d { place = place } else d).id ≡ d.id
name_of id place d true = refl
name_of id place d false = refl

some_mapped : {A B : Type 0} (f : A → B) (o : Option A) → is_some (option_map f o) ≡ is_some o
some_mapped f None = refl
some_mapped f (Some x) = refl

-- the same ids stand
shifted_stands : (b : Book) (id : Id) (place : Place) (i : Id) → stands (move_damaged b id place) i ≡ stands b i
shifted_stands b id place i =
    ap (λ z. is_some (message_of b i) || z)
    (ap is_some (find-map (λ (d : Damaged). id_eq d.id i) (shifted id place) b.damaged
    ∙ ap (option_map (shifted id place)) (find-same (λ d. id_eq (shifted id place d).id i) (λ d. id_eq d.id i) (λ d. ap (λ j. id_eq j i) (name_of id place d (id_eq d.id id))) b.damaged))
    ∙ some_mapped (shifted id place) (damaged_of b i))

incoming_one : (id i : Id) (place : Place) → id_eq i id ≡ false → (d : Damaged) → (t : Bool) → id_eq d.id id ≡ t →
    (id_eq (if t then record d { place = place } else d).id i && is_incoming (if t then record d { place = place } else d).place) ≡ (id_eq d.id i && is_incoming d.place)
incoming_one id i place other d false e = refl
incoming_one id i place other d true e =
    let away : id_eq d.id i ≡ false = not_bool (id_eq d.id i) (λ h. id_other i id other (sym (id_eq-true d.id i h) ∙ id_eq-true d.id id e)) in
    ap (λ t. t && is_incoming place) away ∙ sym (ap (λ t. t && is_incoming d.place) away)

shifted_incoming : (b : Book) (id : Id) (place : Place) (i : Id) → id_eq i id ≡ false → stands_in is_incoming (move_damaged b id place) i ≡ stands_in is_incoming b i
shifted_incoming b id place i other =
    ap (λ z. list_any (λ (m : Message). id_eq m.id i && is_incoming m.place) b.messages || z)
    (list_any-map (λ (d : Damaged). id_eq d.id i && is_incoming d.place) (shifted id place) b.damaged
    ∙ list_any-same (λ d. id_eq (shifted id place d).id i && is_incoming (shifted id place d).place) (λ d. id_eq d.id i && is_incoming d.place)
    (λ d. incoming_one id i place other d (id_eq d.id id) refl) b.damaged)

abbrev with_bounce : Bool → Id → Id
with_bounce t j = record j { bounce = t }

-- the file is the bounce of none that stands
pub no_bounce : (b : Book) (id : Id) → cause_gone b id ≡ true → (i : Id) → IsIn i (all_ids b) → id_eq i id ≡ false → id_eq (bounce_of i) id ≡ false
no_bounce b id gone i inside other = not_bool (id_eq (bounce_of i) id) (λ e. apart (id_eq-true (bounce_of i) id e) i.bounce refl)
  where
    apart : bounce_of i ≡ id → (t : Bool) → i.bounce ≡ t → ⊥
    apart same true e = id_other i id other (ap (λ t. with_bounce t i) e ∙ same)
    apart same false e =
        let cause : cause_of id ≡ i = ap cause_of (sym same) ∙ ap (λ t. with_bounce t i) (sym e) in
        let bounce : id.bounce ≡ true = ap (λ (x : Id). x.bounce) (sym same) in
        let there : stands b (cause_of id) ≡ true = ap (stands b) cause ∙ listed_stands b i inside in
        let bad : false ≡ true = sym (ap (λ x. not (x && stands b (cause_of id))) bounce ∙ ap not there) ∙ gone in
        absurd cc

-- a message stays
pub shifted_same : (b : Book) (id : Id) (place : Place) → cause_gone b id ≡ true → (i : Id) → IsIn i (all_ids b) → id_eq i id ≡ false → IsSameOf b (move_damaged b id place) i
shifted_same b id place gone i inside other = record {
  message = refl;
  bounced = shifted_incoming b id place (bounce_of i) (no_bounce b id gone i inside other);
  alone = ap (λ z. not (i.bounce && z)) (shifted_stands b id place (cause_of i));
}

-- a damaged file isn't in memory
damaged_out : {w : World} {l : Ledger} → IsConsistent w l → (id : Id) → (o : Option Damaged) → damaged_of l.book id ≡ o → is_some o ≡ true → is_admitted l id ≡ false
damaged_out k id None e h = absurd cc
damaged_out {l = l} k id (Some d) e h = not_bool (is_admitted l id) (λ adm.
    let t = is_there k id adm in
    let mine = message_in l.book id t.message t.there in
    let one = find_in (λ (x : Damaged). id_eq x.id id) d l.book.damaged e in
    not_damaged l.book k.book.distinct t.message d mine.0 one.0 (mine.1 ∙ sym (id_eq-true d.id id one.1)))

pub corrupt_parts : {w : World} {l : Ledger} → IsConsistent w l → (id : Id) → may_corrupt w l id ≡ true → (is_admitted l id ≡ false) × (cause_gone l.book id ≡ true)
corrupt_parts {w = w} {l = l} k id may =
    let two = and_parts (is_some (damaged_of l.book id) && (is_next_leftover l id || (has_room w l && is_pick l id))) (cause_gone l.book id) may in
    (damaged_out k id (damaged_of l.book id) refl (and_parts (is_some (damaged_of l.book id)) (is_next_leftover l id || (has_room w l && is_pick l id)) two.0).0, two.1)

-- the file goes, and all is to be looked at anew
pub corrupt_law : {w : World} {c : Core} {l : Ledger} (id : Id) → HoldsRaw w c l → IsConsistent w l → is_admitted l id ≡ false → cause_gone l.book id ≡ true →
    HoldsRaw w (record c { active = Unknown; incoming = Unknown; deferred = Unknown }) (record l { book = move_damaged l.book id places.Corrupt })
corrupt_law {w = w} {c = c} {l = l} id r k out gone =
    let h = r.parts in
    let b = move_damaged l.book id places.Corrupt in
    let slots : c.admitted ≡ map (slot_of (with_files l b l.admitted)) l.admitted = h.admitted ∙ slots_same l b l.admitted l.admitted (λ a inside.
    shifted_same l.book id places.Corrupt gone a.id (placed_listed is_active l.book a.id (admitted_active k a inside)) (none_at (λ (x : Admitted). id_eq x.id id) a l.admitted out inside)) in
    files_law b l.admitted r refl (fewer_left l b (shifted_fewer l.book id places.Corrupt refl)) slots tt tt tt

-- the look at active has shown the file
shown_on : (l : Ledger) (id : Id) (o : Option Id) → shows_damaged (Known (option_map_or (λ k. found_at l 0 k) o Nothing)) id ≡ true → option_map_or (λ k. id_eq k id) o false ≡ true
shown_on l id None h = absurd cc
shown_on l id (Some k) h = on (message_of l.book k) h
  where
    on : (o : Option Message) → shows_damaged (Known (found_on l 0 k o)) id ≡ true → id_eq k id ≡ true
    on None e = e
    on (Some m) e = absurd cc

shown_next : (seen : Seen) (l : Ledger) (id : Id) → IsSeen seen (found_active l) → shows_damaged seen id ≡ true → is_next_leftover l id ≡ true
shown_next Unknown l id h e = absurd cc
shown_next (Known found) l id h e = shown_on l id (next_leftover l) (ap (λ f. shows_damaged (Known f) id) (sym h) ∙ e)

-- a damaged file that an earlier life left
pub corrupt_left_law : {w : World} {c : Core} {l : Ledger} (id : Id) → HoldsRaw w c l → IsConsistent w l → shows_damaged c.active id ≡ true → may_corrupt w l id ≡ true →
    HoldsRaw w (record c { active = Unknown; incoming = Unknown; deferred = Unknown }) (after_corrupt l id)
corrupt_left_law {w = w} {c = c} {l = l} id r k shown may =
    let parts = corrupt_parts k id may in
    subst (λ (b : Bool). HoldsRaw w (record c { active = Unknown; incoming = Unknown; deferred = Unknown }) (let t : Ledger = if b then l else after_pick l in record t { book = move_damaged l.book id places.Corrupt })) (sym (shown_next c.active l id r.parts.active shown))
    (corrupt_law id r k parts.0 parts.1)

rows_picked : (l : Ledger) (o : Option Pick) → HasRowsOf l (option_map_or (λ p. passed p l) o l)
rows_picked l None = record { waiting = refl; flights = refl }
rows_picked l (Some (from_incoming id)) = record { waiting = refl; flights = refl }
rows_picked l (Some (from_deferred name)) = record { waiting = refl; flights = refl }

-- taking a file moves no row
pub picked_rows : (l : Ledger) → HasRowsOf l (after_pick l)
picked_rows l = rows_picked l (pick l)

rows_either : (l : Ledger) (b : Bool) → HasRowsOf l (if b then l else after_pick l)
rows_either l true = record { waiting = refl; flights = refl }
rows_either l false = picked_rows l

pub corrupt_rows : (l : Ledger) (id : Id) → HasRowsOf l (after_corrupt l id)
corrupt_rows l id = let rows = rows_either l (is_next_leftover l id) in record { waiting = rows.waiting; flights = rows.flights }
