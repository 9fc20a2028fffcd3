-- The damaged file that is next goes to corrupt.
use Rattle.std.proofs.Common.{◌≡◌, Bool, true, false, is_some, Option, Some, None, refl, sym, ap, ◌∙◌, subst, IsTrue}
use Rattle.std.proofs.lemmas.Bool.{and_parts}
use Rattle.std.specs.Option.{option_map_or}
use Rattle.std.specs.Prelude.{◌&&◌, ◌||◌, if◌then◌else◌}
use Rattle.q_core.proofs.CorruptLaws.{corrupt_law, corrupt_parts}
use Rattle.q_core.proofs.NameLaws.{id_eq-true}
use Rattle.q_core.proofs.SameLaws.{not_bool}
use Rattle.q_core.proofs.StepLaws.{HoldsRaw}
use Rattle.q_core.proofs.PickLaws.{found_on}
use Rattle.q_core.proofs.AlternationLaws.{alternation_law, pick_by, picks}
use Rattle.q_core.specs.Agrees.{IsSeen, found_active, found_at}
use Rattle.q_core.specs.Changes.{is_known, is_looked_at}
use Rattle.q_core.specs.Facts.{shows_damaged}
use Rattle.q_core.specs.Picking.{found_name, from_deferred_in, passed_in, picked_in}
use Rattle.q_core.specs.declared.state.Core.{Core}
use Rattle.q_core.specs.declared.state.Seen.{Seen}
use Rattle.q_core.specs.declared.decision.Found.TheVariants.{Nothing}
use Rattle.q_core.specs.declared.state.Seen.TheVariants.{Known, Unknown}
use Rattle.q_laws.proofs.Books.{message_in, not_damaged}
use Rattle.q_laws.proofs.Members.{find_in}
use Rattle.q_laws.specs.Consistency.{IsConsistent}
use Rattle.q_model.specs.Admissions.{cause_gone, has_room}
use Rattle.q_model.specs.Book.{Book, Damaged, all_ids, damaged_of, message_of}
use Rattle.q_model.specs.BookChanges.{move_damaged}
use Rattle.q_model.specs.Ids.{are_distinct, id_eq}
use Rattle.q_model.specs.Leaving.{after_corrupt, may_corrupt}
use Rattle.q_model.specs.Ledger.{Ledger}
use Rattle.q_model.specs.Leftovers.{is_next_leftover, next_leftover}
use Rattle.q_model.specs.Message.{Message}
use Rattle.q_model.specs.Settings.{World}
use Rattle.q_model.specs.Alternation.{Pick, is_pick, passed, pick, pick_id, after_pick}
use Rattle.q_model.specs.Alternation.Pick.{from_deferred, from_incoming}
use Rattle.q_model.specs.declared.id.Id.{Id}
use Rattle.q_model.specs.declared.rows.Place.TheVariants as places

-- what is picked
pub picked_one : (l : Ledger) (id : Id) (o : Option Pick) → pick l ≡ o → option_map_or (λ p. id_eq (pick_id p) id) o false ≡ true → (p : Pick) × (pick l ≡ Some p) × (pick_id p ≡ id)
picked_one l id None e h = absurd cc
picked_one l id (Some p) e h = (p, e, id_eq-true (pick_id p) id h)

-- a damaged file has no message
no_message : (b : Book) → are_distinct (all_ids b) ≡ true → (id : Id) → (o : Option Damaged) → damaged_of b id ≡ o → is_some o ≡ true → (q : Option Message) → message_of b id ≡ q → q ≡ None
no_message b distinct id None e h q f = absurd cc
no_message b distinct id (Some d) e h None f = refl
no_message b distinct id (Some d) e h (Some m) f =
    let mine = message_in b id m f in
    let one = find_in (λ (x : Damaged). id_eq x.id id) d b.damaged e in
    absurd (not_damaged b distinct m d mine.0 one.0 (mine.1 ∙ sym (id_eq-true d.id id one.1)))

-- the look at active would have shown the file
hidden_on : (l : Ledger) (id : Id) → message_of l.book id ≡ None → (o : Option Id) → shows_damaged (Known (option_map_or (λ k. found_at l 0 k) o Nothing)) id ≡ false → option_map_or (λ k. id_eq k id) o false ≡ false
hidden_on l id none None h = refl
hidden_on l id none (Some k) h = not_bool (id_eq k id) (λ e.
    let same = id_eq-true k id e in
    let shown : shows_damaged (Known (found_at l 0 k)) id ≡ id_eq k id = ap (λ o. shows_damaged (Known (found_on l 0 k o)) id) (ap (message_of l.book) same ∙ none) in
    let bad : true ≡ false = sym e ∙ sym shown ∙ h in
    absurd cc)

hidden_next : (seen : Seen) (l : Ledger) (id : Id) → message_of l.book id ≡ None → is_known seen ≡ true → IsSeen seen (found_active l) → shows_damaged seen id ≡ false → is_next_leftover l id ≡ false
hidden_next Unknown l id none k h e = absurd cc
hidden_next (Known found) l id none k h e = hidden_on l id none (next_leftover l) (ap (λ f. shows_damaged (Known f) id) (sym h) ∙ e)

or_second : (a b : Bool) → a ≡ false → (a || b) ≡ true → b ≡ true
or_second true b e h = absurd cc
or_second false b e h = h

abbrev corrupted : Id → Ledger → Ledger
corrupted id l = record l { book = move_damaged l.book id places.Corrupt }

-- the file that is picked is picked
pass_as : {w : World} {d : Core} (l : Ledger) (id : Id) (o : Option Pick) (p : Pick) → o ≡ Some p → HoldsRaw w d (record (passed p l) { book = move_damaged l.book id places.Corrupt }) →
    HoldsRaw w d (record (option_map_or (λ q. passed q l) o l) { book = move_damaged l.book id places.Corrupt })
pass_as l id None p e h = absurd cc
pass_as {w = w} {d = d} l id (Some q) p e h = let same : p ≡ q = cc in subst (λ x. HoldsRaw w d (record (passed x l) { book = move_damaged l.book id places.Corrupt })) same h

-- where it isn't a leftover
pass_else : {w : World} {d : Core} (l : Ledger) (id : Id) (b : Bool) → b ≡ false → HoldsRaw w d (record (after_pick l) { book = move_damaged l.book id places.Corrupt }) →
    HoldsRaw w d (let t : Ledger = if b then l else after_pick l in record t { book = move_damaged l.book id places.Corrupt })
pass_else l id true e h = absurd cc
pass_else l id false e h = h

-- which queue follows and the book change apart
pass_apart : {w : World} {d : Core} (l : Ledger) (id : Id) (p : Pick) → HoldsRaw w d (passed p (corrupted id l)) → HoldsRaw w d (record (passed p l) { book = move_damaged l.book id places.Corrupt })
pass_apart l id (from_incoming i) h = h
pass_apart l id (from_deferred n) h = h

pub corrupt_picked_law : {w : World} {c : Core} {l : Ledger} (id : Id) → HoldsRaw w c l → IsConsistent w l → IsTrue (is_looked_at c) → is_known c.incoming ≡ true → is_known c.active ≡ true → shows_damaged c.active id ≡ false → may_corrupt w l id ≡ true →
    HoldsRaw w (passed_in (from_deferred_in c) (found_name (picked_in c)) (record c { active = Unknown; incoming = Unknown; deferred = Unknown })) (after_corrupt l id)
corrupt_picked_law {w = w} {c = c} {l = l} id r k looked known seen hidden may =
    let parts = corrupt_parts k id may in
    let two = and_parts (is_some (damaged_of l.book id) && (is_next_leftover l id || (has_room w l && is_pick l id))) (cause_gone l.book id) may in
    let one = and_parts (is_some (damaged_of l.book id)) (is_next_leftover l id || (has_room w l && is_pick l id)) two.0 in
    let none = no_message l.book k.book.distinct id (damaged_of l.book id) refl one.0 (message_of l.book id) refl in
    let other : is_next_leftover l id ≡ false = hidden_next c.active l id none seen r.parts.active hidden in
    let file = picked_one l id (pick l) refl (and_parts (has_room w l) (is_pick l id) (or_second (is_next_leftover l id) (has_room w l && is_pick l id) other one.1)).1 in
    let from = from_deferred_in c in
    let name = found_name (picked_in c) in
    let d : Core = passed_in from name (record c { active = Unknown; incoming = Unknown; deferred = Unknown }) in
    let gone : HoldsRaw w d (passed (pick_by from name) (corrupted id l)) = alternation_law from name (corrupt_law id r k parts.0 parts.1) in
    let turned : HoldsRaw w d (record (passed file.0 l) { book = move_damaged l.book id places.Corrupt }) =
    pass_apart l id file.0 (subst (λ p. HoldsRaw w d (passed p (corrupted id l))) (picks r looked known file.0 file.1) gone) in
    pass_else l id (is_next_leftover l id) other (pass_as l id (pick l) file.0 file.1 turned)
