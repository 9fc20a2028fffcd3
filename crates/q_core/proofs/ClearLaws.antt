-- A message that an earlier life left is marked, and synced.
use Rattle.std.proofs.Common.{◌≡◌, ℕ, Bool, true, false, List, [], ◌∷◌, refl, sym, ap, ◌∙◌, subst, Option, Some, None}
use Rattle.std.specs.Option.{option_map_or}
use Rattle.std.specs.Prelude.{◌&&◌, ◌||◌, ◌==◌, drop, if◌then◌else◌, not, slice_get}
use Rattle.q_core.proofs.ChangeLaws.{changed_ledger}
use Rattle.q_core.proofs.HeldLaws.{apart_law}
use Rattle.q_core.proofs.MarkLaws.{keeps_mark}
use Rattle.q_core.proofs.MarksLaws.{keeps_sync}
use Rattle.q_core.proofs.NameLaws.{and_true_parts, id_eq-same}
use Rattle.q_core.proofs.SyncedLaws.{leftovers_changed}
use Rattle.q_core.proofs.StepLaws.{HoldsRaw, IsStillSeen}
use Rattle.q_core.specs.Agrees.{AgreesButScan, AreSyncedAlike}
use Rattle.q_core.specs.Changes.{IsNoted}
use Rattle.q_core.specs.declared.state.Core.{Core}
use Rattle.q_core.specs.declared.state.Seen.{Seen}
use Rattle.q_core.specs.declared.state.Seen.TheVariants.{Known, Unknown}
use Rattle.q_laws.proofs.Books.{at_place, left_active, left_from, left_parts, message_in}
use Rattle.q_laws.specs.Consistency.{IsConsistent}
use Rattle.q_model.specs.Book.{message_of}
use Rattle.q_model.specs.Ids.{id_eq}
use Rattle.q_model.specs.Ledger.{Ledger}
use Rattle.q_model.specs.Leftovers.{is_leftover, next_leftover, was_synced}
use Rattle.std.specs.List.{list_any}
use Rattle.q_model.specs.Lists.{has_none}
use Rattle.q_model.specs.Marking.{after_mark, is_unmarked_at, marks_first, marks_leftover, needs_mark}
use Rattle.q_model.specs.Marking.{with_mark as marked_at}
use Rattle.q_model.specs.Memory.{is_admitted}
use Rattle.q_model.specs.Message.{Message, is_logged, written_marks}
use Rattle.q_model.specs.Places.{is_active}
use Rattle.q_model.specs.Settings.{World}
use Rattle.q_model.specs.Syncs.{after_sync, may_sync, sync_all}
use Rattle.q_model.specs.declared.id.Id.{Id}
use Rattle.q_model.specs.declared.rows.Unsettled.{Unsettled}

-- a leftover has a message in active, and isn't in memory
pub record IsLeftover (l : Ledger) (id : Id) (m : Message) : Type 0 where
  pub there : message_of l.book id ≡ Some m
  pub active : is_active m.place ≡ true
  pub apart : is_admitted l id ≡ false
  pub left : is_leftover l id ≡ true

not_true : (b : Bool) → not b ≡ true → b ≡ false
not_true true h = cc
not_true false h = refl

some_message : (f : Message → Bool) (o : Option Message) → option_map_or f o false ≡ true → (m : Message) × (o ≡ Some m) × (f m ≡ true)
some_message f None h = cc
some_message f (Some m) h = (m, refl, h)

marked_left : {w : World} {l : Ledger} → IsConsistent w l → (id : Id) (position : ℕ) → marks_leftover l id position ≡ true → (m : Message) × IsLeftover l id m
marked_left {l = l} k id position h =
    let test : Message → Bool = λ m. is_logged m position && is_unmarked_at m position in
    let parts = and_true_parts (is_leftover l id) (option_map_or test (message_of l.book id) false) h in
    let m = some_message test (message_of l.book id) parts.1 in (
      m.0,
      record {
        there = m.1;
        active = left_active l k.book.distinct id m.0 parts.0 m.1;
        apart = not_true (is_admitted l id) (left_parts l id parts.0).1;
        left = parts.0;
      },
    )

synced_left : {l : Ledger} (id : Id) → is_admitted l id ≡ false → may_sync l id ≡ true → (m : Message) × IsLeftover l id m
synced_left {l = l} id apart h =
    let test : Message → Bool = λ m. is_active m.place && (is_leftover l id || not (has_none (written_marks m))) in
    let m = some_message test (message_of l.book id) h in
    let active = (and_true_parts (is_active m.0.place) (is_leftover l id || not (has_none (written_marks m.0))) m.2).0 in
    let mine = message_in l.book id m.0 m.1 in
    let listed = subst (λ i. is_leftover l i ≡ true) mine.1 (left_from l m.0.id (at_place is_active l.book m.0 mine.0 active) (ap (λ i. not (is_admitted l i)) mine.1 ∙ ap not apart)) in
    (m.0, record { there = m.1; active = active; apart = apart; left = listed })

-- a failure of a leftover is marked
pub mark_left_law : {w : World} {c : Core} {l : Ledger} (id : Id) (position : ℕ) → HoldsRaw w c l → IsConsistent w l → c.unsettled ≡ [] → marks_leftover l id position ≡ true →
    HoldsRaw w (record c { active = Unknown }) (after_mark l id position)
mark_left_law {w = w} {c = c} {l = l} id position r k none h =
    let found = marked_left k id position h in
    let m = found.0 in
    let known = found.1 in
    let raw = apart_law id (marked_at position) m r (record { keeps = keeps_mark position; there = known.there; active = known.active; distinct = k.book.distinct }) known.apart in
    let empty : l.unsettled ≡ [] = sym r.parts.unsettled ∙ none in
    let not_first : marks_first l id position ≡ false = ap (λ (us : List Unsettled). option_map_or (λ u. id_eq u.id id && (u.position == position) && needs_mark u.need) (slice_get us 0) false) empty in
    subst (λ b. HoldsRaw w (record c { active = Unknown }) (record (changed_ledger l id (marked_at position)) { unsettled = if b then drop 1 l.unsettled else l.unsettled })) (sym not_first) raw

still_noted : (seen : Seen) (l : Ledger) (ids : List Id) → IsStillSeen seen l → IsStillSeen seen (record l { synced = ids })
still_noted Unknown l ids h = tt
still_noted (Known found) l ids h = h

-- no other leftover was synced, so it is enough to know this one
synced_one : (l : Ledger) (id : Id) → ((i : Id) → is_leftover l i ≡ true → id_eq i id ≡ false → was_synced l i ≡ false) → AreSyncedAlike (id ∷ []) (record l { synced = id ∷ l.synced })
synced_one l id others = λ i left. one i left (id_eq i id) refl
  where
    one : (i : Id) → is_leftover l i ≡ true → (t : Bool) → id_eq i id ≡ t → list_any (id_eq i) (id ∷ []) ≡ list_any (id_eq i) (id ∷ l.synced)
    one i left true e = ap (λ b. b || false) e ∙ sym (ap (λ b. b || was_synced l i) e)
    one i left false e = ap (λ b. b || false) e ∙ sym (ap (λ b. b || was_synced l i) e ∙ others i left e)

synced_law : {w : World} {c d : Core} {l : Ledger} (id : Id) → ((i : Id) → is_leftover l i ≡ true → id_eq i id ≡ false → was_synced l i ≡ false) → HoldsRaw w (record c { active = Unknown }) l → IsNoted c d id → HoldsRaw w d (record l { synced = id ∷ l.synced })
synced_law {w = w} {c = c} {d = d} {l = l} id others r n =
    let h = r.parts in
    let next : Ledger = record l { synced = id ∷ l.synced } in
    let kept : AgreesButScan w (record c { synced = d.synced; active = Unknown }) next = record {
      settings = h.settings;
      count = h.count;
      transports = h.transports;
      mode = h.mode;
      clock = h.clock;
      timed = h.timed;
      next_run = h.next_run;
      ignores = h.ignores;
      deferred_follows = h.deferred_follows;
      admitted = h.admitted;
      waiting = h.waiting;
      flights = h.flights;
      memory = h.memory;
      served = h.served;
      unsettled = h.unsettled;
      lines = h.lines;
      sites = h.sites;
      synced = subst (λ (ids : List Id). AreSyncedAlike ids next) (sym n.synced) (synced_one l id others);
      starts = h.starts;
      active = tt;
      incoming = h.incoming;
    } in
    let raw : HoldsRaw w (record c { synced = d.synced; active = Unknown }) next = record { parts = kept; scan = r.scan; asked = r.asked; seen = still_noted c.deferred l (id ∷ l.synced) r.seen } in
    subst (λ x. HoldsRaw w x next) (sym n.rest) raw

-- the marks of a leftover are synced
pub sync_left_law : {w : World} {c d : Core} {l : Ledger} (id : Id) → HoldsRaw w c l → IsConsistent w l → is_admitted l id ≡ false → may_sync l id ≡ true → next_leftover l ≡ Some id → IsNoted c d id → HoldsRaw w d (after_sync l id)
sync_left_law {w = w} {c = c} {d = d} {l = l} id r k apart h first n =
    let found = synced_left {l = l} id apart h in
    let m = found.0 in
    let known = found.1 in
    let raw = apart_law id sync_all m r (record { keeps = keeps_sync; there = known.there; active = known.active; distinct = k.book.distinct }) apart in
    subst (λ b. HoldsRaw w d (record (changed_ledger l id sync_all) { synced = if b then id ∷ l.synced else l.synced })) (sym known.left) (synced_law id others raw n)
  where
    -- it would be the next, as this one is
    unsynced : (i : Id) → id_eq i id ≡ false → (t : Bool) → was_synced l i ≡ t → is_leftover l i ≡ true → t ≡ false
    unsynced i other false e left = refl
    unsynced i other true e left =
        let both : Some i ≡ Some id = sym (k.memory.synced_next i left e) ∙ first in
        let same : i ≡ id = cc in
        sym (ap (λ j. id_eq j id) same ∙ id_eq-same id) ∙ other

    others : (i : Id) → is_leftover (changed_ledger l id sync_all) i ≡ true → id_eq i id ≡ false → was_synced l i ≡ false
    others i left other =
        unsynced i other (was_synced l i) refl (sym (ap (list_any (id_eq i)) (leftovers_changed l id sync_all keeps_sync)) ∙ left)
