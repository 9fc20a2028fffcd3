-- The schedule knows the messages in memory, as one comes, is read, changes or goes.
use Rattle.std.proofs.Common.{◌≡◌, ◌∙◌, ◌∷◌, ◌++◌, ◌+◌, ◌-◌, ◌<◌, [], ap, arith, Bool, cond, false, length, List, map, None, not, option_map, refl, Some, subst, sym, true, ℕ}
use Rattle.std.proofs.lemmas.List.{length-map}
use Rattle.std.specs.List.{AllByRecursion, list_any}
use Rattle.std.specs.Option.{option_map_or}
use Rattle.std.specs.Prelude.{◌||◌, filter, find, nat_lt}
use Rattle.q_core.proofs.PoolTies.{apart_found, AreFound, slot_found}
use Rattle.q_core.specs.Changes.{slots_without}
use Rattle.q_core.specs.Tidied.{slot_among, unread_among}
use Rattle.q_core.specs.Ties.{admitted_of, AreMessagesTied}
use Rattle.q_model.proofs.IdLaws.{id_eq-true}
use Rattle.q_model.specs.declared.id.Id.{Id}
use Rattle.q_model.specs.Ids.{id_eq}
use Rattle.q_model.specs.Settings.{Settings}
use Rattle.q_pool.specs.declared.kept.Kept.{Kept}
use Rattle.q_pool.specs.declared.slot.Slot.{Slot}
use Rattle.q_pool.specs.Kept.{heads, unread_of}
use Rattle.q_pool.specs.Pooled.{AreApart}
use Rattle.q_pool.specs.Slots.{changed_at, with_slot_mark}
use Rattle.q_schedule.specs.Schedule.{is_another, is_message, read_to, Scheduling}

-- slots stand apart
found_step : (ks all : List Kept) → AreFound all ks → AllByRecursion (λ s. slot_among (heads all) s.id ≡ Some s) (heads ks)
found_step [] all h = tt
found_step (k ∷ ks) all h =
    (sym (slot_found k.slot.id all) ∙ ap (option_map (λ (k : Kept). k.slot)) h.0, found_step ks all h.1)

pub slots_found : (ks : List Kept) → AreApart ks → AllByRecursion (λ s. slot_among (heads ks) s.id ≡ Some s) (heads ks)
slots_found ks apart = found_step ks ks (apart_found ks apart)

-- a change that the schedule doesn't know of
same_step : (id : Id) (f : Slot → Slot) (s : Slot) (b : Bool) → admitted_of (f s) ≡ admitted_of s → admitted_of (cond b (f s) s) ≡ admitted_of s
same_step id f s true h = h
same_step id f s false h = refl

same_messages : (id : Id) (f : Slot → Slot) → ((s : Slot) → admitted_of (f s) ≡ admitted_of s) → (slots : List Slot) → map admitted_of (map (changed_at id f) slots) ≡ map admitted_of slots
same_messages id f same [] = refl
same_messages id f same (s ∷ slots) =
    ap (λ m. m ∷ map admitted_of (map (changed_at id f) slots)) (same_step id f s (id_eq s.id id) (same s)) ∙ ap (λ ms. admitted_of s ∷ ms) (same_messages id f same slots)

module _ (p : Settings) (old : Scheduling) (slots : List Slot) (tied : AreMessagesTied p old slots) where
  pub messages_same : (new : List Slot) → new ≡ slots → AreMessagesTied p old new
  messages_same new same = subst (AreMessagesTied p old) (sym same) tied

  pub messages_kept : (id : Id) (f : Slot → Slot) → ((s : Slot) → admitted_of (f s) ≡ admitted_of s) → (new : List Slot) → new ≡ map (changed_at id f) slots → AreMessagesTied p old new
  messages_kept id f same new is =
      subst (AreMessagesTied p old) (sym is) (record { known = tied.known ∙ sym (same_messages id f same slots); room = tied.room })

  -- the lines and the peers change
  pub messages_stay : (new : Scheduling) → new.messages ≡ old.messages → new.message_room ≡ old.message_room → AreMessagesTied p new slots
  messages_stay new same room = record { known = same ∙ tied.known; room = room ∙ tied.room }

  -- one comes
  more_step : (s : Slot) (xs : List Slot) → map admitted_of (xs ++ s ∷ []) ≡ map admitted_of xs ++ admitted_of s ∷ []
  more_step s [] = refl
  more_step s (x ∷ xs) = ap (λ ms. admitted_of x ∷ ms) (more_step s xs)

  pub messages_more : (s : Slot) (new : Scheduling) (more : List Slot) → new ≡ record old { messages = old.messages ++ admitted_of s ∷ [] } → more ≡ slots ++ s ∷ [] → AreMessagesTied p new more
  messages_more s new more is slots_is =
      subst (λ x. AreMessagesTied p x more) (sym is)
      (subst (AreMessagesTied p (record old { messages = old.messages ++ admitted_of s ∷ [] })) (sym slots_is)
      (record { known = ap (λ ms. ms ++ admitted_of s ∷ []) tied.known ∙ sym (more_step s slots); room = tied.room }))

  absent_step : (id : Id) (xs : List Slot) → find (is_message id) (map admitted_of xs) ≡ option_map admitted_of (slot_among xs id)
  absent_step id [] = refl
  absent_step id (x ∷ xs) = ap (cond (id_eq x.id id) (Some (admitted_of x))) (absent_step id xs) ∙ both (id_eq x.id id)
    where
      both : (b : Bool) → cond b (Some (admitted_of x)) (option_map admitted_of (slot_among xs id)) ≡ option_map admitted_of (cond b (Some x) (slot_among xs id))
      both true = refl
      both false = refl

  pub absent_message : (id : Id) → slot_among slots id ≡ None → find (is_message id) old.messages ≡ None
  absent_message id none = ap (find (is_message id)) tied.known ∙ absent_step id slots ∙ ap (option_map admitted_of) none

  pub room_message : length slots < p.active_limit → length old.messages < old.message_room
  room_message low =
      let count : length old.messages ≡ length slots = ap length tied.known ∙ length-map slots admitted_of in
      omega (arith, count, low, tied.room)

  -- one goes
  left_step : (id : Id) (s : Slot) (xs : List Slot) (b : Bool) → cond b (admitted_of s ∷ map admitted_of xs) (map admitted_of xs) ≡ map admitted_of (cond b (s ∷ xs) xs)
  left_step id s xs true = refl
  left_step id s xs false = refl

  left_messages : (id : Id) (xs : List Slot) → filter (is_another id) (map admitted_of xs) ≡ map admitted_of (slots_without id xs)
  left_messages id [] = refl
  left_messages id (s ∷ xs) =
      ap (λ ms. cond (not (id_eq s.id id)) (admitted_of s ∷ ms) ms) (left_messages id xs) ∙ left_step id s (slots_without id xs) (not (id_eq s.id id))

  pub messages_left : (id : Id) (new : Scheduling) (less : List Slot) → new ≡ record old { messages = filter (is_another id) old.messages } → less ≡ slots_without id slots → AreMessagesTied p new less
  messages_left id new less is slots_is =
      subst (λ x. AreMessagesTied p x less) (sym is)
      (subst (AreMessagesTied p (record old { messages = filter (is_another id) old.messages })) (sym slots_is)
      (record { known = ap (filter (is_another id)) tied.known ∙ left_messages id slots; room = tied.room }))

  -- one is read
  module _ (id : Id) (f : Slot → Slot) (ids : (s : Slot) → (f s).id ≡ s.id) (arrivals : (s : Slot) → (f s).arrival ≡ s.arrival) (all : List Slot) (unread : ℕ) (is : unread ≡ unread_among all id) where
    read_step : (s : Slot) (b : Bool) → id_eq s.id id ≡ b → slot_among all (cond b (f s) s).id ≡ Some (cond b (f s) s) → cond b (record (admitted_of s) { unread = unread }) (admitted_of s) ≡ admitted_of (cond b (f s) s)
    read_step s true own there =
        let its : (f s).id ≡ id = ids s ∙ id_eq-true s.id id own in
        let count : unread ≡ unread_of (f s) = is ∙ ap (λ o. option_map_or unread_of o 0) (ap (slot_among all) (sym its) ∙ there) in
        ap (λ n. record (admitted_of s) { unread = n }) count
        ∙ ap (λ i. record { id = i; arrival = s.arrival; unread = unread_of (f s) }) (sym (ids s))
        ∙ ap (λ t. record { id = (f s).id; arrival = t; unread = unread_of (f s) }) (sym (arrivals s))
    read_step s false own there = refl

    read_messages : (xs : List Slot) → AllByRecursion (λ s. slot_among all s.id ≡ Some s) (map (changed_at id f) xs) → map (read_to id unread) (map admitted_of xs) ≡ map admitted_of (map (changed_at id f) xs)
    read_messages [] found = refl
    read_messages (s ∷ xs) found =
        ap (λ m. m ∷ map (read_to id unread) (map admitted_of xs)) (read_step s (id_eq s.id id) refl found.0) ∙ ap (λ ms. admitted_of (changed_at id f s) ∷ ms) (read_messages xs found.1)

    pub messages_read : (new : Scheduling) → new ≡ record old { messages = map (read_to id unread) old.messages } → all ≡ map (changed_at id f) slots → AllByRecursion (λ s. slot_among all s.id ≡ Some s) all → AreMessagesTied p new all
    messages_read new new_is slots_is found =
        subst (λ x. AreMessagesTied p x all) (sym new_is)
        (record {
          known =
              ap (map (read_to id unread)) tied.known
              ∙ read_messages slots (subst (λ xs. AllByRecursion (λ s. slot_among all s.id ≡ Some s) xs) slots_is found)
              ∙ ap (map admitted_of) (sym slots_is);
          room = tied.room;
        })

-- at the beginning there is none
pub messages_new : (p : Settings) (s : Scheduling) (slots : List Slot) → s.messages ≡ [] → slots ≡ [] → s.message_room ≡ p.active_limit → AreMessagesTied p s slots
messages_new p s slots none empty room = record { known = none ∙ sym (ap (map admitted_of) empty); room = room }

mark_step : (s : Slot) (b c : Bool) → admitted_of (cond b (record s { marks = cond c (s.marks + 1) s.marks; logged = false }) (record s { marks = cond c (s.marks + 1) s.marks; pending = s.pending - 1 })) ≡ admitted_of s
mark_step s true c = refl
mark_step s false c = refl

-- a mark more
pub mark_same : (s : Slot) → admitted_of (with_slot_mark s) ≡ admitted_of s
mark_same s = mark_step s s.logged (nat_lt s.marks s.recipients)

absent_found : (id : Id) (s : Slot) (slots : List Slot) (b : Bool) → (b || list_any (λ s. id_eq s.id id) slots) ≡ false → (list_any (λ s. id_eq s.id id) slots ≡ false → slot_among slots id ≡ None) → cond b (Some s) (slot_among slots id) ≡ None
absent_found id s slots true h rest = absurd cc
absent_found id s slots false h rest = rest h

-- it isn't in memory
pub slot_absent : (slots : List Slot) (id : Id) → list_any (λ s. id_eq s.id id) slots ≡ false → slot_among slots id ≡ None
slot_absent [] id h = refl
slot_absent (s ∷ slots) id h = absent_found id s slots (id_eq s.id id) h (slot_absent slots id)
