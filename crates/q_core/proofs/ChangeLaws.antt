-- What looks tell, and what slots say, where one message in active changes and keeps its name and place.
use Rattle.std.proofs.Common.{◌≡◌, Bool, true, false, List, [], ◌∷◌, map, refl, sym, ap, ◌∙◌, subst, Option, Some, None, option_map}
use Rattle.std.specs.List.{list_any}
use Rattle.std.specs.Prelude.{◌&&◌, filter, if◌then◌else◌, not}
use Rattle.q_core.proofs.BookLaws.{KeepsPlace, changed, deferred_names-change, ids_at-change, message_of-change, stands-change, stands_in-change}
use Rattle.q_core.proofs.DueLaws.{active_or_deferred, due_listed, is_deferred, one_queue}
use Rattle.q_core.proofs.ListLaws.{find-passes}
use Rattle.q_core.proofs.NameLaws.{id_eq-same, id_eq-true}
use Rattle.q_core.proofs.QueueLaws.{IsSameOf, active_same, incoming_same, slot_same, slots_same, still_same}
use Rattle.q_core.proofs.SameLaws.{leftover_other, not_bool}
use Rattle.q_core.proofs.StepLaws.{IsStillSeen}
use Rattle.q_laws.proofs.Books.{active_not_incoming, at_place, message_in}
use Rattle.q_laws.proofs.Members.{IsIn, none_at}
use Rattle.q_core.specs.Agrees.{IsSeen, found_active, found_incoming, slot_from, slot_of}
use Rattle.q_core.specs.declared.decision.Found.{Found}
use Rattle.q_pool.specs.Slots.{changed_at}
use Rattle.q_pool.specs.declared.slot.Slot.{Slot}
use Rattle.q_core.specs.declared.state.Seen.{Seen}
use Rattle.q_core.specs.declared.state.Seen.TheVariants.{Known, Unknown}
use Rattle.q_model.specs.Book.{Book, all_ids, ids_at, message_of}
use Rattle.q_model.specs.BookChanges.{change_message}
use Rattle.q_model.specs.Finishing.{has_bounce}
use Rattle.q_model.specs.Ids.{are_distinct, bounce_of, cause_of, id_eq}
use Rattle.q_model.specs.Ledger.{Ledger}
use Rattle.q_model.specs.Memory.{is_admitted}
use Rattle.q_model.specs.Message.{Message}
use Rattle.q_model.specs.Places.{is_active, is_incoming}
use Rattle.q_model.specs.declared.id.Id.{Id}
use Rattle.q_model.specs.declared.rows.Admitted.{Admitted}
use Rattle.q_model.specs.declared.rows.Place.{Place}

-- the message of this id stands in active, and changes
pub record IsBookChange (l : Ledger) (id : Id) (f : Message → Message) (m : Message) : Type 0 where
  pub keeps : KeepsPlace f
  pub there : message_of l.book id ≡ Some m
  pub active : is_active m.place ≡ true
  pub distinct : are_distinct (all_ids l.book) ≡ true

abbrev pub changed_ledger : Ledger → Id → (Message → Message) → Ledger
changed_ledger l id f = record l { book = change_message l.book id f }

same_changed : (id k : Id) (f : Message → Message) (o : Option Message) → ((m : Message) → o ≡ Some m → m.id ≡ k) → id_eq k id ≡ false → option_map (changed id f) o ≡ o
same_changed id k f None h e = refl
same_changed id k f (Some m) h e = ap (λ b. Some (if b then f m else m)) (ap (λ i. id_eq i id) (h m refl) ∙ e)

message_name : (b : Book) (k : Id) (m : Message) → message_of b k ≡ Some m → m.id ≡ k
message_name b k m e = id_eq-true m.id k (find-passes (λ x. id_eq x.id k) b.messages m e)

-- another message is as it was
pub other_message : (b : Book) (id k : Id) (f : Message → Message) → KeepsPlace f → id_eq k id ≡ false → message_of (change_message b id f) k ≡ message_of b k
other_message b id k f keeps e = message_of-change b id k f keeps ∙ same_changed id k f (message_of b k) (message_name b k) e

-- this one is changed
pub this_message : (b : Book) (id : Id) (m : Message) (f : Message → Message) → KeepsPlace f → message_of b id ≡ Some m → message_of (change_message b id f) id ≡ Some (f m)
this_message b id m f keeps e =
    message_of-change b id id f keeps ∙ ap (option_map (changed id f)) e
    ∙ ap (λ c. Some (if c then f m else m)) (ap (λ i. id_eq i id) (message_name b id m e) ∙ id_eq-same id)

-- another message stays
kept_same : (b : Book) (id k : Id) (f : Message → Message) → KeepsPlace f → id_eq k id ≡ false → IsSameOf b (change_message b id f) k
kept_same b id k f keeps e = record {
  message = other_message b id k f keeps e;
  bounced = stands_in-change is_incoming b id (bounce_of k) f keeps;
  alone = ap (λ x. not (k.bounce && x)) (stands-change b id (cause_of k) f keeps);
}

-- the one that changes is listed in active
changed_listed : (l : Ledger) (id : Id) (f : Message → Message) (m : Message) → IsBookChange l id f m → IsIn id (ids_at is_active l.book)
changed_listed l id f m k = let mine = message_in l.book id m k.there in subst (λ i. IsIn i (ids_at is_active l.book)) mine.1 (at_place is_active l.book m mine.0 k.active)

-- who stands elsewhere is another
other_at : (l : Ledger) (id : Id) (f : Message → Message) (m : Message) → IsBookChange l id f m → (at : Place → Bool) → ((place : Place) → is_active place ≡ true → at place ≡ true → ⊥) → (i : Id) → IsIn i (ids_at at l.book) → IsSameOf l.book (change_message l.book id f) i
other_at l id f m k at apart i inside = kept_same l.book id i f k.keeps (not_bool (id_eq i id) (λ e.
    one_queue is_active at apart l.book k.distinct id (changed_listed l id f m k) (subst (λ j. IsIn j (ids_at at l.book)) (id_eq-true i id e) inside)))

pub incoming_changed : (l : Ledger) (id : Id) (f : Message → Message) (m : Message) → IsBookChange l id f m → found_incoming (changed_ledger l id f) ≡ found_incoming l
incoming_changed l id f m k = incoming_same l (change_message l.book id f) l.admitted (ids_at-change is_incoming l.book id f k.keeps) (other_at l id f m k is_incoming active_not_incoming)

pub active_changed : (l : Ledger) (id : Id) (f : Message → Message) (m : Message) → IsBookChange l id f m → is_admitted l id ≡ true → found_active (changed_ledger l id f) ≡ found_active l
active_changed l id f m k adm =
    active_same l (change_message l.book id f) l.admitted (ap (filter (λ i. not (is_admitted l i))) (ids_at-change is_active l.book id f k.keeps))
    (λ i h. kept_same l.book id i f k.keeps (leftover_other l id adm i h).1)

pub seen_same : (seen : Seen) (f g : Found) → f ≡ g → IsSeen seen g → IsSeen seen f
seen_same Unknown f g e h = tt
seen_same (Known found) f g e h = h ∙ sym e

pub still_changed : (seen : Seen) (l : Ledger) (id : Id) (f : Message → Message) (m : Message) → IsBookChange l id f m → IsStillSeen seen l → IsStillSeen seen (changed_ledger l id f)
still_changed seen l id f m k h =
    still_same seen l (change_message l.book id f) l.admitted (deferred_names-change l.book id f k.keeps)
    (λ n inside. other_at l id f m k is_deferred active_or_deferred n.id (due_listed l.book n inside)) h

-- the slot of this message is that of the changed one
slot_this : (l : Ledger) (id : Id) (f : Message → Message) (m : Message) → IsBookChange l id f m → (a : Admitted) → a.id ≡ id → slot_of (changed_ledger l id f) a ≡ slot_from a (has_bounce l a.id) (Some (f m))
slot_this l id f m k a e =
    ap (λ x. slot_from a x (message_of (change_message l.book id f) a.id)) (stands_in-change is_incoming l.book id _ f k.keeps)
    ∙ ap (slot_from a (has_bounce l a.id)) (ap (message_of (change_message l.book id f)) e ∙ this_message l.book id m f k.keeps k.there)

slot_case : (l : Ledger) (id : Id) (f : Message → Message) (m : Message) (g : Slot → Slot) → IsBookChange l id f m →
    ((a : Admitted) (bounced : Bool) → slot_from a bounced (Some (f m)) ≡ g (slot_from a bounced (Some m))) → (a : Admitted) (b : Bool) → id_eq a.id id ≡ b →
    slot_of (changed_ledger l id f) a ≡ (if b then g (slot_of l a) else slot_of l a)
slot_case l id f m g k h a false e = sym (slot_same l (change_message l.book id f) l.admitted a (kept_same l.book id a.id f k.keeps e))
slot_case l id f m g k h a true e =
    let same : a.id ≡ id = id_eq-true a.id id e in
    slot_this l id f m k a same ∙ h a (has_bounce l a.id)
    ∙ ap (λ o. g (slot_from a (has_bounce l a.id) o)) (sym (ap (message_of l.book) same ∙ k.there))

-- slots change as the message does
pub slots_changed : (l : Ledger) (id : Id) (f : Message → Message) (m : Message) (g : Slot → Slot) → IsBookChange l id f m →
    ((a : Admitted) (bounced : Bool) → slot_from a bounced (Some (f m)) ≡ g (slot_from a bounced (Some m))) → (xs : List Admitted) →
    map (changed_at id g) (map (slot_of l) xs) ≡ map (slot_of (changed_ledger l id f)) xs
slots_changed l id f m g k h [] = refl
slots_changed l id f m g k h (a ∷ xs) =
    ap (λ s. s ∷ map (changed_at id g) (map (slot_of l) xs)) (sym (slot_case l id f m g k h a (id_eq a.id id) refl))
    ∙ ap (λ ss. slot_of (changed_ledger l id f) a ∷ ss) (slots_changed l id f m g k h xs)

-- where the message isn't in memory, no slot changes
pub slots_apart : (l : Ledger) (id : Id) (f : Message → Message) → KeepsPlace f → (xs : List Admitted) → list_any (λ (a : Admitted). id_eq a.id id) xs ≡ false →
    map (slot_of l) xs ≡ map (slot_of (changed_ledger l id f)) xs
slots_apart l id f keeps xs h = slots_same l (change_message l.book id f) l.admitted xs (λ a inside. kept_same l.book id a.id f keeps (none_at (λ (x : Admitted). id_eq x.id id) a xs h inside))
