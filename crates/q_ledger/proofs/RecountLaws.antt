-- The counts that are kept of messages in memory are those of the lists still, and nothing is unread that
-- was read, where no row comes or goes.
use Rattle.std.proofs.Common.{◌≡◌, ℕ, ◌+◌, ◌-◌, List, [], ◌∷◌, length, map, true, false, Option, Some, None, inl, inr, refl, sym, ap, ◌∙◌, arith, subst}
use Rattle.std.specs.List.{list_all}
use Rattle.std.specs.Option.{option_map_or}
use Rattle.std.specs.Prelude.{count_by}
use Rattle.q_laws.proofs.Members.{IsIn, all_at, find_none_from, in_map, none_at}
use Rattle.q_laws.specs.Consistency.{is_present}
use Rattle.q_ledger.specs.Beside.{IsCounted, recipients_in, recounted, rows_in}
use Rattle.q_ledger.specs.Slots.{row_of_slot}
use Rattle.q_ledger.specs.State.{State}
use Rattle.q_ledger.specs.declared.admitted.Slot.{Slot}
use Rattle.q_model.specs.declared.id.Id.{Id}
use Rattle.q_model.specs.declared.rows.Admitted.{Admitted}
use Rattle.q_model.specs.declared.rows.Delivery.{Delivery}
use Rattle.q_model.specs.declared.rows.Row.{Row}
use Rattle.q_model.specs.declared.rows.Unsettled.{Unsettled}
use Rattle.q_model.specs.Book.{message_of}
use Rattle.q_model.specs.Ids.{id_eq}
use Rattle.q_model.specs.Ledger.{Ledger}
use Rattle.q_model.specs.Memory.{admitted_of, is_admitted, unread_count, unread_of}
use Rattle.q_model.specs.Message.{Message}
use Rattle.q_model.specs.Places.{is_active}

-- ---- lists that a function leaves as they are

pub fixed_at : {A : Type 0} (f : A → A) (x : A) (xs : List A) → xs ≡ map f xs → IsIn x xs → f x ≡ x
fixed_at f x [] h k = absurd k
fixed_at f x (y ∷ ys) h (inl e) = let same : y ≡ f y = cc in ap f (sym e) ∙ sym same ∙ e
fixed_at f x (y ∷ ys) h (inr k) = let rest : ys ≡ map f ys = cc in fixed_at f x ys rest k

pub fixed_from : {A : Type 0} (f : A → A) (xs : List A) → ((x : A) → IsIn x xs → f x ≡ x) → xs ≡ map f xs
fixed_from f [] h = refl
fixed_from f (x ∷ xs) h = ap (λ y. y ∷ xs) (sym (h x (inl refl))) ∙ ap (λ ys. f x ∷ ys) (fixed_from f xs (λ y k. h y (inr k)))

-- ---- rows

-- the rows are the same
pub record KeepsRows (b l : Ledger) : Type 0 where
  pub waiting : l.waiting ≡ b.waiting
  pub flights : l.flights ≡ b.flights
  pub unsettled : l.unsettled ≡ b.unsettled
  pub served : l.served ≡ b.served

pub rows_same : (b l : Ledger) → KeepsRows b l → (id : Id) → rows_in l id ≡ rows_in b id
rows_same b l h id =
    ap (λ (rs : List Row). count_by (λ r. id_eq r.id id) rs + count_by (λ f. id_eq f.row.id id) l.flights + count_by (λ u. id_eq u.id id) l.unsettled) h.waiting
    ∙ ap (λ (fs : List Delivery). count_by (λ r. id_eq r.id id) b.waiting + count_by (λ f. id_eq f.row.id id) fs + count_by (λ u. id_eq u.id id) l.unsettled) h.flights
    ∙ ap (λ (us : List Unsettled). count_by (λ r. id_eq r.id id) b.waiting + count_by (λ f. id_eq f.row.id id) b.flights + count_by (λ u. id_eq u.id id) us) h.unsettled

pub recounted_same : (b l : Ledger) (s : Slot) → KeepsRows b l → recipients_in l s.id ≡ recipients_in b s.id → recounted l s ≡ recounted b s
recounted_same b l s h count =
    ap (λ (n : ℕ). record s { recipients = n; rows = rows_in l s.id }) count
    ∙ ap (λ (n : ℕ). record s { recipients = recipients_in b s.id; rows = n }) (rows_same b l h s.id)

-- those that were kept are counted still, where their messages have as many recipients
pub counted_still : (s : State) (l : Ledger) (slots : List Slot) → KeepsRows s.ledger l → IsCounted s →
    ((x : Slot) → IsIn x slots → IsIn x s.slots × (recipients_in l x.id ≡ recipients_in s.ledger x.id)) → slots ≡ map (recounted l) slots
counted_still s l slots h c kept = fixed_from (recounted l) slots
    (λ x inside. let two = kept x inside in recounted_same s.ledger l x h two.1 ∙ fixed_at (recounted s.ledger) x s.slots c.slots two.0)

-- ---- what is unread

pub unread_counted : (l : Ledger) (a : Admitted) → unread_count l a ≡ recipients_in l a.id - a.unread
unread_counted l a = on (message_of l.book a.id)
  where
    on : (o : Option Message) → option_map_or (λ (m : Message). length m.recipients - a.unread) o 0 ≡ option_map_or (λ (m : Message). length m.recipients) o 0 - a.unread
    on None = omega arith
    on (Some m) = refl

-- as much of a message is unread, where it is in memory as before and has as many recipients
pub unread_same : (b l : Ledger) (id : Id) → admitted_of l id ≡ admitted_of b id → ((a : Admitted) → admitted_of b id ≡ Some a → recipients_in l a.id ≡ recipients_in b a.id) →
    unread_of l id ≡ unread_of b id
unread_same b l id same count = ap (λ (o : Option Admitted). option_map_or (λ (a : Admitted). unread_count l a) o 0) same ∙ on (admitted_of b id) refl
  where
    on : (o : Option Admitted) → admitted_of b id ≡ o → option_map_or (λ (a : Admitted). unread_count l a) o 0 ≡ option_map_or (λ (a : Admitted). unread_count b a) o 0
    on None e = refl
    on (Some a) e = unread_counted l a ∙ ap (λ n. n - a.unread) (count a e) ∙ sym (unread_counted b a)

-- nothing is unread of a message that isn't in memory
pub unread_absent : (b : Ledger) (id : Id) → is_admitted b id ≡ false → unread_of b id ≡ 0
unread_absent b id out = ap (λ (o : Option Admitted). option_map_or (λ (a : Admitted). unread_count b a) o 0)
    (find_none_from (λ (a : Admitted). id_eq a.id id) b.admitted (λ a inside. none_at (λ (x : Admitted). id_eq x.id id) a b.admitted out inside))

-- ---- who is in memory

-- what is kept of a message is kept of one in memory
pub slot_admitted : (s : State) → IsCounted s → (x : Slot) → IsIn x s.slots → IsIn (row_of_slot x) s.ledger.admitted
slot_admitted s c x inside = subst (IsIn (row_of_slot x)) (sym c.admitted) (in_map row_of_slot x s.slots inside)

-- a message in memory stands
pub admitted_stands : (b : Ledger) (a : Admitted) → list_all (is_present b) b.admitted ≡ true → IsIn a b.admitted → (m : Message) × (message_of b.book a.id ≡ Some m) × (is_active m.place ≡ true)
admitted_stands b a present inside = on (message_of b.book a.id) refl (all_at (is_present b) a b.admitted present inside)
  where
    on : (o : Option Message) → message_of b.book a.id ≡ o → option_map_or (λ (m : Message). is_active m.place) o false ≡ true → (m : Message) × (message_of b.book a.id ≡ Some m) × (is_active m.place ≡ true)
    on None e h = absurd cc
    on (Some m) e h = (m, e, h)
