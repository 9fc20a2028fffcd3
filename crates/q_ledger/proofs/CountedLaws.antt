-- What is kept of messages in memory is counted after an entry, as it was before.
use Rattle.std.proofs.Common.{◌≡◌, ℕ, ◌+◌, ◌-◌, ◌^◌, Bool, true, false, List, [], ◌∷◌, map, min, refl, sym, ap, ◌∙◌, if◌then◌else◌}
use Rattle.q_ledger.specs.Beside.{IsCounted, recipients_in, recounted, rows_in}
use Rattle.q_ledger.specs.Counting.{count_changed, rows_counted}
use Rattle.q_ledger.specs.Slots.{row_of_slot}
use Rattle.q_ledger.specs.State.{State}
use Rattle.q_ledger.specs.declared.admitted.Slot.{Slot}
use Rattle.q_model.proofs.IdLaws.{id_eq-true}
use Rattle.q_model.specs.Ids.{id_eq}
use Rattle.q_model.specs.Ledger.{Ledger}
use Rattle.q_model.specs.declared.id.Id.{Id}

rows_of : (g : Slot → Slot) → ((x : Slot) → row_of_slot (g x) ≡ row_of_slot x) → (xs : List Slot) → map row_of_slot xs ≡ map row_of_slot (map g xs)
rows_of g h [] = refl
rows_of g h (x ∷ xs) = ap (λ r. r ∷ map row_of_slot xs) (sym (h x)) ∙ ap (λ rs. row_of_slot (g x) ∷ rs) (rows_of g h xs)

pub each_counted : (l k : Ledger) (g : Slot → Slot) → ((x : Slot) → x ≡ recounted l x → g x ≡ recounted k (g x)) → (xs : List Slot) → xs ≡ map (recounted l) xs → map g xs ≡ map (recounted k) (map g xs)
each_counted l k g h [] e = refl
each_counted l k g h (x ∷ xs) e =
    let first : x ≡ recounted l x = cc in
    let rest : xs ≡ map (recounted l) xs = cc in
    ap (λ y. y ∷ map g xs) (h x first) ∙ ap (λ ys. recounted k (g x) ∷ ys) (each_counted l k g h xs rest)

-- each slot changes so that its counts are those of the lists again
pub counted_by : (s t : State) (g : Slot → Slot) → IsCounted s → t.ledger.admitted ≡ s.ledger.admitted → t.slots ≡ map g s.slots →
    ((x : Slot) → row_of_slot (g x) ≡ row_of_slot x) → ((x : Slot) → x ≡ recounted s.ledger x → g x ≡ recounted t.ledger (g x)) → IsCounted t
counted_by s t g h admitted slots rows counts = record {
  admitted = admitted ∙ h.admitted ∙ rows_of g rows s.slots ∙ sym (ap (map row_of_slot) slots);
  slots = slots ∙ each_counted s.ledger t.ledger g counts s.slots h.slots ∙ sym (ap (map (recounted t.ledger)) slots);
}

map_itself : {X : Type 0} (xs : List X) → xs ≡ map (λ x. x) xs
map_itself [] = refl
map_itself (x ∷ xs) = ap (λ ys. x ∷ ys) (map_itself xs)

counts_same : (l k : Ledger) (x : Slot) → recipients_in k x.id ≡ recipients_in l x.id → rows_in k x.id ≡ rows_in l x.id → recounted l x ≡ recounted k x
counts_same l k x recipients rows =
    ap (λ n. record x { recipients = n; rows = rows_in l x.id }) (sym recipients) ∙ ap (λ n. record x { recipients = recipients_in k x.id; rows = n }) (sym rows)

-- no count changes
pub counted_still : (s t : State) → IsCounted s → t.ledger.admitted ≡ s.ledger.admitted → t.slots ≡ s.slots →
    ((id : Id) → recipients_in t.ledger id ≡ recipients_in s.ledger id) → ((id : Id) → rows_in t.ledger id ≡ rows_in s.ledger id) → IsCounted t
counted_still s t h admitted slots recipients rows =
    counted_by s t (λ x. x) h admitted (slots ∙ map_itself s.slots) (λ x. refl)
    (λ x e. e ∙ counts_same s.ledger t.ledger x (recipients x.id) (rows x.id))

-- ---- the rows of one message

abbrev changed_rows : ℕ → ℕ → Slot → Slot
changed_rows more fewer x = record x { rows = min (x.rows + more) (2 ^ 128 - 1) - fewer }

row_step : (more fewer : ℕ) (x : Slot) (b : Bool) → row_of_slot (if b then changed_rows more fewer x else x) ≡ row_of_slot x
row_step more fewer x true = refl
row_step more fewer x false = refl

-- the rows of the ledger's messages in memory stay
counted_admitted : (id : Id) (more fewer : ℕ) (xs : List Slot) → map row_of_slot xs ≡ map row_of_slot (map (count_changed id more fewer) xs)
counted_admitted id more fewer xs = rows_of (count_changed id more fewer) (λ x. row_step more fewer x (id_eq x.id id)) xs

-- the state with these slots
abbrev with_slots : State → List Slot → State
with_slots s xs = record s { ledger = record s.ledger { admitted = map row_of_slot xs }; slots = xs }

pub slots_counted : (id : Id) (more fewer : ℕ) (s : State) (xs : List Slot) → s.ledger.admitted ≡ map row_of_slot s.slots → xs ≡ map (count_changed id more fewer) s.slots → with_slots s xs ≡ rows_counted id more fewer s
slots_counted id more fewer s xs rows h =
    let ys = map (count_changed id more fewer) s.slots in
    ap (with_slots s) h ∙ ap (λ rs. record s { ledger = record s.ledger { admitted = rs }; slots = ys }) (sym (rows ∙ counted_admitted id more fewer s.slots))

-- the message's rows change as they are counted, and no other's
pub counted_rows : (s t : State) (id : Id) (more fewer : ℕ) → IsCounted s → t.ledger.admitted ≡ s.ledger.admitted → t.slots ≡ map (count_changed id more fewer) s.slots →
    ((i : Id) → recipients_in t.ledger i ≡ recipients_in s.ledger i) → ((i : Id) → id_eq i id ≡ false → rows_in t.ledger i ≡ rows_in s.ledger i) →
    rows_in t.ledger id ≡ min (rows_in s.ledger id + more) (2 ^ 128 - 1) - fewer → IsCounted t
counted_rows s t id more fewer h admitted slots recipients others rows =
    counted_by s t (count_changed id more fewer) h admitted slots (λ x. row_step more fewer x (id_eq x.id id)) (λ x e. which x e (id_eq x.id id) refl)
  where
    which : (x : Slot) → x ≡ recounted s.ledger x → (b : Bool) → id_eq x.id id ≡ b → (if b then changed_rows more fewer x else x) ≡ recounted t.ledger (if b then changed_rows more fewer x else x)
    which x e false other = e ∙ counts_same s.ledger t.ledger x (recipients x.id) (others x.id other)
    which x e true same =
        let mine : x.id ≡ id = id_eq-true x.id id same in
        let people : x.recipients ≡ recipients_in t.ledger x.id = ap (λ (y : Slot). y.recipients) e ∙ sym (recipients x.id) in
        let had : x.rows ≡ rows_in s.ledger id = ap (λ (y : Slot). y.rows) e ∙ ap (rows_in s.ledger) mine in
        let has : min (x.rows + more) (2 ^ 128 - 1) - fewer ≡ rows_in t.ledger x.id =
        ap (λ n. min (n + more) (2 ^ 128 - 1) - fewer) had ∙ sym rows ∙ ap (rows_in t.ledger) (sym mine) in
        ap (λ n. record x { recipients = n; rows = min (x.rows + more) (2 ^ 128 - 1) - fewer }) people
        ∙ ap (λ n. record x { recipients = recipients_in t.ledger x.id; rows = n }) has
