-- What a request does to the sessions of an agent.
use Rattle.std.proofs.Common.{◌≡◌, ℕ, ◌≤◌, false, List, length, map, Some, None, Result, Ok, Err, IsOk, is_ok, if◌then◌else◌, sym, ap, subst, ◌∙◌}
use Rattle.std.specs.Prelude.{insert}
use Rattle.slab.specs.Slab.{get, Slab, Updates}
use Rattle.q_link.specs.Views.{View}
use Rattle.q_agent.specs.Places.{Parts}
use Rattle.q_agent.specs.Sessions.{IsSound, OpenSession, Sessions, has_number, inserted, with_session}
use Rattle.q_agent.specs.Slots.{Holds, shown, shown_at}
use Rattle.q_agent.specs.declared.delivery_session.DeliverySession.{DeliverySession}
use Rattle.q_agent.specs.declared.slot.Slot.{Slot}
use Rattle.q_agent.proofs.SlotChanges.{Becomes, come}

module _ {L : Type 0} (view : L → View) where
  abbrev sessions_of : Slab (DeliverySession L) → List Slot → ℕ → Sessions
  sessions_of slab slots polled = record { listed = map (shown_at view slab) slots; polled = polled }

  -- more room changes nothing
  holds_roomy : (old : Slab (DeliverySession L)) (capacity : ℕ) (slots : List Slot) → Holds view old slots → Holds view (record old { capacity = capacity }) slots
  holds_roomy old capacity slots holds = record { rise = holds.rise; differ = holds.differ; there = holds.there; sound = holds.sound }

  -- one comes to the sessions that an agent holds
  pub comes : (old mid new : Slab (DeliverySession L)) (slots ss left : List Slot) (polled place : ℕ) (e : Slot) (h : DeliverySession L) (s : Sessions)
      → Holds view old slots → sessions_of old slots polled ≡ s → mid ≡ record old { capacity = mid.capacity } → get mid e.key ≡ None → Updates mid new e.key (Some h)
      → ss ≡ slots → place ≤ length ss → Parts e.number ss place → has_number e.number s.listed ≡ false → IsSound (shown view e.number h)
      → left ≡ insert slots place e → Becomes view new left (inserted (shown view e.number h) s.listed)
  comes old mid new slots ss left polled place e h s holds is kept vacant u same within point fresh sound left_is =
      let shows : map (shown_at view mid) slots ≡ s.listed = ap (λ (x : Slab (DeliverySession L)). map (shown_at view x) slots) kept ∙ ap (λ (x : Sessions). x.listed) is in
      let made = come view mid new slots place e h (subst (λ (x : Slab (DeliverySession L)). Holds view x slots) (sym kept) (holds_roomy old mid.capacity slots holds)) vacant u
      (subst (λ (xs : List Slot). place ≤ length xs) same within) (subst (λ (xs : List Slot). Parts e.number xs place) same point)
      (ap (has_number e.number) shows ∙ fresh) sound in
      subst (λ (xs : List Slot). Becomes view new xs (inserted (shown view e.number h) s.listed)) (sym left_is)
      (subst (λ (os : List OpenSession). Becomes view new (insert slots place e) (inserted (shown view e.number h) os)) shows made)

  pub opened : (new : Slab (DeliverySession L)) (left : List Slot) (polled : ℕ) (e : Slot) (h : DeliverySession L) (s : Sessions) (old : Slab (DeliverySession L)) (slots : List Slot) → sessions_of old slots polled ≡ s → Becomes view new left (inserted (shown view e.number h) s.listed)
      → sessions_of new left polled ≡ with_session (shown view e.number h) s
  opened new left polled e h s old slots is b =
      ap (λ (os : List OpenSession). record { listed = os; polled = polled }) b.shows
      ∙ ap (λ (n : ℕ). record { listed = inserted (shown view e.number h) s.listed; polled = n }) (ap (λ (x : Sessions). x.polled) is)

-- an insert that had room
pub inserts : {T E : Type 0} {A : Type 0} (r : Result T E) (left olds xs : List A) (place : ℕ) (x : A) → left ≡ (if is_ok r then insert olds place x else olds) → IsOk r → olds ≡ xs → left ≡ insert xs place x
inserts (Ok y) left olds xs place x is ok same = is ∙ ap (λ zs. insert zs place x) same
inserts (Err e) left olds xs place x is ok same = absurd cc
