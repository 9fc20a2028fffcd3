-- What is known of the slots of an agent.
use Rattle.std.proofs.Common.{◌≡◌, ℕ, zero, suc, ◌<◌, ◌≤◌, true, false, not, List, [], ◌∷◌, length, map, find, nat_lt, take, drop, get_or, slice_get, Option, Some, sym, ap, subst, ◌∙◌, ◌==◌, arith, lt-ltb, le-ltb}
use Rattle.std.proofs.lemmas.List.{take-append-drop}
use Rattle.std.proofs.lemmas.Option.{slice_get_past, slice_get_within}
use Rattle.std.specs.List.{AllByRecursion}
use Rattle.std.specs.Option.{option_map, option_or}
use Rattle.std.specs.Prelude.{IsSome}
use Rattle.slab.specs.Slab.{get, Slab}
use Rattle.q_link.specs.Views.{View}
use Rattle.q_agent.specs.Places.{IsNext, Parts}
use Rattle.q_model.proofs.EachLaws.{any-map}
use Rattle.q_agent.specs.Sessions.{IsSound, OpenSession, Rises, Sessions, is_sweep_over, next_polled}
use Rattle.q_agent.specs.Slots.{Holds, shown, shown_at}
use Rattle.q_agent.specs.declared.delivery_session.DeliverySession.{DeliverySession}
use Rattle.q_agent.specs.declared.slot.Slot.{Slot}
use Rattle.q_agent.proofs.Rising.{nondecreasing}
use Rattle.q_agent.proofs.SessionLaws.{end_is, next_mapped}
use Rattle.q_agent.proofs.SlotLaws.{shown_there}
use Rattle.q_agent.proofs.Splits.{at_drop, each_before, each_from, find_from}

pub some_at : {A : Type 0} (xs : List A) (i : ℕ) (x : A) → i < length xs → x ≡ get_or xs i x → slice_get xs i ≡ Some x
some_at [] i x within is = absurd (omega (arith, within))
some_at (y ∷ ys) zero x within is = ap Some (sym is)
some_at (y ∷ ys) (suc i) x within is = some_at ys i x (omega (arith, within)) is

pub each_some : {A : Type 0} (P : A → Type 0) (xs : List A) (i : ℕ) (x : A) → AllByRecursion P xs → slice_get xs i ≡ Some x → P x
each_some P [] i x each h = absurd cc
each_some P (y ∷ ys) zero x each h = let same : y ≡ x = cc in subst P same each.0
each_some P (y ∷ ys) (suc i) x each h = each_some P ys i x each.1 h

-- ---- the next slot

none_before : (slots : List Slot) (polled place : ℕ) → place ≤ length slots → Parts polled slots place → AllByRecursion (λ (e : Slot). nat_lt polled e.number ≡ false) (take place slots)
none_before slots polled place within point = each_before (λ (e : Slot). nat_lt polled e.number ≡ false) slots place (λ k d lt. le-ltb polled (get_or slots k d).number (point.0 k d (omega arith) lt)) within

all_from : (slots : List Slot) (polled place : ℕ) → Parts polled slots place → AllByRecursion (λ (e : Slot). nat_lt polled e.number ≡ true) (drop place slots)
all_from slots polled place point = each_from (λ (e : Slot). nat_lt polled e.number ≡ true) slots place (λ k d ge lt. lt-ltb polled (get_or slots k d).number (point.1 k d ge lt))

first_above : (slots : List Slot) (polled place : ℕ) → place ≤ length slots → Parts polled slots place → find (λ (e : Slot). nat_lt polled e.number) slots ≡ slice_get slots place
first_above slots polled place within point =
    ap (find (λ (e : Slot). nat_lt polled e.number)) (sym (take-append-drop place slots))
    ∙ find_from (λ (e : Slot). nat_lt polled e.number) (take place slots) (drop place slots) (none_before slots polled place within point) (all_from slots polled place point)
    ∙ at_drop slots place

pub next_at : (slots : List Slot) (polled place : ℕ) (slot : Slot) → place ≤ length slots → Parts polled slots place → slice_get slots place ≡ Some slot → IsNext polled slots place slot
next_at slots polled place slot within point at = record {
  within = slice_get_within slots place slot at;
  stands = at;
  next = ap (λ (o : Option Slot). option_or o (slice_get slots 0)) (first_above slots polled place within point ∙ at);
}

-- where none is above the number, the first of all
pub next_first : (slots : List Slot) (polled place : ℕ) (slot : Slot) → place ≤ length slots → Parts polled slots place → length slots ≤ place → slice_get slots 0 ≡ Some slot → IsNext polled slots 0 slot
next_first slots polled place slot within point past at = record {
  within = slice_get_within slots 0 slot at;
  stands = at;
  next = ap (λ (o : Option Slot). option_or o (slice_get slots 0)) (first_above slots polled place within point ∙ slice_get_past slots place past) ∙ at;
}

module _ {L : Type 0} (view : L → View) where
  pub rising : (slab : Slab (DeliverySession L)) (slots ss : List Slot) → Holds view slab slots → ss ≡ slots → (i j : ℕ) (d : Slot) → i ≤ j → j < length ss → (get_or ss i d).number ≤ (get_or ss j d).number
  rising slab slots ss holds same = nondecreasing (λ (e : Slot). e.number) ss (subst (λ (es : List Slot). Rises (map (λ (e : Slot). e.number) es)) (sym same) holds.rise)

  pub over_is : (slab : Slab (DeliverySession L)) (slots : List Slot) (polled place : ℕ) (s : Sessions) → record { listed = map (shown_at view slab) slots; polled = polled } ≡ s
      → place ≤ length slots → Parts polled slots place → (place == length slots) ≡ is_sweep_over s
  over_is slab slots polled place s is within point =
      end_is (λ (e : Slot). nat_lt polled e.number) slots place within (none_before slots polled place within point) (all_from slots polled place point)
      ∙ ap not (sym (any-map (λ (o : OpenSession). nat_lt polled o.number) (shown_at view slab) slots))
      ∙ ap is_sweep_over is

  -- the session of a slot, and the one that is polled next
  pub sound_at : (slab : Slab (DeliverySession L)) (slots : List Slot) (place : ℕ) (e : Slot) (h : DeliverySession L) → Holds view slab slots → slice_get slots place ≡ Some e → get slab e.key ≡ Some h → IsSound (shown view e.number h)
  sound_at slab slots place e h holds at there = subst IsSound (shown_there view slab e h there) (each_some (λ (s : Slot). IsSound (shown_at view slab s)) slots place e holds.sound at)

  pub there_at : (slab : Slab (DeliverySession L)) (slots : List Slot) (place : ℕ) (e : Slot) → Holds view slab slots → slice_get slots place ≡ Some e → IsSome (get slab e.key)
  there_at slab slots place e holds at = each_some (λ (s : Slot). IsSome (get slab s.key)) slots place e holds.there at

  pub next_shown : (slab : Slab (DeliverySession L)) (slots : List Slot) (polled place : ℕ) (e : Slot) (h : DeliverySession L) (s : Sessions) → record { listed = map (shown_at view slab) slots; polled = polled } ≡ s
      → IsNext polled slots place e → get slab e.key ≡ Some h → next_polled s ≡ Some (shown view e.number h)
  next_shown slab slots polled place e h s is next there =
      ap next_polled (sym is)
      ∙ next_mapped (shown_at view slab) slots polled
      ∙ ap (option_map (shown_at view slab)) next.next
      ∙ ap Some (shown_there view slab e h there)

  pub over_same : (slab : Slab (DeliverySession L)) (slots ss : List Slot) (polled place : ℕ) (s : Sessions) → record { listed = map (shown_at view slab) slots; polled = polled } ≡ s → ss ≡ slots
      → place ≤ length ss → Parts polled ss place → (place == length ss) ≡ is_sweep_over s
  over_same slab slots ss polled place s is same within point =
      over_is slab ss polled place s (ap (λ (es : List Slot). record { listed = map (shown_at view slab) es; polled = polled }) same ∙ is) within point
