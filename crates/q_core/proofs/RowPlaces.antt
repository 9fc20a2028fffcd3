-- The first row that passes, and the one list that keeps the positions of the row that was put off last.
use Rattle.std.proofs.Common.{◌≡◌, ◌∙◌, ◌<◌, ap, arith, Bool, cond, false, get_or, length, List, [], ◌∷◌, set, Some, subst, suc, sym, true, zero, ℕ}
use Rattle.std.proofs.lemmas.List.{get_or-set_same, length-set}
use Rattle.std.specs.List.{AllByRecursion, list_any}
use Rattle.std.specs.Prelude.{find, position, slice_get}
use Rattle.q_core.proofs.RowWalkLaws.{any_place}
use Rattle.q_core.specs.Rooms.{HasRoomForPositions}
use Rattle.q_model.specs.declared.rows.Row.{Row}
use Rattle.q_model.specs.Settings.{Settings}
use Rattle.q_positions.specs.Lists.{Lists}

pub record StandsFirst (p : Row → Bool) (rows : List Row) (row : Row) (place : ℕ) : Type 0 where
  pub there : slice_get rows place ≡ Some row
  pub first : position p rows ≡ Some place

pub stands_first : (p : Row → Bool) (rows : List Row) (row : Row) → find p rows ≡ Some row → list_any p rows ≡ true → (place : ℕ) × StandsFirst p rows row place
stands_first p rows row found any =
    let f = any_place p rows any in
    let both : Some f.1 ≡ Some row = sym f.2.found ∙ found in
    let is : f.1 ≡ row = cc in
    (f.0, record { there = f.2.there ∙ ap (λ (x : Row). Some x) is; first = f.2.place })

-- what holds of all holds of the one that is found
pub holds_found : {X : Type 0} (P : X → Type 0) (p : X → Bool) (xs : List X) (x : X) → find p xs ≡ Some x → AllByRecursion P xs → P x
holds_found P p [] x found h = cc
holds_found P p (y ∷ ys) x found h = step (λ e. holds_found P p ys x e h.1) (p y) found
  where
    step : (find p ys ≡ Some x → P x) → (b : Bool) → cond b (Some y) (find p ys) ≡ Some x → P x
    step rest true e = let same : y ≡ x = cc in subst P same h.0
    step rest false e = rest e

pub holds_there : {X : Type 0} (P : X → Type 0) (xs : List X) (i : ℕ) (x : X) → slice_get xs i ≡ Some x → AllByRecursion P xs → P x
holds_there P [] i x there h = cc
holds_there P (y ∷ ys) zero x there h = let same : y ≡ x = cc in subst P same h.0
holds_there P (y ∷ ys) (suc i) x there h = holds_there P ys i x there h.1

-- ---- the row that was put off last

pub last_kept : (kept new : Lists) (ps : List ℕ) → length kept.lists ≡ 1 → new ≡ record kept { lists = set kept.lists 0 ps } → get_or new.lists 0 [] ≡ ps
last_kept kept new ps one is =
    let some : 0 < length kept.lists = omega (arith, one) in
    ap (λ (v : Lists). get_or v.lists 0 []) is ∙ get_or-set_same kept.lists 0 ps [] some

pub room_kept : {p : Settings} {waiting flights : ℕ} {kept : Lists} {rows most places : ℕ} (ps : List ℕ) → HasRoomForPositions p waiting flights kept rows most places → HasRoomForPositions p waiting flights (record kept { lists = set kept.lists 0 ps }) rows most places
room_kept {kept = kept} ps h = record {
  waiting = h.waiting;
  flights = h.flights;
  last = length-set kept.lists 0 ps ∙ h.last;
  last_most = h.last_most;
  rows = h.rows;
  positions = h.positions;
  places = h.places;
}
