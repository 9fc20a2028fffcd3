-- What is told after a change was told, or is told no more.
use Rattle.std.proofs.Common.{◌≡◌, ℕ, Bool, true, false, Option, Some, None, refl}
use Rattle.std.specs.Prelude.{◌==◌, ◌^◌, ◌-◌, if◌then◌else◌, option_map}
use Rattle.q_link.specs.ScriptLinks.{told_more}

pub tells_map : {T : Type 0} (change : T → T) (old : Option T) (now : T) → option_map change old ≡ Some now → (before : T) × (old ≡ Some before) × (now ≡ change before)
tells_map change None now is = cc
tells_map change (Some t) now is = (t, refl, cc)

unless : {T : Type 0} (change : T → T) (t : T) (b : Bool) (now : T) → (if b then None else Some (change t)) ≡ Some now → (before : T) × (Some t ≡ Some before) × (now ≡ change before)
unless change t true now is = cc
unless change t false now is = (t, refl, cc)

pub tells_more : {T : Type 0} (number : T → ℕ) (change : T → T) (old : Option T) (now : T) → told_more number change old ≡ Some now → (before : T) × (old ≡ Some before) × (now ≡ change before)
tells_more number change None now is = cc
tells_more number change (Some t) now is = unless change t (number t == (2 ^ 64 - 1)) now is
