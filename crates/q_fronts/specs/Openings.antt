-- With which entry a run on an empty spool begins.
use Rattle.std.specs.Prelude.{◌&&◌, ◌≡◌, [], ◌-◌, ◌^◌, Bool, false, nat_lt, true, ℕ, ◌∷◌}
use Rattle.q_fronts.specs.Fronts.{empty_at, IsFront, IsLedgerAfter}
use Rattle.q_model.specs.declared.entry.Entry.{Entry}
use Rattle.q_model.specs.declared.event.Mode.{Mode}
use Rattle.q_model.specs.Ledger.{opening}
use Rattle.q_model.specs.Settings.{World}
use Rattle.q_model.specs.Step.{after}
use Rattle.q_model.specs.declared.entry.Entry.TheVariants as entries

-- a life of a generation that there is: at least 1, and below 2^32
abbrev pub opens : Entry → Bool
opens (entries.Life generation mode) = nat_lt 0 generation && nat_lt generation (2 ^ 32)
opens _ = false

-- An entry alone is the front of a run exactly where it begins such a life.
abbrev pub FrontsOpen : Type 0
FrontsOpen = (w : World) (e : Entry)
    → (IsFront w (e ∷ []) → opens e ≡ true) × (opens e ≡ true → IsFront w (e ∷ []))

-- The ledger behind it is that of the life on an empty spool.
abbrev pub LedgersOpen : Type 0
LedgersOpen = (w : World) (generation : ℕ) (mode : Mode) → opens (entries.Life generation mode) ≡ true
    → IsLedgerAfter w (entries.Life generation mode ∷ [])
    (after w (opening mode (empty_at (generation - 1))) (entries.Life generation mode))
