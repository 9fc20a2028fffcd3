-- Where the entries of a trace stop to be the front of a run on an empty spool.
use Rattle.std.specs.Prelude.{◌++◌, ◌≡◌, [], List, Some, slice_get, take, ℕ, ◌∷◌}
use Rattle.q_fronts.specs.Fronts.{IsFront, IsLedgerAfter}
use Rattle.q_fronts.specs.Rules.{rule_in}
use Rattle.q_model.specs.declared.entry.Entry.{Entry}
use Rattle.q_model.specs.Ledger.{Ledger}
use Rattle.q_model.specs.Settings.{World}

-- The first `count` entries are a front, and with the next one they are none; that breaks this rule.
pub record IsBroken (w : World) (es : List Entry) (count rule : ℕ) : Type 0 where
  pub entry : Entry
  pub is : slice_get es count ≡ Some entry
  pub front : IsFront w (take count es)
  pub breaks : IsFront w (take count es ++ entry ∷ []) → ⊥
  pub named : (l : Ledger) → IsLedgerAfter w (take count es) l → rule ≡ rule_in w l entry
