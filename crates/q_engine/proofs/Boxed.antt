-- What is known of a core holds of what its box lends.
use Rattle.std.proofs.Common.{◌≡◌, subst, sym}
use Rattle.q_core.specs.Agrees.{Agrees}
use Rattle.q_core.specs.declared.state.Core.{Core}
use Rattle.q_model.specs.Ledger.{Ledger}
use Rattle.q_model.specs.Settings.{World}

pub lent_agrees : (w : World) (l : Ledger) (lent core : Core) → lent ≡ core → Agrees w core l → Agrees w lent l
lent_agrees w l lent core same h = subst (λ (k : Core). Agrees w k l) (sym same) h
