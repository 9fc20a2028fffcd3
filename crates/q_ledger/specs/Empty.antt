-- The ledger before the first life, on an empty spool.
use Rattle.std.specs.Prelude.{ℕ}
use Rattle.q_fronts.specs.Fronts.{empty_at}
use Rattle.q_model.specs.Ledger.{Ledger, opening}
use Rattle.q_model.specs.declared.event.Mode.TheVariants.{Deliver}

-- nothing is known but the last generation
abbrev pub empty_ledger : ℕ → Ledger
empty_ledger generation = opening Deliver (empty_at generation)
