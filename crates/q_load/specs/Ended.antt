-- How many deliveries of a ledger have ended.
use Rattle.std.specs.Prelude.{◌+◌, ◌^◌, ◌≤◌, length, ℕ}
use Rattle.q_model.specs.Ledger.{Ledger}
use Rattle.q_model.specs.Past.{starts}

-- So many have: with those in flight they are no more than began, and 2^48 at most began.
pub record HasEnded (ended : ℕ) (l : Ledger) : Type 0 where
  pub began : ended + length l.flights ≤ starts l
  pub few : starts l ≤ 2 ^ 48
