-- What came to a ledger.
use Rattle.std.specs.Prelude.{◌≡◌, true, ℕ}
use Rattle.q_model.specs.Ledger.{Ledger}
use Rattle.q_model.specs.Past.{arrivals}

-- a moment came, and so many mails
pub record HasTaken (mails : ℕ) (l : Ledger) : Type 0 where
  pub timed : l.timed ≡ true
  pub arrived : arrivals l ≡ mails
