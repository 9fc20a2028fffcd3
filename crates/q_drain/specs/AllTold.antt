-- Between two calls each delivery that is over has its reply told.
use Rattle.std.specs.Prelude.{◌≡◌, ◌≢◌, [], List}
use Rattle.q_model.specs.Ledger.{Ledger}
use Rattle.q_model.specs.Settings.{World}
use Rattle.q_drain.specs.Cases.{Case, EachBehind, IsPlace, records_of, replies_of}
use Rattle.q_drain.specs.Stories.{Story}
use Rattle.q_drain.specs.Told.{Ended, ended}

-- the reply of a case was told
pub record IsTold (w : World) (l : Ledger) (s : Story) (earlier : List Ended) (c : Case) : Type 0 where
  pub place : IsPlace w l s earlier c
  pub told : c.behind ≢ []

-- the cases whose replies were told, in order, with their records
pub record AllTold (w : World) (l : Ledger) (s : Story) (cs : List Case) : Type 0 where
  pub replies : ended s.told ≡ replies_of cs
  pub records : s.records ≡ records_of cs
  pub places : EachBehind (IsTold w l s) [] cs
