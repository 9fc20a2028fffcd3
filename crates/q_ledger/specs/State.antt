-- What the lists of a recount say: a ledger without contents and past entries, and what is kept beside
-- it so that nothing walks along all rows.
use Rattle.std.specs.Prelude.{List, Option}
use Rattle.q_model.specs.declared.id.Id.{Id}
use Rattle.q_model.specs.Ledger.{Ledger}
use Rattle.q_model.specs.Values.{Site}
use Rattle.q_ledger.specs.declared.admitted.Slot.{Slot}

pub record State : Type 0 where
  pub ledger : Ledger
  pub slots : List Slot
  pub leftovers : List Id
  pub left : Option Site
