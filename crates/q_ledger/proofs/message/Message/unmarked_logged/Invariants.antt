use Rattle.std.proofs.Common.{◌≡◌, slice_get}
use Rattle.q_model.specs.Message.{unmarked_logged}
use Rattle.q_ledger.specs.Pending.{lacks_mark, positions_behind}
use Rattle.q_ledger.proofs.message.Message.unmarked_logged.Given as goal

abbrev pub invariant-loop-position : goal.invariant-loop-position
invariant-loop-position l = slice_get (unmarked_logged l.fn.self) 0 ≡ slice_get (positions_behind l.fn.self (lacks_mark l.fn.self) l.position) 0
