use Rattle.std.proofs.Common.{◌≡◌, slice_get}
use Rattle.q_model.specs.Message.{pending}
use Rattle.q_ledger.specs.Pending.{is_open, positions_behind}
use Rattle.q_ledger.proofs.message.Message.first_pending.Given as goal

abbrev pub invariant-loop-position : goal.invariant-loop-position
invariant-loop-position l = slice_get (pending l.fn.self) 0 ≡ slice_get (positions_behind l.fn.self (is_open l.fn.self) l.position) 0
