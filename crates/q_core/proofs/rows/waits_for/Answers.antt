use Rattle.std.proofs.Common.{◌∙◌, ap, sym}
use Rattle.std.specs.Prelude.{◌==◌, not}
use Rattle.q_core.proofs.PoolTies.{any_count}
use Rattle.q_core.specs.RowWalks.{is_row_for}
use Rattle.q_held.specs.Held.{rows_of}
use Rattle.q_core.proofs.rows.waits_for.Goals as goal

pub returns : goal.returns
returns c = ap (λ n. not (n == 0)) c.waiting_for.ensures.count ∙ sym (any_count (is_row_for c.args.id c.args.transport) (rows_of c.args.waiting.now.items))
