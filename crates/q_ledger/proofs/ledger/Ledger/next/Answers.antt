use Rattle.std.proofs.Common.{◌∙◌}
use Rattle.std.proofs.lemmas.Result.{IfOk-weaker}
use Rattle.q_ledger.proofs.NextLaws.{next_same}
use Rattle.q_ledger.proofs.ledger.Ledger.next.Goals as goal

pub returns : goal.returns
returns c = λ n k beside accounts lines.
    IfOk-weaker c.decide.result _ _ (λ o is. is ∙ next_same c.args.world.now c.args.self.now c.args.accounts.now n c.what_is_found.ensures k beside accounts lines c.is_whole.ensures)
    (c.decide.ensures k.fits.consistent.usable.mark_sync_limit)
