use Rattle.std.proofs.Common.{ap, ◌∙◌, sym, slice_set}
use Rattle.std.proofs.lemmas.List.Edits.{map_over_more}
use Rattle.q_ledger.specs.Windows.{heard_at}
use Rattle.q_ledger.proofs.windows.hear_state.Goals as goal

pub loop-noted-preserved : goal.loop-noted-preserved
loop-noted-preserved c =
    let heard = heard_at c.args.params.now c.args.site.now c.args.busy c.args.clock.seconds c.args.state in
    ap (slice_set c.loop-noted.sites c.loop-noted.noted-index) (c.hear_at.ensures ∙ ap heard (sym c.noted-item.is))
    ∙ map_over_more heard c.args.sites.now c.loop-noted.sites c.loop-noted.noted-index c.noted-item.result c.loop-noted-test.true c.loop-noted.invariant c.noted-item.is
