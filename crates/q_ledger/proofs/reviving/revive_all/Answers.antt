use Rattle.std.proofs.Common.{ap, ◌∙◌, sym, slice_set}
use Rattle.std.proofs.lemmas.List.Edits.{map_over_more}
use Rattle.q_ledger.specs.Woken.{revived_if_dead}
use Rattle.q_ledger.proofs.reviving.revive_all.Goals as goal

pub loop-noted-preserved : goal.loop-noted-preserved
loop-noted-preserved c =
    let f = revived_if_dead c.args.params.now c.args.flights.now in
    ap (slice_set c.loop-noted.sites c.loop-noted.noted-index) (c.revive_if_dead.ensures ∙ ap f (sym c.noted-item.is))
    ∙ map_over_more f c.args.sites.now c.loop-noted.sites c.loop-noted.noted-index c.noted-item.result c.loop-noted-test.true c.loop-noted.invariant c.noted-item.is
