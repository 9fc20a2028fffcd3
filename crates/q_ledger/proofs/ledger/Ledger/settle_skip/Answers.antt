use Rattle.std.proofs.Common.{◌≡◌, ◌∙◌, ap, length, rules, sym}
use Rattle.q_ledger.proofs.SkipLaws.{skip_steps}
use Rattle.q_ledger.specs.Counting.{rows_counted}
use Rattle.q_ledger.specs.PutOff.{without_row}
use Rattle.q_ledger.specs.Settled.{with_left}
use Rattle.q_ledger.specs.State.{State}
use Rattle.q_ledger.specs.Worlds.{world_of}
use Rattle.q_ledger.proofs.ledger.Ledger.settle_skip.Goals as goal

pub returns-clause-skipped : goal.returns-clause-skipped
returns-clause-skipped c =
    let w = world_of c.args.world.now in
    let id = c.args.id in
    let site = c.args.site.now in
    let ps = c.args.positions.now in
    let counted = λ (s : State). rows_counted id c.len.result 1 s in
    let count : c.len.result ≡ length c.in_ok-found.found.items = search rules in
    c.leave.ensures
    ∙ ap (with_left site) (c.count_rows.ensures ∙ ap counted (c.unqueue.ensures ∙ ap (without_row id site ps) c.in_ok-add_unsettled.ensures.added))
    ∙ skip_steps w c.args.self.now id site ps c.deref.result.now c.len.result (c.deref.ensures.value ∙ c.in_ok-found.ensures) (count ∙ ap length (sym c.deref.ensures.value))
