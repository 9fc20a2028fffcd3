use Rattle.std.proofs.Common.{◌≡◌, ◌∙◌, ap, length, rules, sym}
use Rattle.q_ledger.proofs.ReplyLaws.{reply_steps}
use Rattle.q_ledger.specs.Counting.{rows_counted}
use Rattle.q_ledger.specs.Settled.{sites_heard, with_left, with_sites, without_flight}
use Rattle.q_ledger.specs.State.{State}
use Rattle.q_ledger.specs.Worlds.{world_of}
use Rattle.q_ledger.proofs.ledger.Ledger.settle_reply.Goals as goal

pub returns-clause-replied : goal.returns-clause-replied
returns-clause-replied c =
    let w = world_of c.args.world.now in
    let f = c.in-Some.delivery.now in
    let heard = λ (s : State). with_sites (sites_heard w s.ledger f.row.site c.args.state) s in
    let counted = λ (s : State). rows_counted f.row.id c.len.result 1 s in
    let count : c.len.result ≡ length c.in_ok-found.found.items = search rules in
    c.leave.ensures
    ∙ ap (with_left f.row.site) (c.count_rows.ensures ∙ ap counted (c.land.ensures ∙ ap (without_flight c.args.number) (c.hear_state.ensures ∙ ap heard c.in_ok-add_unsettled.ensures.added)))
    ∙ reply_steps w c.args.self.now c.args.number c.args.state c.args.outcomes.now f c.deref.result.now c.len.result (sym c.in-Some.ensures) (c.deref.ensures.value ∙ c.in_ok-found.ensures) (count ∙ ap length (sym c.deref.ensures.value))
