use Rattle.std.proofs.Common.{◌∙◌, ap, sym}
use Rattle.q_ledger.proofs.StartLaws.{not_sent}
use Rattle.q_ledger.specs.Sent.{sent_in}
use Rattle.q_ledger.specs.contracts.ledger.Ledger.{the_view}
use Rattle.q_ledger.proofs.ledger.Ledger.send.Goals as goal

pub returns-in_default-clause-sent : goal.returns-in_default-clause-sent
returns-in_default-clause-sent c =
    let id = c.args.id in
    let site = c.args.site.now in
    let positions = c.args.positions.now in
    not_sent (the_view c.self.inside) c.args.number id site positions c.take.new.self c.reserve.new.self.items c.reserve-2.new.self.items
    (sym (sym c.in_default.is ∙ c.take.ensures.row)) c.take.ensures.left c.reserve.ensures.items c.reserve-2.ensures.items
    ∙ ap (sent_in c.args.number id site positions) c.self.view_is
