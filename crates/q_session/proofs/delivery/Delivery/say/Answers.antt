use Rattle.std.proofs.Common.{◌≡◌, List, ℕ, get_or, ap, subst}
use Rattle.q_session.specs.Outgoing.{Outgoing}
use Rattle.q_session.proofs.Commands.{rcpt_said}
use Rattle.q_session.proofs.delivery.Delivery.say.Goals as goal

pub returns-in-Rcpt : goal.returns-in-Rcpt
returns-in-Rcpt c =
    let self = c.args.self.now in
    let address = c.index-as_slice-place.result in
    ap (λ (o : Outgoing). record self { outbox = o }) (rcpt_said self.sender self.to c.args.command c.in-Rcpt.place address c.bytes-in-Rcpt.result.now c.clear.new.self c.add-in-Rcpt.new.self c.add-in-Rcpt-2.new.self c.add-in-Rcpt-3.new.self
    c.in-Rcpt.is (c.requires.place c.in-Rcpt.place c.in-Rcpt.is) (subst (λ (to : List (List ℕ)). address ≡ get_or to c.in-Rcpt.place address) c.as_slice.ensures c.index-as_slice-place.is)
    c.bytes-in-Rcpt.ensures.same c.clear.ensures c.add-in-Rcpt.ensures c.add-in-Rcpt-2.ensures c.add-in-Rcpt-3.ensures)
