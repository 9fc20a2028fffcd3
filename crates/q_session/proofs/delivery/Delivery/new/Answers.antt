use Rattle.q_session.proofs.Beginnings.{first_serves}
use Rattle.q_session.proofs.delivery.Delivery.new.Goals as goal

pub returns-clause-serves : goal.returns-clause-serves
returns-clause-serves c = first_serves c.args.spot c.args.file.now _ (record {
  sender = c.sender_of.ensures;
  awaited = c.in_ok-dialogue.ensures.awaited;
  unused = c.in_ok-inbox.ensures.0;
  replies = c.in_ok-inbox.ensures.2;
  outbox = c.in_ok-outbox.ensures;
  content = c.new-4.ensures;
})
