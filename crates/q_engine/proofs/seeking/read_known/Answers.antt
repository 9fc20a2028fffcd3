use Rattle.q_books.proofs.Results.{if_ok}
use Rattle.q_message.specs.Told.{bytes_at}
use Rattle.q_engine.proofs.OpenRecipients.{leaves_at}
use Rattle.q_engine.proofs.seeking.read_known.Goals as goal

pub returns-then-known-from-clause-taken : goal.returns-then-known-from-clause-taken
returns-then-known-from-clause-taken g c = if_ok c.read_on.result (λ r taken t. taken c.args.from (λ s. leaves_at (bytes_at (g.H.Host.view c.args.host.now) c.args.spot) c.args.from c.args.known.now.next.position c.if-known-from.true) t) c.read_on.ensures.taken
