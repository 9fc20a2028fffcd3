use Rattle.q_transport.proofs.EntryLaws.{added}
use Rattle.q_transport.proofs.entries.Entries.push.Goals as goal

pub returns-clause-ok : goal.returns-clause-ok
returns-clause-ok c = added c.args.pattern c.args.target c.self.inside.targets c.insert.new.self.entries c.args.self.now c.self.view_is c.requires c.in_ok-insert.ensures.entries
