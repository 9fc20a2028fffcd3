use Rattle.q_smtpd.proofs.Using.{written_once}
use Rattle.q_smtpd.proofs.session.Session.time_out.Goals as goal

pub returns-clause-uses : goal.returns-clause-uses
returns-clause-uses g c = written_once (g.L.Link.view c.args.link.now) (g.L.Link.view c.write.new.self) c.write.result c.timeout_line.result.now c.write.ensures.writes
