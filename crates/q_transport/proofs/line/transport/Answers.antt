use Rattle.std.proofs.Common.{sym, ◌∙◌}
use Rattle.q_transport.proofs.NameLaws.{new_transport}
use Rattle.q_transport.proofs.line.transport.Goals as goal

pub returns : goal.returns
returns c = new_transport c.args.name.now c.new.result (sym c.is_transport.ensures ∙ c.if-not-is_transport.false) c.new.ensures
