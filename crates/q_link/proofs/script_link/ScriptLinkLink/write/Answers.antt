use Rattle.std.proofs.Common.{arith, length, refl, rules}
use Rattle.q_link.specs.Views.{ForWrite}
use Rattle.q_link.specs.contracts.script_link.ScriptLink.{the_view}
use Rattle.q_link.proofs.LinkSteps.{gave, waited, whole}
use Rattle.q_link.proofs.ScriptWaits.{left_by_writes}
use Rattle.q_link.proofs.script_link.ScriptLinkLink.write.Goals as goal

pub returns-in-Gave-clause-writes : goal.returns-in-Gave-clause-writes
returns-in-Gave-clause-writes c =
    let all = whole c.self.inside.writes (length c.args.bytes.now) c.in-Gave.count c.in-Gave.ensures.answer in
    let left = left_by_writes _ c.args.self.now c.next.new.self 0 c.self.view_is refl c.in-Gave.ensures.spares in
    (omega (arith, all, c.requires.some), omega (arith, all), gave c.args.self.now.view (the_view (record c.self.inside { writes = c.next.new.self })).view c.keep_sent.new.self.view c.args.bytes.now c.in-Gave.count all c.keep_sent.ensures.view (search rules) left)

pub returns-in-NotYet-clause-writes : goal.returns-in-NotYet-clause-writes
returns-in-NotYet-clause-writes c =
    let left = left_by_writes _ c.args.self.now c.next.new.self 1 c.self.view_is refl (c.in-NotYet.ensures.spends refl) in
    waited c.args.self.now.view (the_view (record c.self.inside { writes = c.next.new.self })).view c.put_off.new.self.view ForWrite c.put_off.ensures.view (search rules) left
