use Rattle.std.proofs.Common.{length, refl, rules}
use Rattle.q_link.specs.Views.{ForRead}
use Rattle.q_link.specs.contracts.script_link.ScriptLink.{the_view}
use Rattle.q_link.proofs.LinkSteps.{fails_since, took, waited}
use Rattle.q_link.proofs.ScriptWaits.{read_later_left, took_left}
use Rattle.q_link.proofs.script_link.ScriptLinkLink.read.Goals as goal

pub returns-in-Took-clause-reads : goal.returns-in-Took-clause-reads
returns-in-Took-clause-reads c =
    let left = took_left _ c.args.self.now c.take.new.self.rest (length c.args.buf.now) c.in-Took.count c.self.view_is refl c.in-Took.ensures.rest c.in-Took.ensures.answer in
    (c.in-Took.ensures.bytes.0, c.in-Took.ensures.bytes.1, took c.args.self.now.view _ _ (search rules) left)

pub returns-in-NotYet-clause-reads : goal.returns-in-NotYet-clause-reads
returns-in-NotYet-clause-reads c =
    let left = read_later_left _ c.args.self.now c.take.new.self.rest (length c.args.buf.now) c.self.view_is refl c.in-NotYet.ensures.rest c.in-NotYet.ensures.answer in
    waited c.args.self.now.view (the_view (record c.self.inside { playback = c.take.new.self })).view c.put_off.new.self.view ForRead c.put_off.ensures.view (search rules) left

pub returns-in-Failed-clause-reads : goal.returns-in-Failed-clause-reads
returns-in-Failed-clause-reads c = fails_since _ c.args.self.now.view c.fail.new.self.view c.fail.ensures.counted (search rules)
