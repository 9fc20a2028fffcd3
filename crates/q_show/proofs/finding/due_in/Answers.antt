use Rattle.std.proofs.Common.{◌∙◌, sym}
use Rattle.q_show.proofs.DueTimes.{not_apart, one_name}
use Rattle.q_show.proofs.finding.due_in.Goals as goal

pub returns-then-ne-clause-none : goal.returns-then-ne-clause-none
returns-then-ne-clause-none c due fits form says =
    let moment = c.in_ok-due.ensures.some in
    let same = one_name due c.in_ok-due.due c.args.id c.in_ok-due.other c.args.name fits moment.0 form moment.1 moment.2 says in
    not_apart c.in_ok-due.other c.args.id same (sym c.ne.ensures ∙ c.if-ne.true)
