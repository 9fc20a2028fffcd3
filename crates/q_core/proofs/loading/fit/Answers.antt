use Rattle.std.proofs.Common.{◌∙◌, arith}
use Rattle.q_core.proofs.LoadRooms.{by_lines, too_known, too_many}
use Rattle.q_core.proofs.loading.fit.Goals as goal

pub returns-then-spare-len : goal.returns-then-spare-len
returns-then-spare-len c =
    too_many c.args.waiting.now c.args.sites.now c.args.schedule.now c.args.id c.args.rows.now.rows
    (omega (arith, c.spare.ensures, c.len.ensures, c.stand_apart.ensures.within, c.if-spare-len.true))

pub returns-then-spare-len-2 : goal.returns-then-spare-len-2
returns-then-spare-len-2 c =
    too_known c.args.waiting.now c.args.sites.now c.args.schedule.now c.args.id c.args.rows.now.rows
    (omega (arith, c.spare.ensures, c.len.ensures, c.stand_apart.ensures.within, c.if-spare-len.false))
    (omega (arith, c.spare-2.ensures, c.len-2.ensures, c.stand_apart-2.ensures.within, c.if-spare-len-2.true))

pub returns : goal.returns
returns c =
    c.can_join_all.ensures
    ∙ by_lines c.args.waiting.now c.args.sites.now c.args.schedule.now c.args.id c.args.rows.now.rows
    (omega (arith, c.spare.ensures, c.len.ensures, c.stand_apart.ensures.within, c.if-spare-len.false))
    (omega (arith, c.spare-2.ensures, c.len-2.ensures, c.stand_apart-2.ensures.within, c.if-spare-len-2.false))
