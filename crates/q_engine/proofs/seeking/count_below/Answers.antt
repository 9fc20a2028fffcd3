use Rattle.std.proofs.Common.{◌≡◌, ◌<◌, ap, arith}
use Rattle.std.specs.Prelude.{nat_lt}
use Rattle.std.proofs.lemmas.Bool.{lt-ltb}
use Rattle.q_model.specs.Values.{Taken}
use Rattle.q_engine.proofs.OpenRecipients.{below_next, none_behind}
use Rattle.q_engine.proofs.seeking.count_below.Goals as goal

pub loop-i-preserved : goal.loop-i-preserved
loop-i-preserved c =
    let taken = c.get-taken.result in
    let at : c.taken.inside.position ≡ taken.position = ap (λ (t : Taken). t.position) c.taken.view_is in
    let less : taken.position < c.args.from = omega (arith, c.if-taken-from.false, at) in
    below_next (λ (t : Taken). nat_lt t.position c.args.from) c.args.batch.now.items c.loop-i.i taken c.loop-i.invariant c.get-taken.ensures (lt-ltb taken.position c.args.from less)

pub returns-clause-behind : goal.returns-clause-behind
returns-clause-behind c = none_behind c.args.batch.now.items c.len.result c.args.from (omega (arith, c.len.ensures))
