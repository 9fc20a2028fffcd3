use Rattle.std.proofs.Common.{◌≤◌, arith, length, subst, take_all}
use Rattle.q_look.specs.FirstNames.{HasNone}
use Rattle.q_look.proofs.Listings.{first_at, item_at, none_more}
use Rattle.q_look.proofs.names.first_of.Goals as goal

pub returns-in-Some-clause-some : goal.returns-in-Some-clause-some
returns-in-Some-clause-some g c = first_at (g.W.Wanted.names c.args.wanted.now) c.args.names.now c.loop-name.name-index c.name-item.result c.in-Some.file (item_at c.args.names.now c.loop-name.name-index c.name-item.result (omega (arith, c.loop-name-test.true)) c.name-item.is) c.in-Some.ensures.some c.loop-name.invariant.none

pub loop-name-preserved : goal.loop-name-preserved
loop-name-preserved g c = record { none = none_more (g.W.Wanted.names c.args.wanted.now) c.args.names.now c.loop-name.name-index c.name-item.result (item_at c.args.names.now c.loop-name.name-index c.name-item.result (omega (arith, c.loop-name-test.true)) c.name-item.is) c.in_default.ensures.none c.loop-name.invariant.none }

pub returns-clause-none : goal.returns-clause-none
returns-clause-none g c =
    let all : length c.args.names.now ≤ c.loop-name.name-index = omega (arith, c.loop-name-test.false) in
    subst (HasNone (g.W.Wanted.names c.args.wanted.now)) (take_all c.loop-name.name-index c.args.names.now all) c.loop-name.invariant.none
