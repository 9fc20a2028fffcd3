use Rattle.std.proofs.Common.{◌∙◌, sym}
use Rattle.q_turns.proofs.TakenOut.{all_taken, rest_goes, taken_others, taken_smaller}
use Rattle.q_turns.proofs.moving.take_class_out.Goals as goal

pub loop-head-smaller : goal.loop-head-smaller
loop-head-smaller c = taken_smaller c.args.class c.args.heads.now c.loop-head.heads c.remove.new.self c.loop-head.invariant.rest c.in-Some.head (sym c.first.ensures ∙ c.in-Some.is) c.remove.ensures

pub loop-head-preserved : goal.loop-head-preserved
loop-head-preserved c = record {
  rest = rest_goes c.args.heads.now c.loop-head.heads c.remove.new.self _ c.remove.ensures c.loop-head.invariant.rest;
  others = taken_others c.args.class c.args.heads.now c.loop-head.heads c.remove.new.self c.loop-head.invariant.rest c.in-Some.head (sym c.first.ensures ∙ c.in-Some.is) c.remove.ensures c.loop-head.invariant.others;
}

pub returns-clause-gone : goal.returns-clause-gone
returns-clause-gone c = all_taken c.args.class c.args.heads.now c.loop-head.heads c.loop-head.invariant.rest c.stand_sorted.ensures.rising (sym c.first.ensures ∙ c.in_default.is) c.loop-head.invariant.others
