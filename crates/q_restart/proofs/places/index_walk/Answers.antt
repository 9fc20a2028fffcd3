use Rattle.std.proofs.Common.{◌∙◌, ap, is_some, sym}
use Rattle.q_restart.proofs.Placing.{places-push, repeated-more}
use Rattle.q_restart.proofs.places.index_walk.Goals as goal

pub loop-standing-preserved : goal.loop-standing-preserved
loop-standing-preserved c =
    let before = c.loop-standing.invariant in
    let absent = sym (c.is_some.ensures ∙ ap is_some c.place_of.ensures) ∙ c.if-is_some.false in
    record {
      places = places-push c.args.walk.now c.loop-standing.standing-index _ c.loop-standing-test.true c.loop-standing.places c.insert.new.self before.places absent c.in_ok-insert.ensures.updates;
      repeated = repeated-more c.args.walk.now c.loop-standing.standing-index _ c.loop-standing-test.true (sym (ap is_some (before.places _)) ∙ absent) ∙ before.repeated;
    }
