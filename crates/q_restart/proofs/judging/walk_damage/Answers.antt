use Rattle.std.proofs.Common.{◌∙◌, sym}
use Rattle.q_restart.specs.Damages.{is_mispaired}
use Rattle.q_restart.proofs.Placing.{find-contains, repeated-contains}
use Rattle.q_restart.proofs.judging.walk_damage.Goals as goal

pub file_spot-requires : goal.file_spot-requires
file_spot-requires c = c.requires.places c.in-Some.standing (repeated-contains c.args.walk.now c.in-Some.standing (sym c.requires.index.repeated ∙ c.in-Some.is))

pub file_spot-requires-2 : goal.file_spot-requires-2
file_spot-requires-2 c = c.requires.places c.in_ok-standing.standing (find-contains (is_mispaired c.args.walk.now) c.args.walk.now c.in_ok-standing.standing (sym c.mispaired.ensures ∙ c.in_ok-standing.was)).0
