use Rattle.std.proofs.Common.{ap, ◌∙◌}
use Rattle.q_pool.proofs.ListLaws.{found_at_place}
use Rattle.q_pool.specs.Kept.{is_idle}
use Rattle.q_pool.specs.Ranks.{message_at}
use Rattle.q_pool.proofs.walk.idle_among.Goals as goal

pub returns : goal.returns
returns c = c.message_at.ensures ∙ ap message_at c.first_idle_place.ensures ∙ found_at_place is_idle c.args.places.now
