use Rattle.std.proofs.Common.{ap, ◌∙◌}
use Rattle.q_pool.proofs.ListLaws.{found_at_place}
use Rattle.q_pool.specs.Kept.{may_read}
use Rattle.q_pool.specs.Ranks.{message_at}
use Rattle.q_pool.proofs.walk.reader_among.Goals as goal

pub returns : goal.returns
returns c = c.message_at.ensures ∙ ap message_at c.first_reader_place.ensures ∙ found_at_place (may_read c.args.minimum c.args.free) c.args.places.now
