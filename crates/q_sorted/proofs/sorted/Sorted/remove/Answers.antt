use Rattle.q_sorted.specs.Blocks.{joined}
use Rattle.q_sorted.proofs.Filtering.{left_by}
use Rattle.q_sorted.proofs.sorted.Sorted.remove.Goals as goal

pub returns-then-remove : goal.returns-then-remove
returns-then-remove c =
    left_by c.args.ticket.now (joined c.self.inside.blocks.lists) (joined c.remove.new.self.lists) c.args.self.now c.self.inside.room c.self.invariant.sound.rising c.remove.ensures.removed c.self.view_is

pub returns-else-remove : goal.returns-else-remove
returns-else-remove c =
    left_by c.args.ticket.now (joined c.self.inside.blocks.lists) (joined c.remove.new.self.lists) c.args.self.now c.self.inside.room c.self.invariant.sound.rising c.remove.ensures.removed c.self.view_is
