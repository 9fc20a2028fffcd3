use Rattle.std.proofs.Common.{refl, None}
use Rattle.q_host.specs.Files.{Placed, put}
use Rattle.q_mem_host.specs.Kept.{Kept}
use Rattle.q_mem_host.specs.Event.{remove}
use Rattle.q_mem_host.proofs.Keeping.{keeps_by}
use Rattle.q_mem_host.proofs.mem_host.MemHost.discard.Goals as goal

pub invariant_of-self-2 : goal.invariant_of-self-2
invariant_of-self-2 c = keeps_by c.self.inside.files.items _ _ c.self.inside.calls.items _ c.self.inside.crashed _ (remove c.args.area c.args.name) (λ (t : Placed Kept). put t c.args.area c.args.name None)
    c.self.invariant c.in_ok-make_room.ensures.same c.take_away.ensures.table c.take_away.ensures.order c.note.ensures (λ s. refl)
