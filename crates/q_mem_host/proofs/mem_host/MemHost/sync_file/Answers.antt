use Rattle.std.proofs.Common.{refl}
use Rattle.q_host.specs.Files.{Placed, put}
use Rattle.q_mem_host.specs.Kept.{Kept, synced}
use Rattle.q_mem_host.specs.Event.{sync}
use Rattle.std.specs.Option.{option_map}
use Rattle.q_mem_host.proofs.Keeping.{keeps_by}
use Rattle.q_mem_host.proofs.mem_host.MemHost.sync_file.Goals as goal

pub invariant_of-self-2 : goal.invariant_of-self-2
invariant_of-self-2 c = keeps_by c.self.inside.files.items _ _ c.self.inside.calls.items _ c.self.inside.crashed _ (sync c.args.area c.args.name) (λ (t : Placed Kept). put t c.args.area c.args.name (option_map synced (t c.args.area c.args.name)))
    c.self.invariant c.in_ok-make_room.ensures.same c.sync_at.ensures.synced c.sync_at.ensures.order c.note.ensures (λ s. refl)
