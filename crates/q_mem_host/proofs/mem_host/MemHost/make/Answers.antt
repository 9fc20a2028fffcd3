use Rattle.std.proofs.Common.{refl, Some, [], ◌∙◌, ap}
use Rattle.q_host.specs.Files.{Placed, put}
use Rattle.q_mem_host.specs.Kept.{Kept, firm}
use Rattle.q_mem_host.specs.Event.{create}
use Rattle.q_mem_host.proofs.Keeping.{keeps_by, put_kept}
use Rattle.q_mem_host.proofs.mem_host.MemHost.make.Goals as goal

pub invariant_of-self-2 : goal.invariant_of-self-2
invariant_of-self-2 c = keeps_by c.self.inside.files.items _ _ c.self.inside.calls.items _ c.self.inside.crashed _ (create c.args.area c.args.name) (λ (t : Placed Kept). put t c.args.area c.args.name (Some (firm [])))
    c.self.invariant c.in_ok-make_room.ensures.same (put_kept c.self.inside.files.items _ _ c.args.area c.args.name _ _ c.put_file.ensures.table c.in_ok-reserve.ensures.items (c.firm-file.ensures ∙ ap firm c.new.ensures.items)) c.put_file.ensures.order c.note.ensures (λ s. refl)
