use Rattle.std.proofs.Common.{[], ◌∷◌, List, ℕ, ap, ◌∙◌, rules, ◌≡◌, ◌++◌}
use Rattle.q_mem_host.specs.Event.{tell}
use Rattle.q_mem_host.specs.Record.{history}
use Rattle.q_mem_host.proofs.Keeping.{keeps_told}
use Rattle.q_mem_host.proofs.mem_host.MemHost.say.Goals as goal

pub invariant_of-self-2 : goal.invariant_of-self-2
invariant_of-self-2 c =
    let copied : c.in_ok-copy.copy.items ≡ c.args.bytes.now = search rules in
    keeps_told _ c.self.inside.told.items _ c.args.bytes.now c.self.inside.calls.items _ c.self.inside.crashed _ c.self.invariant c.in_ok-make_room.ensures.same c.in_ok-extend_from_slice.ensures.items (c.note.ensures ∙ ap (λ (l : List ℕ). history c.make_room.new.calls.items c.self.inside.crashed ++ tell l ∷ []) copied)
