use Rattle.std.proofs.Common.{◌≡◌, ◌++◌, ◌∷◌, List, ℕ, rules, refl, [], ◌∙◌, ap}
use Rattle.q_host.specs.Files.{Placed, put}
use Rattle.q_mem_host.specs.Kept.{Kept, overwritten}
use Rattle.q_mem_host.specs.Event.{write}
use Rattle.std.specs.Option.{option_map}
use Rattle.q_mem_host.specs.Record.{history}
use Rattle.q_mem_host.proofs.Keeping.{keeps_by}
use Rattle.q_mem_host.proofs.mem_host.MemHost.overwrite.Goals as goal

pub invariant_of-self-2 : goal.invariant_of-self-2
invariant_of-self-2 c =
    let copied : c.in_ok-copy.copy.items ≡ c.args.bytes.now = search rules in
    keeps_by c.self.inside.files.items _ _ c.self.inside.calls.items _ c.self.inside.crashed _ (write c.args.area c.args.name c.args.at c.args.bytes.now) (λ (t : Placed Kept). put t c.args.area c.args.name (option_map (overwritten c.args.at c.args.bytes.now) (t c.args.area c.args.name)))
    c.self.invariant c.in_ok-make_room.ensures.same c.in_ok-overwrite_at.ensures.ok c.in_ok-overwrite_at.ensures.order (c.note.ensures ∙ ap (λ (l : List ℕ). history c.make_room.new.calls.items c.self.inside.crashed ++ write c.args.area c.args.name c.args.at l ∷ []) copied) (λ s. refl)
