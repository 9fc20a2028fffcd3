use Rattle.std.proofs.Common.{◌≡◌, ◌++◌, ◌∷◌, List, ℕ, rules, refl, Some, [], ◌∙◌, ap}
use Rattle.q_host.specs.Files.{Placed, put}
use Rattle.q_mem_host.specs.Kept.{Kept, firm}
use Rattle.q_mem_host.specs.Event.{place}
use Rattle.q_mem_host.specs.Record.{history}
use Rattle.q_mem_host.proofs.Keeping.{keeps_by, put_kept}
use Rattle.q_mem_host.proofs.mem_host.MemHost.put_file.Goals as goal

pub invariant_of-self-2 : goal.invariant_of-self-2
invariant_of-self-2 c =
    let copied : c.in_ok-copy.copy.items ≡ c.args.bytes.now = search rules in
    let placed : c.in_ok-to_vec.field-0.items ≡ c.args.bytes.now = search rules in
    keeps_by c.self.inside.files.items _ _ c.self.inside.calls.items _ c.self.inside.crashed _ (place c.args.area c.args.name c.args.bytes.now) (λ (t : Placed Kept). put t c.args.area c.args.name (Some (firm c.args.bytes.now)))
    c.self.invariant c.in_ok-make_room.ensures.same (put_kept c.self.inside.files.items _ _ c.args.area c.args.name _ _ c.put_file.ensures.table c.in_ok-reserve.ensures.items (c.firm-file.ensures ∙ ap firm placed)) c.put_file.ensures.order (c.note.ensures ∙ ap (λ (l : List ℕ). history c.make_room.new.calls.items c.self.inside.crashed ++ place c.args.area c.args.name l ∷ []) copied) (λ s. refl)
