use Rattle.std.proofs.Common.{◌≡◌, ap, ◌∙◌, List, map, Some, sym}
use Rattle.std.specs.Prelude.{find}
use Rattle.q_model.specs.declared.id.Id.{Id}
use Rattle.q_pool.proofs.PoolLaws.{found_named, found_own, kept_other, none_changed}
use Rattle.q_pool.specs.Kept.{is_of, kept_at}
use Rattle.q_pool.specs.Slots.{with_slot_mark}
use Rattle.q_pool.specs.declared.kept.Kept.{Kept}
use Rattle.q_pool.proofs.pool.Pool.mark.Goals as goal

pub put-requires-clause-found : goal.put-requires-clause-found
put-requires-clause-found c = found_own c.args.id c.args.self.now.items c.in-Some.kept (sym c.get.ensures ∙ sym c.copied.ensures ∙ c.in-Some.is)

pub returns-in-Some : goal.returns-in-Some
returns-in-Some c =
    let now = c.args.self.now in
    let there : find (is_of c.args.id) now.items ≡ Some c.in-Some.kept = sym c.get.ensures ∙ sym c.copied.ensures ∙ c.in-Some.is in
    c.put.ensures with_slot_mark (sym c.marked.ensures)
    ∙ ap (λ (i : Id). record now { items = map (kept_at i with_slot_mark) now.items }) (found_named c.args.id now.items c.in-Some.kept there)

pub returns-in_default : goal.returns-in_default
returns-in_default c =
    let now = c.args.self.now in
    ap (λ (ks : List Kept). record now { items = ks })
    (sym (none_changed c.args.id (kept_at c.args.id with_slot_mark) (kept_other c.args.id with_slot_mark) now.items (sym c.get.ensures ∙ sym c.copied.ensures ∙ c.in_default.is)))
