use Rattle.std.proofs.Common.{◌∙◌, ◌<◌, [], ap, arith, length, List, set, subst, sym, ℕ}
use Rattle.q_positions.specs.Lists.{Lists}
use Rattle.q_positions.proofs.Cells.{known, lists_cleared, sound_length}
use Rattle.q_positions.proofs.lists.Lists.clear.Goals as goal

pub index_mut-requires : goal.index_mut-requires
index_mut-requires c =
    let a = c.self.inside in
    let there = known a.cells.items a.lens.items a.most c.self.invariant c.args.number (subst (λ (v : Lists). c.args.number < length v.lists) (sym c.self.view_is) c.requires) in
    omega (arith, there, a.lens.ok.0)

pub returns : goal.returns
returns c =
    let a = c.self.inside in
    ap (λ (xss : List (List ℕ)). record { lists = xss; most = a.most }) (lists_cleared a.most c.args.number a.cells.items a.lens.items)
    ∙ ap (λ (v : Lists). record v { lists = set v.lists c.args.number [] }) c.self.view_is
