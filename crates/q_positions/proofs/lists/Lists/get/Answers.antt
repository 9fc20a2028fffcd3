use Rattle.std.proofs.Common.{◌≡◌, ◌∙◌, ◌+◌, ◌-◌, ◌*◌, [], ap, arith, drop, get_or, sym, take}
use Rattle.q_positions.specs.Lists.{Lists}
use Rattle.q_positions.proofs.Cells.{at_list, none_there}
use Rattle.q_positions.proofs.lists.Lists.get.Goals as goal

pub returns-then-number-len : goal.returns-then-number-len
returns-then-number-len c =
    let a = c.self.inside in
    sym (none_there a.cells.items a.lens.items a.most c.self.invariant c.args.number (omega arith))
    ∙ ap (λ (v : Lists). get_or v.lists c.args.number []) c.self.view_is

pub returns : goal.returns
returns c =
    let a = c.self.inside in
    let k = c.args.number in
    let start = c.start_of-start.result in
    let count : start + c.len_of.result - start ≡ get_or a.lens.items k 0 = omega (arith, c.len_of.ensures) in
    ap (λ n. take n (drop start c.deref.result.now)) count
    ∙ ap (λ xs. take (get_or a.lens.items k 0) (drop start xs)) c.deref.ensures.value
    ∙ ap (λ i. take (get_or a.lens.items k 0) (drop i a.cells.items)) c.start_of-start.ensures
    ∙ sym (at_list a.most k a.cells.items a.lens.items)
    ∙ ap (λ (v : Lists). get_or v.lists k []) c.self.view_is
