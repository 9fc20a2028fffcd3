use Rattle.std.proofs.Common.{◌≡◌, ◌∙◌, ◌∷◌, ◌++◌, ◌+◌, ◌*◌, ◌<◌, ◌≤◌, [], ap, arith, drop, get_or, length, List, set, subst, sym, take, ℕ}
use Rattle.std.proofs.lemmas.List.{length-set}
use Rattle.q_positions.specs.Lists.{IsSound, Lists, lists_in}
use Rattle.q_positions.proofs.Cells.{few_lists, has_cells, known, put_in, sound_put}
use Rattle.q_positions.proofs.lists.Lists.set.Goals as goal

pub start_of-requires-clause-few : goal.start_of-requires-clause-few
start_of-requires-clause-few c =
    let a = c.self.inside in
    few_lists a.cells.items a.lens.items a.most c.self.invariant c.args.number
    (known a.cells.items a.lens.items a.most c.self.invariant c.args.number (subst (λ (v : Lists). c.args.number < length v.lists) (sym c.self.view_is) c.requires.known))

pub write-requires : goal.write-requires
write-requires c =
    let a = c.self.inside in
    let k = c.args.number in
    let few = subst (λ (v : Lists). length c.args.positions.now ≤ v.most) (sym c.self.view_is) c.requires.room in
    let cells = has_cells a.cells.items a.lens.items a.most c.self.invariant k (known a.cells.items a.lens.items a.most c.self.invariant k (subst (λ (v : Lists). k < length v.lists) (sym c.self.view_is) c.requires.known)) in
    omega (arith, cells, few, c.start_of.ensures)

pub index_mut-requires : goal.index_mut-requires
index_mut-requires c =
    let a = c.self.inside in
    let there = known a.cells.items a.lens.items a.most c.self.invariant c.args.number (subst (λ (v : Lists). c.args.number < length v.lists) (sym c.self.view_is) c.requires.known) in
    omega (arith, there, a.lens.ok.0)

pub invariant_of-self : goal.invariant_of-self
invariant_of-self c =
    let a = c.self.inside in
    let k = c.args.number in
    let xs = c.args.positions.now in
    let few = subst (λ (v : Lists). length xs ≤ v.most) (sym c.self.view_is) c.requires.room in
    let there = known a.cells.items a.lens.items a.most c.self.invariant k (subst (λ (v : Lists). k < length v.lists) (sym c.self.view_is) c.requires.known) in
    subst (λ (ys : List ℕ). IsSound ys (set a.lens.items k (length xs)) a.most) (sym c.write.ensures)
    (subst (λ i. IsSound (take i a.cells.items ++ (xs ++ drop (length xs) (drop i a.cells.items))) (set a.lens.items k (length xs)) a.most) (sym c.start_of.ensures)
    (sound_put a.cells.items a.lens.items a.most c.self.invariant k xs there few))

pub returns : goal.returns
returns c =
    let a = c.self.inside in
    let k = c.args.number in
    let xs = c.args.positions.now in
    let few = subst (λ (v : Lists). length xs ≤ v.most) (sym c.self.view_is) c.requires.room in
    let there = known a.cells.items a.lens.items a.most c.self.invariant k (subst (λ (v : Lists). k < length v.lists) (sym c.self.view_is) c.requires.known) in
    ap (λ (ys : List ℕ). record { lists = lists_in a.most ys (set a.lens.items k (length xs)); most = a.most }) c.write.ensures
    ∙ ap (λ i. record { lists = lists_in a.most (take i a.cells.items ++ (xs ++ drop (length xs) (drop i a.cells.items))) (set a.lens.items k (length xs)); most = a.most }) c.start_of.ensures
    ∙ ap (λ (xss : List (List ℕ)). record { lists = xss; most = a.most }) (put_in a.cells.items a.lens.items a.most c.self.invariant k xs there few)
    ∙ ap (λ (v : Lists). record v { lists = set v.lists k xs }) c.self.view_is
