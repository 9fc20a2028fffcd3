use Rattle.std.proofs.Common.{◌≡◌, ◌∙◌, ◌∷◌, ◌++◌, ◌+◌, ◌*◌, ◌<◌, [], ap, arith, get_or, length, List, set, subst, sym, ℕ}
use Rattle.std.proofs.lemmas.List.{length-set}
use Rattle.q_positions.specs.Lists.{IsSound, Lists, lists_in}
use Rattle.q_positions.proofs.Cells.{few_lists, has_cells, has_room, inside, known, lists_pushed, sound_length}
use Rattle.q_positions.proofs.lists.Lists.push.Goals as goal

pub len_of-len-requires : goal.len_of-len-requires
len_of-len-requires c =
    let a = c.self.inside in
    known a.cells.items a.lens.items a.most c.self.invariant c.args.number (subst (λ (v : Lists). c.args.number < length v.lists) (sym c.self.view_is) c.requires.known)

pub start_of-requires-clause-few : goal.start_of-requires-clause-few
start_of-requires-clause-few c =
    let a = c.self.inside in
    few_lists a.cells.items a.lens.items a.most c.self.invariant c.args.number
    (known a.cells.items a.lens.items a.most c.self.invariant c.args.number (subst (λ (v : Lists). c.args.number < length v.lists) (sym c.self.view_is) c.requires.known))

pub index_mut-requires : goal.index_mut-requires
index_mut-requires c =
    let a = c.self.inside in
    let k = c.args.number in
    let there = known a.cells.items a.lens.items a.most c.self.invariant k (subst (λ (v : Lists). k < length v.lists) (sym c.self.view_is) c.requires.known) in
    let room = has_room a.cells.items a.lens.items a.most c.self.invariant k there (subst (λ (v : Lists). length (get_or v.lists k []) < v.most) (sym c.self.view_is) c.requires.room) in
    let within = inside a.cells.items a.lens.items a.most c.self.invariant k there room in
    omega (arith, within, a.cells.ok.0, c.start_of.ensures, c.len_of-len.ensures)

pub index_mut-requires-2 : goal.index_mut-requires-2
index_mut-requires-2 c =
    let a = c.self.inside in
    let there = known a.cells.items a.lens.items a.most c.self.invariant c.args.number (subst (λ (v : Lists). c.args.number < length v.lists) (sym c.self.view_is) c.requires.known) in
    omega (arith, there, a.lens.ok.0)

pub invariant_of-self : goal.invariant_of-self
invariant_of-self c =
    let a = c.self.inside in
    let k = c.args.number in
    let at = c.start_of.result + c.len_of-len.result in
    let there = known a.cells.items a.lens.items a.most c.self.invariant k (subst (λ (v : Lists). k < length v.lists) (sym c.self.view_is) c.requires.known) in
    let room = has_room a.cells.items a.lens.items a.most c.self.invariant k there (subst (λ (v : Lists). length (get_or v.lists k []) < v.most) (sym c.self.view_is) c.requires.room) in
    sound_length a.cells.items a.lens.items a.most c.self.invariant k (c.len_of-len.result + 1) (set a.cells.items at c.args.position) (length-set a.cells.items at c.args.position) (omega (arith, room, c.len_of-len.ensures))

pub returns : goal.returns
returns c =
    let a = c.self.inside in
    let k = c.args.number in
    let p = c.args.position in
    let there = known a.cells.items a.lens.items a.most c.self.invariant k (subst (λ (v : Lists). k < length v.lists) (sym c.self.view_is) c.requires.known) in
    let room = has_room a.cells.items a.lens.items a.most c.self.invariant k there (subst (λ (v : Lists). length (get_or v.lists k []) < v.most) (sym c.self.view_is) c.requires.room) in
    let cells = has_cells a.cells.items a.lens.items a.most c.self.invariant k there in
    ap (λ n. record { lists = lists_in a.most (set a.cells.items (c.start_of.result + n) p) (set a.lens.items k (n + 1)); most = a.most }) c.len_of-len.ensures
    ∙ ap (λ i. record { lists = lists_in a.most (set a.cells.items (i + get_or a.lens.items k 0) p) (set a.lens.items k (get_or a.lens.items k 0 + 1)); most = a.most }) c.start_of.ensures
    ∙ ap (λ (xss : List (List ℕ)). record { lists = xss; most = a.most }) (lists_pushed a.most k p a.cells.items a.lens.items there room cells c.self.invariant.within)
    ∙ ap (λ (v : Lists). record v { lists = set v.lists k (get_or v.lists k [] ++ p ∷ []) }) c.self.view_is
