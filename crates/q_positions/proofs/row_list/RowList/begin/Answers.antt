use Rattle.std.proofs.Common.{◌≡◌, ◌∙◌, ◌<◌, ◌∷◌, ◌++◌, [], ap, arith, length, List, set, subst, sym, ℕ}
use Rattle.std.proofs.lemmas.List.{length-append, length-set}
use Rattle.q_model.specs.declared.rows.Row.{Row}
use Rattle.q_positions.specs.Heads.{rows_of}
use Rattle.q_positions.specs.Lists.{Lists}
use Rattle.q_positions.specs.Rows.{Rows}
use Rattle.q_positions.specs.declared.head.Head.{Head}
use Rattle.q_positions.proofs.Standing.{length_rows, rows_begun}
use Rattle.q_positions.proofs.row_list.RowList.begin.Goals as goal

pub set-requires-clause-known : goal.set-requires-clause-known
set-requires-clause-known c =
    let a = c.self.inside in
    let room = subst (λ (v : Rows). length v.rows < v.room) (sym c.self.view_is) c.requires in
    let same = length_rows a.heads.items a.positions.lists in
    omega (arith, room, same, a.heads.ok.0, c.len-place.ensures, c.self.invariant.lists)

pub push_reserved-requires : goal.push_reserved-requires
push_reserved-requires c =
    let a = c.self.inside in
    let room = subst (λ (v : Rows). length v.rows < v.room) (sym c.self.view_is) c.requires in
    let same = length_rows a.heads.items a.positions.lists in
    omega (arith, room, same, a.heads.ok.0, c.self.invariant.capacity)

pub invariant_of-self : goal.invariant_of-self
invariant_of-self c =
    let a = c.self.inside in
    let inv = c.self.invariant in
    let k = c.len-place.result in
    let room = subst (λ (v : Rows). length v.rows < v.room) (sym c.self.view_is) c.requires in
    let same = length_rows a.heads.items a.positions.lists in
    let more = ap length c.push_reserved.ensures.items in
    let len = length-append a.heads.items (record { id = c.args.id; site = c.args.site.now } ∷ []) in
    record {
      few = inv.few;
      one = rw c.set.ensures inv.one;
      lists = ap (λ (v : Lists). length v.lists) c.set.ensures ∙ length-set a.positions.lists k (c.args.position ∷ []) ∙ inv.lists;
      within = omega (arith, room, same, more, len);
      capacity = omega (arith, inv.capacity, c.push_reserved.ensures.capacity);
    }

pub returns : goal.returns
returns c =
    let a = c.self.inside in
    let k = c.len-place.result in
    let h : Head = record { id = c.args.id; site = c.args.site.now } in
    let xs = c.args.position ∷ [] in
    let at : k ≡ length a.heads.items = c.len-place.ensures ∙ a.heads.ok.0 in
    let room = subst (λ (v : Rows). length v.rows < v.room) (sym c.self.view_is) c.requires in
    let same = length_rows a.heads.items a.positions.lists in
    ap (λ (hs : List Head). record { rows = rows_of hs c.set.new.self.lists; room = a.room; most = c.set.new.self.most }) c.push_reserved.ensures.items
    ∙ ap (λ (v : Lists). record { rows = rows_of (a.heads.items ++ h ∷ []) v.lists; room = a.room; most = v.most }) c.set.ensures
    ∙ ap (λ n. record { rows = rows_of (a.heads.items ++ h ∷ []) (set a.positions.lists n xs); room = a.room; most = a.positions.most }) at
    ∙ ap (λ (rows : List Row). record { rows = rows; room = a.room; most = a.positions.most })
    (rows_begun h xs a.heads.items a.positions.lists (omega (arith, room, same, c.self.invariant.lists)))
    ∙ ap (λ (v : Rows). record v { rows = v.rows ++ record { id = c.args.id; site = c.args.site.now; positions = xs } ∷ [] }) c.self.view_is
