use Rattle.std.proofs.Common.{◌∙◌, ◌<◌, ap, arith, length, List, slice_get, subst, sym}
use Rattle.std.specs.Prelude.{IfSome}
use Rattle.q_model.specs.declared.rows.Row.{Row}
use Rattle.q_positions.specs.Heads.{rows_of}
use Rattle.q_positions.specs.Lists.{Lists}
use Rattle.q_positions.specs.Rows.{joined_at, Rows}
use Rattle.q_positions.proofs.Standing.{has_room, length_rows, rows_joined}
use Rattle.q_positions.proofs.row_list.RowList.add.Goals as goal

pub overflow_cast-place : goal.overflow_cast-place
overflow_cast-place c =
    let a = c.self.inside in
    let there = subst (λ (v : Rows). c.args.place < length v.rows) (sym c.self.view_is) c.requires.known in
    let same = length_rows a.heads.items a.positions.lists in
    omega (arith, there, same, c.self.invariant.within, c.self.invariant.few)

pub push-requires-clause-known : goal.push-requires-clause-known
push-requires-clause-known c =
    let a = c.self.inside in
    let there = subst (λ (v : Rows). c.args.place < length v.rows) (sym c.self.view_is) c.requires.known in
    let same = length_rows a.heads.items a.positions.lists in
    omega (arith, there, same, c.self.invariant.within, c.self.invariant.lists)

pub push-requires-clause-room : goal.push-requires-clause-room
push-requires-clause-room c =
    let a = c.self.inside in
    let there = subst (λ (v : Rows). c.args.place < length v.rows) (sym c.self.view_is) c.requires.known in
    let same = length_rows a.heads.items a.positions.lists in
    has_room c.args.place a.positions.most a.heads.items a.positions.lists (omega (arith, there, same))
    (subst (λ (v : Rows). IfSome (slice_get v.rows c.args.place) (λ r. length r.positions < v.most)) (sym c.self.view_is) c.requires.room)

pub returns : goal.returns
returns c =
    let a = c.self.inside in
    let k = c.args.place in
    let p = c.args.position in
    let there = subst (λ (v : Rows). k < length v.rows) (sym c.self.view_is) c.requires.known in
    let same = length_rows a.heads.items a.positions.lists in
    ap (λ (v : Lists). record { rows = rows_of a.heads.items v.lists; room = a.room; most = v.most }) c.push.ensures
    ∙ ap (λ (rows : List Row). record { rows = rows; room = a.room; most = a.positions.most })
    (rows_joined k p a.heads.items a.positions.lists (omega (arith, there, same)) (omega (arith, c.self.invariant.within, c.self.invariant.lists)))
    ∙ ap (λ (v : Rows). record v { rows = joined_at k p v.rows }) c.self.view_is
