use Rattle.std.proofs.Common.{◌∙◌, ◌<◌, ap, arith, length, List, Option, set, Some, subst, sym}
use Rattle.q_model.specs.declared.rows.Row.{Row}
use Rattle.q_positions.specs.Heads.{slots_of}
use Rattle.q_positions.specs.Lists.{Lists}
use Rattle.q_positions.specs.Rows.{row_shown, Slots}
use Rattle.q_positions.specs.declared.head.Head.{Head}
use Rattle.q_positions.proofs.Standing.{length_slots, slots_put}
use Rattle.q_positions.proofs.slots.Slots.put.Goals as goal

pub set-requires-clause-known : goal.set-requires-clause-known
set-requires-clause-known c =
    let a = c.self.inside in
    let there = subst (λ (v : Slots). c.args.number < length v.rows) (sym c.self.view_is) c.requires.known in
    let same = length_slots a.heads.items a.positions.lists in
    omega (arith, there, same, c.self.invariant)

pub put_head-requires : goal.put_head-requires
put_head-requires c =
    let a = c.self.inside in
    let there = subst (λ (v : Slots). c.args.number < length v.rows) (sym c.self.view_is) c.requires.known in
    let same = length_slots a.heads.items a.positions.lists in
    omega (arith, there, same)

pub returns : goal.returns
returns c =
    let a = c.self.inside in
    let k = c.args.number in
    let r = c.args.row in
    ap (λ (hs : List (Option Head)). record { rows = slots_of hs c.set.new.self.lists; most = c.set.new.self.most }) c.put_head.ensures
    ∙ ap (λ (v : Lists). record { rows = slots_of (set a.heads.items k (Some c.of.result)) v.lists; most = v.most }) c.set.ensures
    ∙ ap (λ (rows : List (Option Row)). record { rows = rows; most = a.positions.most })
    (slots_put k (Some c.of.result) r.positions.now a.heads.items a.positions.lists c.self.invariant
    ∙ ap (λ (x : Row). set (slots_of a.heads.items a.positions.lists) k (Some x)) c.of.ensures)
    ∙ ap (λ (v : Slots). record v { rows = set v.rows k (Some (row_shown r)) }) c.self.view_is
