use Rattle.std.proofs.Common.{◌≡◌, ◌∙◌, ◌<◌, ap, arith, length, List, None, Option, set, Some, subst, sym, ℕ}
use Rattle.q_model.specs.declared.rows.Row.{Row}
use Rattle.q_positions.specs.Heads.{slot_of, slots_of}
use Rattle.q_positions.specs.Lists.{Lists}
use Rattle.q_positions.specs.Rows.{row_shown, Slots}
use Rattle.q_positions.specs.declared.head.Head.{Head}
use Rattle.q_positions.proofs.Standing.{length_slots, slots_cleared}
use Rattle.q_positions.proofs.slots.Slots.clear.Goals as goal

pub put_head-requires : goal.put_head-requires
put_head-requires c =
    let a = c.self.inside in
    let there = subst (λ (v : Slots). c.args.number < length v.rows) (sym c.self.view_is) c.requires in
    let same = length_slots a.heads.items a.positions.lists in
    omega (arith, there, same)

pub returns : goal.returns
returns c =
    let a = c.self.inside in
    ap (λ (hs : List (Option Head)). record { rows = slots_of hs a.positions.lists; most = a.positions.most }) c.put_head.ensures
    ∙ ap (λ (rs : List (Option Row)). record { rows = rs; most = a.positions.most }) (slots_cleared c.args.number a.heads.items a.positions.lists)
    ∙ ap (λ (v : Slots). record v { rows = set v.rows c.args.number None }) c.self.view_is
