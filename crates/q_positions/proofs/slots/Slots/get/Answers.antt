use Rattle.std.proofs.Common.{◌∙◌, [], ap, get_or, List, None, Option, option_map, Some, sym, ℕ}
use Rattle.q_model.specs.declared.rows.Row.{Row}
use Rattle.q_positions.specs.Heads.{row_of, slot_of}
use Rattle.q_positions.specs.Rows.{row_shown, Slots}
use Rattle.q_positions.specs.declared.head.Head.{Head}
use Rattle.q_positions.proofs.Standing.{at_slot}
use Rattle.q_positions.proofs.slots.Slots.get.Goals as goal

pub returns-in_err-head : goal.returns-in_err-head
returns-in_err-head c =
    let a = c.self.inside in
    let k = c.args.number in
    ap (option_map row_shown) c.from_residual.ensures
    ∙ ap (λ (h : Option Head). slot_of h (get_or a.positions.lists k [])) c.in_err-head.ensures
    ∙ sym (at_slot k a.heads.items a.positions.lists)
    ∙ ap (λ (v : Slots). get_or v.rows k None) c.self.view_is

pub returns : goal.returns
returns c =
    let a = c.self.inside in
    let k = c.args.number in
    ap (λ (r : Row). Some r) (c.with.ensures ∙ ap (λ (xs : List ℕ). row_of c.in_ok-head.head.now xs) c.get.ensures)
    ∙ ap (λ (h : Option Head). slot_of h (get_or a.positions.lists k [])) c.in_ok-head.ensures
    ∙ sym (at_slot k a.heads.items a.positions.lists)
    ∙ ap (λ (v : Slots). get_or v.rows k None) c.self.view_is
