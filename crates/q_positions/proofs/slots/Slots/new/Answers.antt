use Rattle.std.proofs.Common.{◌∙◌, ap, List, None, Option, replicate, ℕ}
use Rattle.q_model.specs.declared.rows.Row.{Row}
use Rattle.q_positions.specs.Heads.{slots_of}
use Rattle.q_positions.specs.Lists.{Lists}
use Rattle.q_positions.specs.Rows.{Slots}
use Rattle.q_positions.specs.declared.head.Head.{Head}
use Rattle.q_positions.proofs.Standing.{none_fresh}
use Rattle.q_positions.proofs.slots.Slots.new.Goals as goal

pub returns : goal.returns
returns c =
    let p = c.in_ok-positions.positions in
    let slots = λ (rows : List (Option Row)) (most : ℕ). let s : Slots = record { rows = rows; most = most } in s in
    ap (λ (hs : List (Option Head)). slots (slots_of hs p.lists) p.most) c.in_ok-heads.ensures
    ∙ ap (λ (rows : List (Option Row)). slots rows p.most) (none_fresh c.args.room p.lists)
    ∙ ap (λ (v : Lists). slots (replicate c.args.room None) v.most) c.in_ok-positions.ensures
