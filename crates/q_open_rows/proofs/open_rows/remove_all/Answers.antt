use Rattle.std.proofs.Common.{[], ap, arith, length, sym, ◌∙◌, true}
use Rattle.q_keyed.proofs.Values.{fewer}
use Rattle.q_keyed.specs.Numbered.{Items}
use Rattle.q_open_rows.proofs.Numbered.{first_any, none_first}
use Rattle.q_open_rows.specs.declared.open_row.OpenRow.{OpenRow}
use Rattle.q_open_rows.proofs.open_rows.remove_all.Goals as goal

pub loop-number-smaller : goal.loop-number-smaller
loop-number-smaller c =
    let ks = c.loop-number.rows.items in
    let left = ap (λ (v : Items OpenRow). length v.items) c.remove-row.ensures.items in
    let less = fewer (λ (r : OpenRow). true) c.in-Some.number ks c.stand_apart.ensures.apart (sym (first_any ks) ∙ (sym c.first.ensures ∙ c.in-Some.is)) in
    omega (arith, left, less)

pub returns : goal.returns
returns c =
    ap (λ ks. record { items = ks; room = c.loop-number.rows.room }) (sym (none_first c.loop-number.rows.items (sym c.first.ensures ∙ c.in_default.is)))
    ∙ ap (λ n. record { items = []; room = n }) c.loop-number.invariant
