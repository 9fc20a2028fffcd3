use Rattle.std.proofs.Common.{◌≡◌, ◌∙◌, ap, arith, length, Some, sym}
use Rattle.std.specs.Prelude.{option_map}
use Rattle.q_positions.specs.Rows.{row_shown}
use Rattle.q_core.proofs.RowWalkLaws.{left_none, merged, sooner_first, sooner_on, step_along}
use Rattle.q_core.specs.Starting.{next_row_of, sent_before}
use Rattle.q_held.proofs.Plain.{rows_plain}
use Rattle.q_held.specs.Held.{plain}
use Rattle.q_peers.proofs.Rests.{rest}
use Rattle.q_peers.specs.Numbered.{any_row, row_at}
use Rattle.q_core.proofs.startable.next_row_among.Goals as goal

pub loop-at-init : goal.loop-at-init
loop-at-init c =
    let ks = plain c.args.waiting.now.items in
    sooner_first c.args.core.now c.args.transport c.args.id ks c.first-at.result c.stand_apart.ensures.apart c.first-at.ensures
    ∙ ap (next_row_of c.args.core.now c.args.transport c.args.id) (rows_plain c.args.waiting.now.items)

pub returns-in_default-get : goal.returns-in_default-get
returns-in_default-get c =
    let me = c.args.core.now in
    let none = left_none any_row (plain c.args.waiting.now.items) c.loop-at.at c.in-Some.number c.in-Some.is (sym (ap (option_map row_shown) (sym c.in_default-get.is) ∙ c.get.ensures)) in
    sym (ap (λ rows. merged (sent_before me) (option_map row_shown c.loop-at.next) (next_row_of me c.args.transport c.args.id rows)) none) ∙ c.loop-at.invariant

pub loop-at-smaller : goal.loop-at-smaller
loop-at-smaller c =
    let ks = plain c.args.waiting.now.items in
    let there : row_at c.in-Some.number ks ≡ Some (row_shown c.in-Some-get.row) = sym (ap (option_map row_shown) (sym c.in-Some-get.is) ∙ c.get.ensures) in
    let step = step_along ks c.loop-at.at c.in-Some.number (row_shown c.in-Some-get.row) c.stand_apart.ensures.apart c.in-Some.is there in
    let e = ap length step in
    let n = ap (λ o. length (rest any_row o ks)) c.next-at.ensures in
    omega (arith, e, n)

pub loop-at-preserved : goal.loop-at-preserved
loop-at-preserved c =
    let ks = plain c.args.waiting.now.items in
    let me = c.args.core.now in
    let there : row_at c.in-Some.number ks ≡ Some (row_shown c.in-Some-get.row) = sym (ap (option_map row_shown) (sym c.in-Some-get.is) ∙ c.get.ensures) in
    ap (λ o. merged (sent_before me) (option_map row_shown c.sooner-next.result) (next_row_of me c.args.transport c.args.id (rest any_row o ks))) c.next-at.ensures
    ∙ sooner_on me c.args.transport c.args.id ks c.loop-at.at c.in-Some.number (row_shown c.in-Some-get.row) (option_map row_shown c.loop-at.next) (option_map row_shown c.sooner-next.result) _ c.stand_apart.ensures.apart c.in-Some.is there c.sooner-next.ensures c.loop-at.invariant
