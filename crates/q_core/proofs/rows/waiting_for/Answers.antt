use Rattle.std.proofs.Common.{◌∙◌, arith}
use Rattle.std.proofs.lemmas.List.{length-map}
use Rattle.q_core.proofs.CountLaws.{count_within}
use Rattle.q_core.proofs.TurnTies.{rows_left_counted}
use Rattle.q_core.specs.RowWalks.{is_row_for}
use Rattle.q_held.specs.Held.{HeldRow, rows_of}
use Rattle.q_core.proofs.rows.waiting_for.Goals as goal

pub returns-clause-count : goal.returns-clause-count
returns-clause-count c =
    c.rows_left.ensures.value
    ∙ rows_left_counted c.args.id c.args.transport c.args.schedule.now.peers (rows_of c.args.waiting.now.items) c.stand_apart.ensures.apart c.requires

pub returns-clause-few : goal.returns-clause-few
returns-clause-few c =
    let rows = rows_of c.args.waiting.now.items in
    let count = c.rows_left.ensures.value ∙ rows_left_counted c.args.id c.args.transport c.args.schedule.now.peers rows c.stand_apart.ensures.apart c.requires in
    let within = count_within (is_row_for c.args.id c.args.transport) rows in
    let same = length-map c.args.waiting.now.items (λ (k : HeldRow). k.row) in
    omega (arith, count, within, same, c.stand_apart-2.ensures.within, c.stand_apart-2.ensures.few)
