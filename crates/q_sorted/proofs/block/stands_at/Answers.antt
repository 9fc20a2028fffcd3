use Rattle.std.proofs.Common.{ap, ◌∙◌}
use Rattle.std.proofs.lemmas.Bool.{le-ltb}
use Rattle.std.specs.Prelude.{length, not}
use Rattle.q_sorted.proofs.Laying.{stands_nowhere, stands_within}
use Rattle.q_sorted.proofs.block.stands_at.Goals as goal

pub returns-then-place-tickets : goal.returns-then-place-tickets
returns-then-place-tickets c =
    ap not c.goes_before.ensures ∙ stands_within c.args.place c.args.ticket.now c.args.tickets.now _ c.if-place-tickets.true

pub returns-else-place-tickets : goal.returns-else-place-tickets
returns-else-place-tickets c =
    le-ltb c.args.place (length c.args.tickets.now) c.if-place-tickets.false ∙ stands_nowhere c.args.place c.args.ticket.now c.args.tickets.now c.if-place-tickets.false
