use Rattle.std.proofs.Common.{ap, arith, List, subst, sym, ◌∙◌, ◌≡◌}
use Rattle.std.specs.List.{remove}
use Rattle.q_sorted.specs.declared.ticket.Ticket.{Ticket}
use Rattle.q_sorted.specs.Blocks.{removed}
use Rattle.q_sorted.proofs.Laying.{goes, lacks, stands_inside}
use Rattle.q_sorted.proofs.block.Block.remove.Goals as goal

pub returns-then-not-stands_at-clause-removed : goal.returns-then-not-stands_at-clause-removed
returns-then-not-stands_at-clause-removed c =
    let e = c.args.ticket.now in
    let n = c.place_of-place.result in
    let lacking = lacks e n c.as_slice-tickets.result.now c.place_of-place.ensures.is (sym c.stands_at.ensures ∙ c.if-not-stands_at.true) in
    subst (λ (xs : List Ticket). xs ≡ removed e xs) (c.as_slice-tickets.ensures.value ∙ c.self.view_is) lacking

pub remove-requires : goal.remove-requires
remove-requires c =
    let within = stands_inside c.args.ticket.now c.place_of-place.result c.as_slice-tickets.result.now (sym c.stands_at.ensures ∙ c.if-not-stands_at.false) in
    omega (arith, within, c.as_slice-tickets.ensures.len)

pub returns-clause-removed : goal.returns-clause-removed
returns-clause-removed c =
    let e = c.args.ticket.now in
    let n = c.place_of-place.result in
    let gone = goes e n c.as_slice-tickets.result.now c.place_of-place.ensures.is (sym c.stands_at.ensures ∙ c.if-not-stands_at.false) in
    c.remove.ensures.items ∙ ap (λ xs. remove xs n) (sym c.as_slice-tickets.ensures.value) ∙ gone ∙ ap (removed e) (c.as_slice-tickets.ensures.value ∙ c.self.view_is)
