use Rattle.std.proofs.Common.{ap, arith, length, List, subst, sym, vec_capacity, vec_len, ◌∙◌, ◌<◌, ◌≡◌}
use Rattle.std.specs.List.{insert}
use Rattle.q_sorted.specs.declared.ticket.Ticket.{Ticket}
use Rattle.q_sorted.specs.Tickets.{inserted}
use Rattle.q_sorted.proofs.Laying.{comes, stays}
use Rattle.q_sorted.proofs.block.Block.insert.Goals as goal

pub returns-then-stands_at-clause-inserted : goal.returns-then-stands_at-clause-inserted
returns-then-stands_at-clause-inserted c =
    let e = c.args.ticket in
    let n = c.place_of-place.result in
    let there = stays e n c.as_slice-tickets.result.now c.place_of-place.ensures.is (sym c.stands_at.ensures ∙ c.if-stands_at.true) in
    subst (λ (xs : List Ticket). xs ≡ inserted e xs) (c.as_slice-tickets.ensures.value ∙ c.self.view_is) there

pub returns-clause-inserted : goal.returns-clause-inserted
returns-clause-inserted c =
    let e = c.args.ticket in
    let n = c.place_of-place.result in
    let new = comes e n c.as_slice-tickets.result.now c.place_of-place.ensures.is (sym c.stands_at.ensures ∙ c.if-stands_at.false) in
    let held = c.as_slice-tickets.ensures.value in
    let room : vec_len c.self.inside.tickets < vec_capacity c.self.inside.tickets = omega (arith, c.requires.room, ap length c.self.view_is) in
    let ok = c.insert.ensures.succeeds room in
    let put = rw ok at c.insert.ensures.items in
    put ∙ ap (λ xs. insert xs n e) (sym held) ∙ new ∙ ap (inserted e) (held ∙ c.self.view_is)
