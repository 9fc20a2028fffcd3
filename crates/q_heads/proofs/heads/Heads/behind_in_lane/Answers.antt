use Rattle.std.proofs.Common.{◌∙◌, ap, find, sym}
use Rattle.std.specs.Prelude.{◌&&◌}
use Rattle.q_sorted.specs.Tickets.{goes_before, is_of}
use Rattle.q_heads.specs.Lanes.{Lanes}
use Rattle.q_heads.proofs.LaneWalk.{none_behind_it, other_behind_it, own_behind_it}
use Rattle.q_heads.proofs.heads.Heads.behind_in_lane.Goals as goal

pub returns-in_err-next : goal.returns-in_err-next
returns-in_err-next c =
    let e = c.args.ticket.now in
    c.from_residual.ensures ∙ sym (none_behind_it e c.self.inside.tickets.items (sym c.behind.ensures.is ∙ c.in_err-next.was))
    ∙ ap (λ (s : Lanes). find (λ x. is_of e.group x && goes_before e x) s.items) c.self.view_is

pub returns-then-next-ticket : goal.returns-then-next-ticket
returns-then-next-ticket c =
    let e = c.args.ticket.now in
    sym (own_behind_it e c.self.inside.tickets.items c.in_ok-next.next (sym c.behind.ensures.is ∙ c.in_ok-next.was) c.if-next-ticket.true)
    ∙ ap (λ (s : Lanes). find (λ x. is_of e.group x && goes_before e x) s.items) c.self.view_is

pub returns-else-next-ticket : goal.returns-else-next-ticket
returns-else-next-ticket c =
    let e = c.args.ticket.now in
    sym (other_behind_it e c.self.inside.tickets.items c.in_ok-next.next c.behind.ensures.rising (sym c.behind.ensures.is ∙ c.in_ok-next.was) c.if-next-ticket.false)
    ∙ ap (λ (s : Lanes). find (λ x. is_of e.group x && goes_before e x) s.items) c.self.view_is
