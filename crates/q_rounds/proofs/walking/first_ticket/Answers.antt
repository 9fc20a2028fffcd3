use Rattle.std.proofs.Common.{◌∙◌, sym}
use Rattle.q_sorted.specs.declared.ticket.Ticket.{Ticket}
use Rattle.q_rounds.specs.Listing.{space_in}
use Rattle.q_rounds.proofs.TicketWalk.{begins, walks, walks_smaller}
use Rattle.q_rounds.proofs.walking.first_ticket.Goals as goal

pub loop-at-init : goal.loop-at-init
loop-at-init c =
    begins (λ (e : Ticket). space_in c.args.sites.now.items c.args.peers.now.items e.item) c.args.round c.args.tickets.now.items c.first_of-at.ensures.rising c.first_of-at.result c.first_of-at.ensures.is

pub loop-at-smaller : goal.loop-at-smaller
loop-at-smaller c = walks_smaller c.args.tickets.now.items c.in-Some.ticket c.loop-at.at c.behind-at.result c.in-Some.is c.behind-at.ensures.is

pub loop-at-preserved : goal.loop-at-preserved
loop-at-preserved c =
    walks (λ (e : Ticket). space_in c.args.sites.now.items c.args.peers.now.items e.item) c.args.round c.args.tickets.now.items c.first_of-at.ensures.rising c.loop-at.at c.in-Some.ticket c.in-Some.is c.loop-at.invariant
    (sym c.has_space.ensures ∙ c.if-has_space.false) c.behind-at.result c.behind-at.ensures.is
