use Rattle.std.proofs.Common.{◌∙◌, ◌<◌, ap, arith, Option, subst, sym}
use Rattle.std.specs.Prelude.{find}
use Rattle.q_keyed.specs.Numbered.{Items, values_of}
use Rattle.q_sorted.specs.declared.ticket.Ticket.{Ticket}
use Rattle.q_rounds.specs.declared.peer.Peer.{Peer}
use Rattle.q_rounds.specs.Listing.{space_in}
use Rattle.q_rounds.specs.Rounds.{next_in}
use Rattle.q_rounds.specs.Walking.{can_start, IsFirst}
use Rattle.q_rounds.proofs.NextPeer.{next_fresh, next_none, next_nowhere, next_ticket}
use Rattle.q_rounds.proofs.RoundRows.{round_below}
use Rattle.q_rounds.proofs.rounds.Rounds.next_for.Goals as goal

pub returns-in_default : goal.returns-in_default
returns-in_default c =
    let a = c.self.inside in
    let ds = c.args.sites.now.items in
    sym (next_nowhere ds c.args.id c.args.transport a.peers.room a.rounds.items a.peers.items c.stand_apart.ensures.apart c.self.invariant.fit a.rounds.room c.self.invariant.counted (sym c.find.ensures.is ∙ c.in_default.is))
    ∙ ap (λ (v : Items Peer). next_in ds c.args.transport c.args.id (values_of v.items)) c.self.view_is

pub first_fresh-requires : goal.first_fresh-requires
first_fresh-requires c =
    let a = c.self.inside in
    let below = round_below a.rounds.room a.rounds.items (values_of a.peers.items) c.args.id c.args.transport c.in-Some.round c.find.ensures.apart c.self.invariant.counted (sym c.find.ensures.is ∙ c.in-Some.is) in
    omega (arith, below, c.self.invariant.round_room, c.self.invariant.listed.count)

pub returns-in-Some-first_fresh : goal.returns-in-Some-first_fresh
returns-in-Some-first_fresh c =
    let a = c.self.inside in
    let ds = c.args.sites.now.items in
    let found = sym c.find.ensures.is ∙ c.in-Some.is in
    let below = round_below a.rounds.room a.rounds.items (values_of a.peers.items) c.args.id c.args.transport c.in-Some.round c.find.ensures.apart c.self.invariant.counted found in
    let list = c.self.invariant.listed.each c.in-Some.round (subst (λ m. c.in-Some.round < m) c.self.invariant.round_room below) in
    let next = next_fresh ds c.args.id c.args.transport a.peers.room a.rounds.items a.peers.items c.stand_apart.ensures.apart c.self.invariant.fit c.in-Some.round c.find.ensures.apart found c.in-Some-first_fresh.number
    (sym (ap (find (space_in ds a.peers.items)) list) ∙ sym c.first_fresh.ensures ∙ c.in-Some-first_fresh.is)
    ∙ ap (λ (v : Items Peer). next_in ds c.args.transport c.args.id (values_of v.items)) c.self.view_is in
    cc

pub returns-in_default-first_ticket : goal.returns-in_default-first_ticket
returns-in_default-first_ticket c =
    let a = c.self.inside in
    let ds = c.args.sites.now.items in
    let found = sym c.find.ensures.is ∙ c.in-Some.is in
    let below = round_below a.rounds.room a.rounds.items (values_of a.peers.items) c.args.id c.args.transport c.in-Some.round c.find.ensures.apart c.self.invariant.counted found in
    let list = c.self.invariant.listed.each c.in-Some.round (subst (λ m. c.in-Some.round < m) c.self.invariant.round_room below) in
    let fail = subst (λ (o : Option Ticket). IsFirst (can_start ds a.peers.items c.in-Some.round) a.tickets.items o) c.in_default-first_ticket.is c.first_ticket.ensures in
    sym (next_none ds c.args.id c.args.transport a.peers.room a.rounds.items a.peers.items c.stand_apart.ensures.apart c.self.invariant.fit c.in-Some.round c.find.ensures.apart found
    (sym (ap (find (space_in ds a.peers.items)) list) ∙ sym c.first_fresh.ensures ∙ c.in_default-first_fresh.is) a.tickets.items c.self.invariant.placed fail)
    ∙ ap (λ (v : Items Peer). next_in ds c.args.transport c.args.id (values_of v.items)) c.self.view_is

pub returns : goal.returns
returns c =
    let a = c.self.inside in
    let ds = c.args.sites.now.items in
    let found = sym c.find.ensures.is ∙ c.in-Some.is in
    let below = round_below a.rounds.room a.rounds.items (values_of a.peers.items) c.args.id c.args.transport c.in-Some.round c.find.ensures.apart c.self.invariant.counted found in
    let list = c.self.invariant.listed.each c.in-Some.round (subst (λ m. c.in-Some.round < m) c.self.invariant.round_room below) in
    let least = subst (λ (o : Option Ticket). IsFirst (can_start ds a.peers.items c.in-Some.round) a.tickets.items o) c.in-Some-first_ticket.is c.first_ticket.ensures in
    let next = next_ticket ds c.args.id c.args.transport a.peers.room a.rounds.items a.peers.items c.stand_apart.ensures.apart c.self.invariant.fit c.in-Some.round c.find.ensures.apart found
    (sym (ap (find (space_in ds a.peers.items)) list) ∙ sym c.first_fresh.ensures ∙ c.in_default-first_fresh.is) a.tickets.items c.self.invariant.placed c.self.invariant.starts c.in-Some-first_ticket.ticket least
    ∙ ap (λ (v : Items Peer). next_in ds c.args.transport c.args.id (values_of v.items)) c.self.view_is in
    cc
