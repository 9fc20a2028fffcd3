use Rattle.std.proofs.Common.{◌∙◌, ◌<◌, ap, arith, length, List, map, refl, subst, sym}
use Rattle.std.proofs.lemmas.Bool.{lt-ltb}
use Rattle.std.specs.Prelude.{find}
use Rattle.q_heads.specs.Marks.{with_mark}
use Rattle.q_keyed.specs.Numbered.{item_at, Items, Numbered, put_at, values_of}
use Rattle.q_sorted.specs.Tickets.{Rises, Tickets}
use Rattle.q_rounds.specs.declared.peer.Peer.{Peer}
use Rattle.q_rounds.specs.Jobs.{round_of}
use Rattle.q_rounds.specs.Listing.{ticket_in}
use Rattle.q_rounds.specs.Rounds.{changed_number, has_last, started}
use Rattle.q_rounds.proofs.Bounds.{few_passed, passed_part}
use Rattle.q_rounds.proofs.Changed.{changed_none, changed_put}
use Rattle.q_rounds.proofs.Steps.{few_between, sound_from, sound_sent}
use Rattle.q_rounds.proofs.TicketLaws.{if_some}
use Rattle.q_rounds.proofs.rounds.Rounds.start.Goals as goal

pub returns-in_default : goal.returns-in_default
returns-in_default c =
    let now = c.args.self.now in
    let none = sym (ap (λ (v : Items Peer). item_at c.args.number v.items) c.self.view_is) ∙ sym (c.copied.ensures ∙ c.get.ensures) ∙ c.in_default.is in
    ap (λ (ks : List (Numbered Peer)). record now { items = ks }) (sym (changed_none c.args.number (started c.args.last) now.items none))

pub changed_count-self-inside-requires-clause-part : goal.changed_count-self-inside-requires-clause-part
changed_count-self-inside-requires-clause-part c =
    let a = c.self.inside in
    passed_part a.peers a.rounds a.fresh a.tickets a.passed c.self.invariant c.stand_apart.ensures.apart c.args.number c.in-Some.peer (sym (c.copied.ensures ∙ c.get.ensures) ∙ c.in-Some.is)

pub changed_count-self-inside-requires-clause-few : goal.changed_count-self-inside-requires-clause-few
changed_count-self-inside-requires-clause-few c =
    let a = c.self.inside in
    few_passed a.peers a.rounds a.fresh a.tickets a.passed c.self.invariant c.stand_apart.ensures.apart c.stand_apart.ensures.within c.stand_apart.ensures.few

pub put_in-requires : goal.put_in-requires
put_in-requires c =
    let a = c.self.inside in
    let there = sym (c.copied.ensures ∙ c.get.ensures) ∙ c.in-Some.is in
    let id = ap (λ (p : Peer). p.id) c.started-next.ensures in
    let site = ap (λ (p : Peer). p.site) c.started-next.ensures in
    let rows = ap (λ (p : Peer). p.waiting) c.started-next.ensures in
    let last = ap (λ (p : Peer). p.last) c.started-next.ensures in
    let fit = c.self.invariant.fit c.args.number c.in-Some.peer there in
    let own = ap (λ l. find (has_last l) (values_of a.peers.items)) last ∙ ap (λ (v : Items Peer). find (has_last c.args.last) (values_of v.items)) c.self.view_is ∙ c.requires.own in
    let is = c.ticket_in.ensures ∙ ap (λ r. ticket_in r c.args.number c.in-Some.peer) c.round_of-round.ensures in
    let rising = subst (λ (e : Tickets). Rises e.items) c.take_out.ensures c.stand_sorted-2.ensures.rising in
    let few = few_between a.peers a.rounds a.fresh a.tickets a.passed c.self.invariant c.stand_apart.ensures.apart c.args.number c.in-Some.peer c.started-next.result there
    (record { below = fit.below; some = omega (arith, rows, fit.some); few = omega (arith, rows, fit.few) }) id site rows own
    (lt-ltb 0 c.started-next.result.last (omega (arith, last, c.requires.some))) c.ticket_in.result (ticket_in (round_of a.rounds.items c.in-Some.peer) c.args.number c.started-next.result) is refl rising
    in
    let count = ap (λ (e : Tickets). length e.items) c.take_out.ensures in
    let room = ap (λ (e : Tickets). e.room) c.take_out.ensures in
    if_some c.ticket_in-2.result (length c.take_out.new.tickets.items < c.take_out.new.tickets.room)
    (omega (arith, few, count, room, c.self.invariant.ticket_room, c.stand_apart.ensures.within))

pub invariant_of-self : goal.invariant_of-self
invariant_of-self c =
    let a = c.self.inside in
    let there = sym (c.copied.ensures ∙ c.get.ensures) ∙ c.in-Some.is in
    let id = ap (λ (p : Peer). p.id) c.started-next.ensures in
    let site = ap (λ (p : Peer). p.site) c.started-next.ensures in
    let rows = ap (λ (p : Peer). p.waiting) c.started-next.ensures in
    let last = ap (λ (p : Peer). p.last) c.started-next.ensures in
    let fit = c.self.invariant.fit c.args.number c.in-Some.peer there in
    let own = ap (λ l. find (has_last l) (values_of a.peers.items)) last ∙ ap (λ (v : Items Peer). find (has_last c.args.last) (values_of v.items)) c.self.view_is ∙ c.requires.own in
    let is = c.ticket_in.ensures ∙ ap (λ r. ticket_in r c.args.number c.in-Some.peer) c.round_of-round.ensures in
    let next_is = c.ticket_in-2.ensures ∙ ap (λ r. ticket_in r c.args.number c.started-next.result) c.round_of-round.ensures in
    sound_from _ c.put.new.self a.rounds a.rounds _ c.remove.new.self _ c.put_in.new.tickets c.changed_count-self-inside.result c.put.ensures refl c.remove.ensures
    (c.put_in.ensures ∙ ap (λ (t : Tickets). record t { items = with_mark c.ticket_in-2.result t.items }) c.take_out.ensures)
    (sound_sent a.peers a.rounds a.fresh a.tickets a.passed c.self.invariant c.stand_apart.ensures.apart c.args.number c.in-Some.peer c.started-next.result there
    (record { below = fit.below; some = omega (arith, rows, fit.some); few = omega (arith, rows, fit.few) }) id site rows own
    (lt-ltb 0 c.started-next.result.last (omega (arith, last, c.requires.some))) c.ticket_in.result c.ticket_in-2.result is next_is c.changed_count-self-inside.result c.changed_count-self-inside.ensures)

pub returns : goal.returns
returns c =
    let a = c.self.inside in
    let n = c.args.number in
    let there = sym (c.copied.ensures ∙ c.get.ensures) ∙ c.in-Some.is in
    c.put.ensures
    ∙ ap (λ (x : Peer). record a.peers { items = map (put_at n x) a.peers.items }) c.started-next.ensures
    ∙ ap (λ (ks : List (Numbered Peer)). record a.peers { items = ks }) (changed_put n (started c.args.last) c.in-Some.peer a.peers.items c.stand_apart.ensures.apart there)
    ∙ ap (λ (v : Items Peer). record v { items = map (changed_number n (started c.args.last)) v.items }) c.self.view_is
