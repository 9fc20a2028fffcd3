use Rattle.std.proofs.Common.{◌∙◌, ◌∷◌, ◌++◌, ◌<◌, [], ap, arith, length, refl, subst, sym}
use Rattle.std.proofs.lemmas.List.{length-map}
use Rattle.std.specs.Prelude.{find, IfSome}
use Rattle.q_keyed.specs.Numbered.{Items, Numbered, values_of}
use Rattle.q_rounds.specs.declared.peer.Peer.{Peer}
use Rattle.q_rounds.specs.Listing.{list_in, list_of, ticket_in}
use Rattle.q_rounds.specs.Rounds.{has_last, new_peer}
use Rattle.q_rounds.proofs.Bounds.{few_rows}
use Rattle.q_rounds.proofs.FewRounds.{few_rounds}
use Rattle.q_rounds.proofs.ListLaws.{free_listed}
use Rattle.q_rounds.proofs.Steps.{come_low, few_tickets, sound_come, sound_from}
use Rattle.q_rounds.proofs.TicketLaws.{if_some}
use Rattle.q_rounds.proofs.rounds.Rounds.add.Goals as goal

pub change_rows-requires-clause-few : goal.change_rows-requires-clause-few
change_rows-requires-clause-few c =
    let a = c.self.inside in
    let p = c.new-peer.result in
    let few = few_rows a.peers a.rounds a.fresh a.tickets a.passed c.self.invariant c.stand_apart.ensures.apart p.id p.site.transport c.stand_apart.ensures.within c.stand_apart.ensures.few in
    omega (arith, few)

pub change_rows-requires-clause-room : goal.change_rows-requires-clause-room
change_rows-requires-clause-room c = λ none.
    let a = c.self.inside in
    let few = few_rounds a.rounds.room a.rounds.items (values_of a.peers.items) c.stand_apart-2.ensures.apart c.stand_apart-2.ensures.keys c.self.invariant.counted in
    let space = subst (λ (v : Items Peer). length v.items < v.room) (sym c.self.view_is) c.requires.room in
    omega (arith, few, space, c.self.invariant.round_room, length-map a.peers.items (λ (k : Numbered Peer). k.item))

pub enlist-requires-clause-list : goal.enlist-requires-clause-list
enlist-requires-clause-list c =
    let a = c.self.inside in
    let p = c.new-peer.result in
    let rows = ap (λ (q : Peer). q.waiting) c.new-peer.ensures in
    let own = ap (λ (q : Peer). find (has_last q.last) (values_of a.peers.items)) c.new-peer.ensures ∙ ap (λ (v : Items Peer). find (has_last c.args.last) (values_of v.items)) c.self.view_is ∙ c.requires.own in
    let o_is = c.list_in.ensures ∙ ap (λ r. list_in r p) c.round_of-round.ensures in
    let low = come_low a.peers a.rounds a.fresh a.tickets a.passed c.self.invariant c.stand_apart.ensures.apart p _ c.change_rows.new.rounds.items c.change_rows.ensures.set c.push-number.result c.push-number.ensures.fresh
    (record { below = c.push-number.ensures.below; some = omega (arith, rows); few = omega (arith, rows) }) rows (ap (λ (q : Peer). q.passed) c.new-peer.ensures) own refl c.stand_apart-3.ensures.apart c.list_in.result o_is
    in
    subst (λ m. IfSome c.list_in.result (λ b. b < m)) (sym c.self.invariant.listed.count) low

pub enlist-requires-clause-free : goal.enlist-requires-clause-free
enlist-requires-clause-free c =
    let a = c.self.inside in
    free_listed (list_of a.rounds.items) a.peers.items a.peers.room a.fresh c.self.invariant.listed c.push-number.result c.push-number.ensures.fresh

pub put_in-requires : goal.put_in-requires
put_in-requires c =
    let a = c.self.inside in
    let few = few_tickets a.peers a.rounds a.fresh a.tickets a.passed c.self.invariant c.stand_apart.ensures.apart c.stand_sorted.ensures.rising in
    let space = subst (λ (v : Items Peer). length v.items < v.room) (sym c.self.view_is) c.requires.room in
    if_some c.ticket_in.result (length a.tickets.items < a.tickets.room) (omega (arith, few, space, c.self.invariant.ticket_room))

pub invariant_of-self : goal.invariant_of-self
invariant_of-self c =
    let a = c.self.inside in
    let p = c.new-peer.result in
    let rows = ap (λ (q : Peer). q.waiting) c.new-peer.ensures in
    let own = ap (λ (q : Peer). find (has_last q.last) (values_of a.peers.items)) c.new-peer.ensures ∙ ap (λ (v : Items Peer). find (has_last c.args.last) (values_of v.items)) c.self.view_is ∙ c.requires.own in
    let o_is = c.list_in.ensures ∙ ap (λ r. list_in r p) c.round_of-round.ensures in
    let e_is = c.ticket_in.ensures ∙ ap (λ r. ticket_in r c.push-number.result p) c.round_of-round.ensures in
    sound_from _ c.push-number.new.self _ c.change_rows.new.rounds _ c.enlist.new.fresh _ c.put_in.new.tickets a.passed c.push-number.ensures.items c.change_rows.ensures.rest c.enlist.ensures c.put_in.ensures
    (sound_come a.peers a.rounds a.fresh a.tickets a.passed c.self.invariant c.stand_apart.ensures.apart p _ c.change_rows.new.rounds.items c.change_rows.ensures.set c.push-number.result c.push-number.ensures.fresh
    (record { below = c.push-number.ensures.below; some = omega (arith, rows); few = omega (arith, rows) }) rows (ap (λ (q : Peer). q.passed) c.new-peer.ensures) own refl c.stand_apart-3.ensures.apart c.list_in.result c.ticket_in.result o_is e_is)

pub returns-clause-items : goal.returns-clause-items
returns-clause-items c =
    let a = c.self.inside in
    let n = c.push-number.result in
    c.push-number.ensures.items
    ∙ ap (λ (p : Peer). record a.peers { items = a.peers.items ++ record { number = n; item = p } ∷ [] }) c.new-peer.ensures
    ∙ ap (λ (v : Items Peer). record v { items = v.items ++ record { number = n; item = new_peer c.args.id c.args.site.now c.args.last } ∷ [] }) c.self.view_is
