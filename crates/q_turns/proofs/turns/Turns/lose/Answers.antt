use Rattle.std.proofs.Common.{◌∙◌, ◌<◌, ap, List, refl, sym}
use Rattle.std.specs.Prelude.{filter}
use Rattle.q_heads.specs.Lanes.{Lanes}
use Rattle.q_keyed.specs.Numbered.{Items, Numbered, values_of}
use Rattle.q_rounds.proofs.Changed.{changed_put}
use Rattle.q_sorted.specs.declared.ticket.Ticket.{Ticket}
use Rattle.q_sorted.specs.Tickets.{is_another}
use Rattle.q_turns.proofs.Having.{all_wait}
use Rattle.q_turns.proofs.PeerLaws.{go_there, have_less, have_there, lose_nowhere, lose_there, more_left, none_left, not_gone, some_there}
use Rattle.q_turns.proofs.TurnSteps.{sound_from, sound_less, sound_put}
use Rattle.q_turns.proofs.TurnViews.{peers_seen}
use Rattle.q_rounds.specs.declared.peer.Peer.{Peer}
use Rattle.q_turns.specs.Laning.{empty_lane, lanes_without}
use Rattle.q_turns.specs.Sound.{jobs_of}
use Rattle.q_rounds.specs.Rounds.{lost}
use Rattle.q_turns.specs.Turns.{lost_at}
use Rattle.q_turns.proofs.turns.Turns.lose.Goals as goal

pub returns-in_default : goal.returns-in_default
returns-in_default c =
    let a = c.self.inside in
    sym c.self.view_is
    ∙ peers_seen a.lines.items a.peers a.peers a.suspended a.line_room c.args.self.now (lost_at c.args.id c.args.site.now) c.self.view_is refl
    (sym (lose_nowhere c.args.id c.args.site.now a.peers.items (sym c.find.ensures ∙ c.in_default.is) (all_wait (jobs_of a.lines.items) (values_of a.peers.items) c.self.invariant.lines_are.jobs)))

-- it was found under that number
pub returns-in_default-copied : goal.returns-in_default-copied
returns-in_default-copied c =
    absurd (not_gone c.args.id c.args.site.now c.in-Some.number c.self.inside.peers.items c.stand_apart.ensures.apart (sym c.find.ensures ∙ c.in-Some.is) (sym (c.copied.ensures ∙ c.get.ensures) ∙ c.in_default-copied.is))

pub lose-requires : goal.lose-requires
lose-requires c =
    some_there (λ p. 1 < p.waiting) c.in-Some.number c.in-Some-copied.peer c.self.inside.peers.items (sym (c.copied.ensures ∙ c.get.ensures) ∙ c.in-Some-copied.is) c.if-peer-gt1.true

pub invariant_of-self : goal.invariant_of-self
invariant_of-self c =
    let a = c.self.inside in
    let s = c.stand_apart.ensures in
    let n = c.in-Some.number in
    let p = c.in-Some-copied.peer in
    let ks = a.peers.items in
    let there = sym (c.copied.ensures ∙ c.get.ensures) ∙ c.in-Some-copied.is in
    sound_from a.lines.items _ c.lose.new.self a.lanes a.lanes a.heads a.heads a.messages a.messages a.suspended a.line_room
    (c.lose.ensures ∙ ap (λ (xs : List (Numbered Peer)). record a.peers { items = xs }) (sym (changed_put n lost p ks s.apart there))) refl refl refl
    (sound_put a.lines.items a.peers a.lanes a.heads a.messages a.suspended a.line_room c.self.invariant n p (lost p) there refl refl
    (have_there c.args.id c.args.site.now n p ks s.apart s.keys (sym c.find.ensures ∙ c.in-Some.is) there (jobs_of a.lines.items) (lost p) c.self.invariant.lines_are.jobs refl refl (more_left p c.if-peer-gt1.true)))

pub returns-then-peer-gt1 : goal.returns-then-peer-gt1
returns-then-peer-gt1 c =
    let a = c.self.inside in
    let s = c.stand_apart.ensures in
    let n = c.in-Some.number in
    let p = c.in-Some-copied.peer in
    peers_seen a.lines.items a.peers c.lose.new.self a.suspended a.line_room c.args.self.now (lost_at c.args.id c.args.site.now) c.self.view_is
    (ap (λ (v : Items Peer). v.room) c.lose.ensures)
    (ap (λ (v : Items Peer). values_of v.items) c.lose.ensures
    ∙ lose_there c.args.id c.args.site.now n p a.peers.items s.apart s.keys (sym c.find.ensures ∙ c.in-Some.is) (sym (c.copied.ensures ∙ c.get.ensures) ∙ c.in-Some-copied.is)
    (more_left p c.if-peer-gt1.true) (all_wait (jobs_of a.lines.items) (values_of a.peers.items) c.self.invariant.lines_are.jobs))

pub invariant_of-self-2 : goal.invariant_of-self-2
invariant_of-self-2 c =
    let a = c.self.inside in
    let s = c.stand_apart.ensures in
    let n = c.in-Some.number in
    let p = c.in-Some-copied.peer in
    sound_from a.lines.items _ c.remove-2.new.self _ c.drop_lane.new.lanes _ c.take_out.new.heads _ c.remove.new.self a.suspended a.line_room
    c.remove-2.ensures
    (c.drop_lane.ensures ∙ ap (λ (v : Lanes). record a.lanes { items = lanes_without (empty_lane p.site a.lanes.items v.items) a.lanes.items }) c.take_out.ensures)
    c.take_out.ensures
    (c.remove.ensures ∙ ap (λ (e : Ticket). record a.messages { items = filter (is_another e) a.messages.items }) c.message_ticket.ensures)
    (sound_less a.lines.items a.peers a.lanes a.heads a.messages a.suspended a.line_room c.self.invariant n p c.head_of-head.result (sym (c.copied.ensures ∙ c.get.ensures) ∙ c.in-Some-copied.is) c.head_of-head.ensures c.stand_apart-2.ensures.apart c.stand_apart-2.ensures.keys
    (have_less c.args.id c.args.site.now n p a.peers.items s.apart s.keys (sym c.find.ensures ∙ c.in-Some.is) (sym (c.copied.ensures ∙ c.get.ensures) ∙ c.in-Some-copied.is) (jobs_of a.lines.items) c.self.invariant.lines_are.jobs))

pub returns : goal.returns
returns c =
    let a = c.self.inside in
    let s = c.stand_apart.ensures in
    let p = c.in-Some-copied.peer in
    peers_seen a.lines.items a.peers c.remove-2.new.self a.suspended a.line_room c.args.self.now (lost_at c.args.id c.args.site.now) c.self.view_is
    (ap (λ (v : Items Peer). v.room) c.remove-2.ensures)
    (ap (λ (v : Items Peer). values_of v.items) c.remove-2.ensures
    ∙ go_there c.args.id c.args.site.now c.in-Some.number p a.peers.items s.apart s.keys (sym c.find.ensures ∙ c.in-Some.is) (sym (c.copied.ensures ∙ c.get.ensures) ∙ c.in-Some-copied.is)
    (none_left p c.if-peer-gt1.false) (all_wait (jobs_of a.lines.items) (values_of a.peers.items) c.self.invariant.lines_are.jobs))
