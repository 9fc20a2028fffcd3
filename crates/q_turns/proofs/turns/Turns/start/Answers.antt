use Rattle.std.proofs.Common.{◌∙◌, ap, List, refl, sym}
use Rattle.std.specs.Prelude.{find}
use Rattle.q_keyed.proofs.Values.{held_item}
use Rattle.q_keyed.specs.Numbered.{Items, Numbered, values_of}
use Rattle.q_rounds.proofs.Changed.{changed_put}
use Rattle.q_rounds.specs.declared.peer.Peer.{Peer}
use Rattle.q_rounds.specs.Rounds.{has_last, is_peer, started}
use Rattle.q_turns.proofs.PeerLaws.{change_there, have_started, start_nowhere}
use Rattle.q_turns.proofs.TurnSteps.{sound_from, sound_put}
use Rattle.q_turns.proofs.TurnViews.{peers_seen}
use Rattle.q_turns.specs.Sound.{jobs_of}
use Rattle.q_turns.specs.Turns.{started_at, Turning}
use Rattle.q_turns.proofs.turns.Turns.start.Goals as goal

pub returns-in_default : goal.returns-in_default
returns-in_default c =
    let a = c.self.inside in
    sym c.self.view_is
    ∙ peers_seen a.lines.items a.peers a.peers a.suspended a.line_room c.args.self.now (started_at c.args.id c.args.site.now c.args.last) c.self.view_is refl
    (sym (start_nowhere c.args.id c.args.site.now a.peers.items (sym c.find.ensures ∙ c.in_default.is) c.args.last))

pub start-requires-clause-own : goal.start-requires-clause-own
start-requires-clause-own c = ap (λ (s : Turning). find (has_last c.args.last) s.peers) c.self.view_is ∙ c.requires.own

pub invariant_of-self : goal.invariant_of-self
invariant_of-self c =
    let a = c.self.inside in
    let s = c.stand_apart.ensures in
    let id = c.args.id in
    let site = c.args.site.now in
    let n = c.in-Some.number in
    let ks = a.peers.items in
    let found = sym c.find.ensures ∙ c.in-Some.is in
    let it = held_item (is_peer id site) n ks s.apart found in
    sound_from a.lines.items _ c.start.new.self a.lanes a.lanes a.heads a.heads a.messages a.messages a.suspended a.line_room
    (c.start.ensures ∙ ap (λ (xs : List (Numbered Peer)). record a.peers { items = xs }) (sym (changed_put n (started c.args.last) it.0 ks s.apart it.1))) refl refl refl
    (sound_put a.lines.items a.peers a.lanes a.heads a.messages a.suspended a.line_room c.self.invariant n it.0 (started c.args.last it.0) it.1 refl refl
    (have_started id site n it.0 ks s.apart s.keys found it.1 (jobs_of a.lines.items) c.args.last c.self.invariant.lines_are.jobs))

pub returns : goal.returns
returns c =
    let a = c.self.inside in
    let s = c.stand_apart.ensures in
    let id = c.args.id in
    let site = c.args.site.now in
    let n = c.in-Some.number in
    let found = sym c.find.ensures ∙ c.in-Some.is in
    let it = held_item (is_peer id site) n a.peers.items s.apart found in
    peers_seen a.lines.items a.peers c.start.new.self a.suspended a.line_room c.args.self.now (started_at id site c.args.last) c.self.view_is
    (ap (λ (v : Items Peer). v.room) c.start.ensures)
    (ap (λ (v : Items Peer). values_of v.items) c.start.ensures
    ∙ change_there id site n it.0 a.peers.items s.apart s.keys found it.1 (started c.args.last))
