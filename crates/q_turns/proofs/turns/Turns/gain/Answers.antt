use Rattle.std.proofs.Common.{◌∙◌, ◌+◌, ◌<◌, ◌^◌, ap, arith, List, refl, sym}
use Rattle.std.specs.Prelude.{find}
use Rattle.q_keyed.proofs.Values.{held_item}
use Rattle.q_keyed.specs.Numbered.{Items, Numbered, values_of}
use Rattle.q_rounds.proofs.Changed.{changed_put}
use Rattle.q_rounds.specs.declared.peer.Peer.{Peer}
use Rattle.q_rounds.specs.Rounds.{gained, is_peer}
use Rattle.q_turns.proofs.PeerLaws.{gain_absent, gain_there, have_there, not_found, one_waits, some_there, waiting_there}
use Rattle.q_turns.proofs.TurnSteps.{sound_from, sound_put}
use Rattle.q_turns.proofs.TurnViews.{peers_seen}
use Rattle.q_turns.specs.Sound.{jobs_of}
use Rattle.q_turns.specs.Turns.{gained_at, Turning, waiting_for}
use Rattle.q_turns.proofs.turns.Turns.gain.Goals as goal

pub come-requires-clause-absent : goal.come-requires-clause-absent
come-requires-clause-absent c =
    let test = is_peer c.args.id c.args.site.now in
    sym (ap (λ (s : Turning). find test s.peers) c.self.view_is) ∙ not_found c.args.id c.args.site.now c.self.inside.peers.items (sym c.find.ensures ∙ c.in_default.is)

pub returns-in_default : goal.returns-in_default
returns-in_default c =
    let now = c.args.self.now in
    let test = is_peer c.args.id c.args.site.now in
    c.come.ensures
    ∙ ap (λ ps. record now { peers = ps })
    (gain_absent c.args.id c.args.site.now now.peers
    (sym (ap (λ (s : Turning). find test s.peers) c.self.view_is) ∙ not_found c.args.id c.args.site.now c.self.inside.peers.items (sym c.find.ensures ∙ c.in_default.is)))

pub gain-requires : goal.gain-requires
gain-requires c =
    let s = c.stand_apart.ensures in
    let id = c.args.id in
    let site = c.args.site.now in
    let n = c.in-Some.number in
    let ks = c.self.inside.peers.items in
    let it = held_item (is_peer id site) n ks s.apart (sym c.find.ensures ∙ c.in-Some.is) in
    let count = waiting_there id site n it.0 ks s.apart s.keys (sym c.find.ensures ∙ c.in-Some.is) it.1
    ∙ ap (λ (t : Turning). waiting_for id site t.peers) c.self.view_is in
    some_there (λ p. p.waiting + 1 < 2 ^ 32) n it.0 ks it.1 (omega (arith, count, c.requires.few))

pub invariant_of-self : goal.invariant_of-self
invariant_of-self c =
    let a = c.self.inside in
    let s = c.stand_apart.ensures in
    let id = c.args.id in
    let site = c.args.site.now in
    let n = c.in-Some.number in
    let ks = a.peers.items in
    let found = sym c.find.ensures ∙ c.in-Some.is in
    let it = held_item (is_peer id site) n ks s.apart found in
    sound_from a.lines.items _ c.gain.new.self a.lanes a.lanes a.heads a.heads a.messages a.messages a.suspended a.line_room
    (c.gain.ensures ∙ ap (λ (xs : List (Numbered Peer)). record a.peers { items = xs }) (sym (changed_put n gained it.0 ks s.apart it.1))) refl refl refl
    (sound_put a.lines.items a.peers a.lanes a.heads a.messages a.suspended a.line_room c.self.invariant n it.0 (gained it.0) it.1 refl refl
    (have_there id site n it.0 ks s.apart s.keys found it.1 (jobs_of a.lines.items) (gained it.0) c.self.invariant.lines_are.jobs refl refl (one_waits it.0)))

pub returns : goal.returns
returns c =
    let a = c.self.inside in
    let s = c.stand_apart.ensures in
    let id = c.args.id in
    let site = c.args.site.now in
    let n = c.in-Some.number in
    let found = sym c.find.ensures ∙ c.in-Some.is in
    let it = held_item (is_peer id site) n a.peers.items s.apart found in
    peers_seen a.lines.items a.peers c.gain.new.self a.suspended a.line_room c.args.self.now (gained_at id site) c.self.view_is
    (ap (λ (v : Items Peer). v.room) c.gain.ensures)
    (ap (λ (v : Items Peer). values_of v.items) c.gain.ensures
    ∙ gain_there id site n it.0 a.peers.items s.apart s.keys found it.1)
