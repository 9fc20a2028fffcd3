use Rattle.std.proofs.Common.{◌∙◌, ap, arith, refl}
use Rattle.q_keyed.specs.Numbered.{Items, item_at}
use Rattle.q_rounds.specs.declared.peer.Peer.{Peer}
use Rattle.q_rounds.proofs.Bounds.{few_passed, few_rows, has_round, own_part, passed_part}
use Rattle.q_rounds.proofs.Steps.{sound_from, sound_rows}
use Rattle.q_rounds.proofs.rounds.Rounds.put_rows.Goals as goal

pub change_rows-requires-clause-part : goal.change_rows-requires-clause-part
change_rows-requires-clause-part c =
    let a = c.self.inside in
    own_part a.peers a.rounds a.fresh a.tickets a.passed c.self.invariant c.stand_apart.ensures.apart c.args.number c.args.peer.now (ap (λ (v : Items Peer). item_at c.args.number v.items) c.self.view_is ∙ c.requires.there)

pub change_rows-requires-clause-few : goal.change_rows-requires-clause-few
change_rows-requires-clause-few c =
    let a = c.self.inside in
    let few = few_rows a.peers a.rounds a.fresh a.tickets a.passed c.self.invariant c.stand_apart.ensures.apart c.args.peer.now.id c.args.peer.now.site.transport c.stand_apart.ensures.within c.stand_apart.ensures.few in
    omega (arith, few, c.requires.few)

pub change_rows-requires-clause-room : goal.change_rows-requires-clause-room
change_rows-requires-clause-room c = λ none.
    let a = c.self.inside in
    absurd (has_round a.peers a.rounds a.fresh a.tickets a.passed c.self.invariant c.stand_apart.ensures.apart c.args.number c.args.peer.now (ap (λ (v : Items Peer). item_at c.args.number v.items) c.self.view_is ∙ c.requires.there) none)

pub changed_count-self-inside-requires-clause-part : goal.changed_count-self-inside-requires-clause-part
changed_count-self-inside-requires-clause-part c =
    let a = c.self.inside in
    passed_part a.peers a.rounds a.fresh a.tickets a.passed c.self.invariant c.stand_apart.ensures.apart c.args.number c.args.peer.now (ap (λ (v : Items Peer). item_at c.args.number v.items) c.self.view_is ∙ c.requires.there)

pub changed_count-self-inside-requires-clause-few : goal.changed_count-self-inside-requires-clause-few
changed_count-self-inside-requires-clause-few c =
    let a = c.self.inside in
    few_passed a.peers a.rounds a.fresh a.tickets a.passed c.self.invariant c.stand_apart.ensures.apart c.stand_apart.ensures.within c.stand_apart.ensures.few

pub invariant_of-self : goal.invariant_of-self
invariant_of-self c =
    let a = c.self.inside in
    let there = ap (λ (v : Items Peer). item_at c.args.number v.items) c.self.view_is ∙ c.requires.there in
    sound_from _ c.put.new.self _ c.change_rows.new.rounds a.fresh a.fresh a.tickets a.tickets c.changed_count-self-inside.result c.put.ensures c.change_rows.ensures.rest refl refl
    (sound_rows a.peers a.rounds a.fresh a.tickets a.passed c.self.invariant c.stand_apart.ensures.apart c.args.peer.now _ c.change_rows.new.rounds.items c.change_rows.ensures.set c.args.number c.args.next.now there
    (record { below = (c.self.invariant.fit c.args.number c.args.peer.now there).below; some = c.requires.some; few = c.requires.few }) c.requires.same refl c.changed_count-self-inside.result c.changed_count-self-inside.ensures)
