use Rattle.std.proofs.Common.{◌∙◌, ap, arith, List, refl, subst, sym}
use Rattle.q_keyed.specs.Numbered.{AreApart, item_at, Items, Numbered}
use Rattle.q_rounds.specs.declared.peer.Peer.{Peer}
use Rattle.q_rounds.specs.Listing.{ticket_in}
use Rattle.q_rounds.proofs.Bounds.{few_passed, few_rows, has_round, own_part, passed_part}
use Rattle.q_rounds.proofs.Changed.{left_none}
use Rattle.q_rounds.proofs.Steps.{sound_from, sound_less}
use Rattle.q_rounds.proofs.rounds.Rounds.remove.Goals as goal

pub returns-in_default : goal.returns-in_default
returns-in_default c =
    let now = c.args.self.now in
    let none = sym (ap (λ (v : Items Peer). item_at c.args.number v.items) c.self.view_is) ∙ sym (c.copied.ensures ∙ c.get.ensures) ∙ c.in_default.is in
    ap (λ (ks : List (Numbered Peer)). record now { items = ks }) (sym (left_none c.args.number now.items none))

pub change_rows-requires-clause-part : goal.change_rows-requires-clause-part
change_rows-requires-clause-part c =
    let a = c.self.inside in
    own_part a.peers a.rounds a.fresh a.tickets a.passed c.self.invariant c.stand_apart.ensures.apart c.args.number c.in-Some.peer (sym (c.copied.ensures ∙ c.get.ensures) ∙ c.in-Some.is)

pub change_rows-requires-clause-few : goal.change_rows-requires-clause-few
change_rows-requires-clause-few c =
    let a = c.self.inside in
    let few = few_rows a.peers a.rounds a.fresh a.tickets a.passed c.self.invariant c.stand_apart.ensures.apart c.in-Some.peer.id c.in-Some.peer.site.transport c.stand_apart.ensures.within c.stand_apart.ensures.few in
    omega (arith, few)

pub change_rows-requires-clause-room : goal.change_rows-requires-clause-room
change_rows-requires-clause-room c = λ none.
    let a = c.self.inside in
    absurd (has_round a.peers a.rounds a.fresh a.tickets a.passed c.self.invariant c.stand_apart.ensures.apart c.args.number c.in-Some.peer (sym (c.copied.ensures ∙ c.get.ensures) ∙ c.in-Some.is) none)

pub changed_count-self-inside-requires-clause-part : goal.changed_count-self-inside-requires-clause-part
changed_count-self-inside-requires-clause-part c =
    let a = c.self.inside in
    passed_part a.peers a.rounds a.fresh a.tickets a.passed c.self.invariant c.stand_apart.ensures.apart c.args.number c.in-Some.peer (sym (c.copied.ensures ∙ c.get.ensures) ∙ c.in-Some.is)

pub changed_count-self-inside-requires-clause-few : goal.changed_count-self-inside-requires-clause-few
changed_count-self-inside-requires-clause-few c =
    let a = c.self.inside in
    few_passed a.peers a.rounds a.fresh a.tickets a.passed c.self.invariant c.stand_apart.ensures.apart c.stand_apart.ensures.within c.stand_apart.ensures.few

pub invariant_of-self : goal.invariant_of-self
invariant_of-self c =
    let a = c.self.inside in
    let n = c.args.number in
    let still = subst (λ (v : Items Peer). AreApart v.items) c.remove-peer.ensures.items c.stand_apart-2.ensures.apart in
    let is = c.ticket_in.ensures ∙ ap (λ r. ticket_in r n c.in-Some.peer) c.round_of-round.ensures in
    sound_from _ c.remove-peer.new.self _ c.change_rows.new.rounds _ c.remove.new.self _ c.take_out.new.tickets c.changed_count-self-inside.result c.remove-peer.ensures.items c.change_rows.ensures.rest c.remove.ensures c.take_out.ensures
    (sound_less a.peers a.rounds a.fresh a.tickets a.passed c.self.invariant c.stand_apart.ensures.apart c.in-Some.peer _ c.change_rows.new.rounds.items c.change_rows.ensures.set n c.ticket_in.result (sym (c.copied.ensures ∙ c.get.ensures) ∙ c.in-Some.is) refl is still c.changed_count-self-inside.result c.changed_count-self-inside.ensures)
