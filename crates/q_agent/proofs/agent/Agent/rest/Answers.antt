use Rattle.std.proofs.Common.{List, ap, slice_get, sym, ◌∙◌}
use Rattle.q_agent.specs.declared.slot.Slot.{Slot}
use Rattle.q_agent.proofs.NextPollLaws.{rest_holds, rested_first}
use Rattle.q_agent.proofs.WaitingLaws.{rest_spares}
use Rattle.q_agent.proofs.agent.Agent.rest.Goals as goal

pub invariant_of-self-2 : goal.invariant_of-self-2
invariant_of-self-2 g c =
    let i = c.self.inside in
    let at = ap (λ (ss : List Slot). slice_get ss 0) (sym c.deref.ensures.value) ∙ sym c.in-Some.ensures.value in
    rest_holds g.L.Link.view i.sessions i.slots.items c.in-Some.first.now c.in-Some-get_mut.found.now c.rest.new.self c.self.invariant at (sym c.in-Some-get_mut.ensures.value) c.rest.ensures.recipients c.rest.ensures.rested

pub returns-clause-rests : goal.returns-clause-rests
returns-clause-rests g c =
    let i = c.self.inside in
    let at = ap (λ (ss : List Slot). slice_get ss 0) (sym c.deref.ensures.value) ∙ sym c.in-Some.ensures.value in
    rested_first g.L.Link.view i.sessions i.slots.items i.polled c.in-Some.first.now c.in-Some-get_mut.found.now c.rest.new.self c.args.self.now c.self.invariant at (sym c.in-Some-get_mut.ensures.value) c.self.view_is c.rest.ensures.recipients c.rest.ensures.rested

pub returns-clause-spares : goal.returns-clause-spares
returns-clause-spares g c = rest_spares (g.N.Hops.view c.args.hops.now) (g.N.Hops.view c.rest.new.hops) c.args.self.now _ (returns-clause-rests g c) c.rest.ensures.counts
