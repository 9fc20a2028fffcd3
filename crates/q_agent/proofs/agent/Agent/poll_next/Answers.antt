use Rattle.std.proofs.Common.{None, Some, map, refl}
use Rattle.slab.specs.Slab.{with_value}
use Rattle.q_agent.specs.Sessions.{next_polled}
use Rattle.q_agent.specs.Slots.{shown_at}
use Rattle.q_agent.proofs.Kept.{rising}
use Rattle.q_agent.proofs.NextPollLaws.{at_next, file_next, never_vacant, on_err, out_holds, polled_on, polled_over, sound_next, stopped, written}
use Rattle.q_agent.proofs.WaitingLaws.{next_spares, rises_shown}
use Rattle.q_agent.proofs.agent.Agent.poll_next.Goals as goal

pub next_slot-requires : goal.next_slot-requires
next_slot-requires g c = rising g.L.Link.view c.self.inside.sessions c.self.inside.slots.items c.deref.result.now c.self.invariant c.deref.ensures.value

pub returns-in_default-get_mut-clause-ok : goal.returns-in_default-get_mut-clause-ok
returns-in_default-get_mut-clause-ok g c =
    absurd (never_vacant g.L.Link.view c.self.inside.sessions c.self.inside.slots.items c.deref.result.now c.self.inside.polled c.in-Some.place c.in-Some.slot c.self.invariant c.deref.ensures.value c.in-Some.ensures.some c.in_default-get_mut.ensures.value)

pub poll-requires-clause-there : goal.poll-requires-clause-there
poll-requires-clause-there g c t =
    let i = c.self.inside in
    let s = c.in-Some in
    let h = c.in-Some-get_mut.found.now in
    let a = at_next g.L.Link.view i.sessions i.slots.items c.deref.result.now i.polled s.place s.slot h c.self.invariant c.deref.ensures.value s.ensures.some c.in-Some-get_mut.ensures.value in
    file_next g.L.Link.view i.sessions i.slots.items i.polled s.place s.slot h a g.H.Host.tells (g.H.Host.view c.args.host.now) c.args.self.now c.self.view_is (c.requires.there t)

pub poll-requires-clause-sound : goal.poll-requires-clause-sound
poll-requires-clause-sound g c =
    let i = c.self.inside in
    let s = c.in-Some in
    let h = c.in-Some-get_mut.found.now in
    let a = at_next g.L.Link.view i.sessions i.slots.items c.deref.result.now i.polled s.place s.slot h c.self.invariant c.deref.ensures.value s.ensures.some c.in-Some-get_mut.ensures.value in
    sound_next g.L.Link.view i.sessions i.slots.items i.polled s.place s.slot h a

pub invariant_of-self-in_err-report : goal.invariant_of-self-in_err-report
invariant_of-self-in_err-report g c =
    let i = c.self.inside in
    let s = c.in-Some in
    let h = c.in-Some-get_mut.found.now in
    let a = at_next g.L.Link.view i.sessions i.slots.items c.deref.result.now i.polled s.place s.slot h c.self.invariant c.deref.ensures.value s.ensures.some c.in-Some-get_mut.ensures.value in
    (written g.L.Link.view i.sessions i.slots.items i.polled s.place s.slot h a c.poll.new.self c.poll.ensures.sound).holds

pub returns-in_err-report-clause-err : goal.returns-in_err-report-clause-err
returns-in_err-report-clause-err g c =
    let i = c.self.inside in
    let s = c.in-Some in
    let h = c.in-Some-get_mut.found.now in
    let a = at_next g.L.Link.view i.sessions i.slots.items c.deref.result.now i.polled s.place s.slot h c.self.invariant c.deref.ensures.value s.ensures.some c.in-Some-get_mut.ensures.value in
    on_err c.from_residual.result _ (stopped g.L.Link.view i.sessions i.slots.items i.polled s.place s.slot h a c.args.self.now c.poll.new.self c.self.view_is c.poll.ensures.recipients c.poll.ensures.sound)

pub invariant_of-self-in_default-report : goal.invariant_of-self-in_default-report
invariant_of-self-in_default-report g c =
    let i = c.self.inside in
    let s = c.in-Some in
    let h = c.in-Some-get_mut.found.now in
    let a = at_next g.L.Link.view i.sessions i.slots.items c.deref.result.now i.polled s.place s.slot h c.self.invariant c.deref.ensures.value s.ensures.some c.in-Some-get_mut.ensures.value in
    (written g.L.Link.view i.sessions i.slots.items i.polled s.place s.slot h a c.poll.new.self c.poll.ensures.sound).holds

pub returns-in_default-report-clause-ok : goal.returns-in_default-report-clause-ok
returns-in_default-report-clause-ok g c =
    let i = c.self.inside in
    let s = c.in-Some in
    let h = c.in-Some-get_mut.found.now in
    let a = at_next g.L.Link.view i.sessions i.slots.items c.deref.result.now i.polled s.place s.slot h c.self.invariant c.deref.ensures.value s.ensures.some c.in-Some-get_mut.ensures.value in
    polled_on g.L.Link.view i.sessions i.slots.items i.polled s.place s.slot h a g.H.Host.tells (g.H.Host.view c.args.host.now) c.args.now (g.N.Hops.view c.args.hops.now) (g.N.Hops.view c.poll.new.hops) c.args.self.now c.poll.new.self c.in_ok-report.report
    c.self.view_is c.in_default-report.is c.in_ok-report.ensures.went c.poll.ensures.sound

pub invariant_of-self-2 : goal.invariant_of-self-2
invariant_of-self-2 g c =
    let i = c.self.inside in
    let s = c.in-Some in
    let h = c.in-Some-get_mut.found.now in
    let a = at_next g.L.Link.view i.sessions i.slots.items c.deref.result.now i.polled s.place s.slot h c.self.invariant c.deref.ensures.value s.ensures.some c.in-Some-get_mut.ensures.value in
    out_holds g.L.Link.view i.sessions i.slots.items i.polled s.place s.slot h a c.poll.new.self c.try_remove.new.self c.remove.new.self.items c.try_remove.ensures.updates c.remove.ensures.items

pub returns-clause-ok : goal.returns-clause-ok
returns-clause-ok g c =
    let i = c.self.inside in
    let s = c.in-Some in
    let h = c.in-Some-get_mut.found.now in
    let a = at_next g.L.Link.view i.sessions i.slots.items c.deref.result.now i.polled s.place s.slot h c.self.invariant c.deref.ensures.value s.ensures.some c.in-Some-get_mut.ensures.value in
    polled_over g.L.Link.view i.sessions i.slots.items i.polled s.place s.slot h a g.H.Host.tells (g.H.Host.view c.args.host.now) c.args.now (g.N.Hops.view c.args.hops.now) (g.N.Hops.view c.poll.new.hops) c.args.self.now c.poll.new.self c.in_ok-report.report c.in-Some-report.report c.try_remove.new.self c.remove.new.self.items
    c.self.view_is c.in-Some-report.is c.in_ok-report.ensures.went c.try_remove.ensures.updates c.remove.ensures.items

pub returns-in_default-get_mut-clause-spares : goal.returns-in_default-get_mut-clause-spares
returns-in_default-get_mut-clause-spares g c =
    absurd (never_vacant g.L.Link.view c.self.inside.sessions c.self.inside.slots.items c.deref.result.now c.self.inside.polled c.in-Some.place c.in-Some.slot c.self.invariant c.deref.ensures.value c.in-Some.ensures.some c.in_default-get_mut.ensures.value)

pub returns-in_default-report-clause-spares : goal.returns-in_default-report-clause-spares
returns-in_default-report-clause-spares g c =
    let i = c.self.inside in
    let s = c.in-Some in
    next_spares g.H.Host.tells (g.H.Host.view c.args.host.now) c.args.now (g.N.Hops.view c.args.hops.now) (g.N.Hops.view c.poll.new.hops) (next_polled c.args.self.now) None c.args.self.now
    (record { listed = map (shown_at g.L.Link.view (with_value i.sessions s.slot.key c.poll.new.self)) i.slots.items; polled = s.slot.number })
    (rises_shown g.L.Link.view i.sessions i.slots.items i.polled c.args.self.now c.self.invariant c.self.view_is) refl (returns-in_default-report-clause-ok g c)

pub returns-clause-spares : goal.returns-clause-spares
returns-clause-spares g c =
    let i = c.self.inside in
    let s = c.in-Some in
    next_spares g.H.Host.tells (g.H.Host.view c.args.host.now) c.args.now (g.N.Hops.view c.args.hops.now) (g.N.Hops.view c.poll.new.hops) (next_polled c.args.self.now) (Some c.in-Some-report.report) c.args.self.now
    (record { listed = map (shown_at g.L.Link.view c.try_remove.new.self) c.remove.new.self.items; polled = s.slot.number })
    (rises_shown g.L.Link.view i.sessions i.slots.items i.polled c.args.self.now c.self.invariant c.self.view_is) refl (returns-clause-ok g c)
