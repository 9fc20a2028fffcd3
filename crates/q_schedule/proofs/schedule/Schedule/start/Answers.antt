use Rattle.std.proofs.Common.{refl, subst, sym}
use Rattle.q_keyed.specs.Numbered.{values_of}
use Rattle.q_schedule.proofs.PeerSames.{started_same}
use Rattle.q_schedule.proofs.Schedules.{sound_stays}
use Rattle.q_schedule.specs.Sound.{facts_at, IsSound}
use Rattle.q_turns.specs.Turns.{Turning}
use Rattle.q_schedule.proofs.schedule.Schedule.start.Goals as goal

pub invariant_of-self : goal.invariant_of-self
invariant_of-self c =
    let a = c.self.inside in
    subst (λ (t : Turning). IsSound t a.messages a.candidates a.stale a.next) (sym c.start.ensures)
    (sound_stays a.turns a.messages a.candidates a.candidates a.stale a.next c.self.invariant _ refl c.self.invariant.tied
    (λ i s. started_same c.args.id c.args.site.now a.turns.lines c.args.last a.turns.peers (facts_at (values_of a.messages.items) i) i s))
