use Rattle.std.proofs.Common.{refl, subst, sym}
use Rattle.q_keyed.specs.Numbered.{values_of}
use Rattle.q_schedule.proofs.LineSames.{candidate_lined, find_left, fresh_same}
use Rattle.q_schedule.proofs.Schedules.{sound_turned}
use Rattle.q_schedule.specs.Sound.{facts_at, IsSound}
use Rattle.q_turns.specs.Turns.{Turning}
use Rattle.q_schedule.proofs.schedule.Schedule.leave.Goals as goal

pub invariant_of-self : goal.invariant_of-self
invariant_of-self c =
    let a = c.self.inside in
    subst (λ (t : Turning). IsSound t a.messages c.touch.new.candidates c.touch.new.stale a.next) (sym c.leave.ensures)
    (sound_turned a.turns a.messages a.candidates c.touch.new.candidates a.stale a.next c.self.invariant c.args.id c.touch.new.stale _ c.touch.ensures.stale c.touch.ensures.kept c.touch.ensures.room refl c.touch.ensures.tied
    (λ i s other. candidate_lined a.turns.lines _ a.turns.peers (facts_at (values_of a.messages.items) i) i s (fresh_same i _ (find_left c.args.id i other) c.args.transport s.transport a.turns.lines)))
