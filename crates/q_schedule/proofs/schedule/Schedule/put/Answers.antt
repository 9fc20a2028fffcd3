use Rattle.std.proofs.Common.{refl, subst, sym}
use Rattle.q_keyed.specs.Numbered.{values_of}
use Rattle.q_schedule.proofs.Sames.{account_put}
use Rattle.q_schedule.proofs.Schedules.{sound_where}
use Rattle.q_schedule.specs.Sound.{facts_at, IsSound}
use Rattle.q_turns.specs.Turns.{Turning}
use Rattle.q_schedule.proofs.schedule.Schedule.put.Goals as goal

pub invariant_of-self : goal.invariant_of-self
invariant_of-self c =
    let a = c.self.inside in
    subst (λ (t : Turning). IsSound t a.messages c.touch_where.new.candidates c.touch_where.new.stale a.next) (sym c.put.ensures)
    (sound_where a.turns a.messages a.candidates c.touch_where.new.candidates a.stale a.next c.self.invariant c.touch_where.new.stale _ c.touch_where.ensures.kept c.touch_where.ensures.room refl c.touch_where.ensures.tied
    (λ i s current. account_put a.turns.lines a.turns.peers c.touch_where.new.stale (facts_at (values_of a.messages.items) i) i s current c.args.transport c.args.job c.is_changed-is_changed.result
    c.is_changed-is_changed.ensures c.touch_where.ensures.stale))
