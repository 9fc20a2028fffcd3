use Rattle.q_schedule.proofs.Schedules.{sound_suspended}
use Rattle.q_schedule.proofs.schedule.Schedule.resume.Goals as goal

pub invariant_of-self : goal.invariant_of-self
invariant_of-self c =
    let a = c.self.inside in
    let s = c.resume.ensures in
    sound_suspended a.turns a.messages a.candidates c.resume.new.candidates a.stale a.next c.self.invariant c.resume.new.self _ s.suspended s.rest s.tied
