use Rattle.std.proofs.Common.{◌∙◌, ap, refl, subst, sym}
use Rattle.std.specs.Prelude.{◌&&◌, ◌==◌}
use Rattle.q_jobs.proofs.LineWalks.{flipped}
use Rattle.q_keyed.specs.Numbered.{values_of}
use Rattle.q_schedule.proofs.PeerSames.{gained_same}
use Rattle.q_schedule.proofs.Schedules.{sound_turned}
use Rattle.q_schedule.specs.Sound.{facts_at, IsSound}
use Rattle.q_turns.specs.Turns.{Turning}
use Rattle.q_schedule.proofs.schedule.Schedule.gain.Goals as goal

pub invariant_of-self : goal.invariant_of-self
invariant_of-self c =
    let a = c.self.inside in
    subst (λ (t : Turning). IsSound t a.messages c.touch.new.candidates c.touch.new.stale a.next) (sym c.gain.ensures)
    (sound_turned a.turns a.messages a.candidates c.touch.new.candidates a.stale a.next c.self.invariant c.args.id c.touch.new.stale _ c.touch.ensures.stale c.touch.ensures.kept c.touch.ensures.room refl c.touch.ensures.tied
    (λ i s other. gained_same c.args.id c.args.site.now a.turns.lines a.turns.peers (facts_at (values_of a.messages.items) i) i s (ap (λ b. b && (s.transport == c.args.site.now.transport)) (flipped i c.args.id ∙ other))))
