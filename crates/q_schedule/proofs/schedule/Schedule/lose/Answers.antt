use Rattle.std.proofs.Common.{◌∙◌, ap, refl, subst, sym}
use Rattle.q_keyed.specs.Numbered.{values_of}
use Rattle.q_model.specs.Values.{Site}
use Rattle.q_schedule.proofs.Sames.{row_lost}
use Rattle.q_schedule.proofs.Schedules.{sound_where}
use Rattle.q_schedule.proofs.Waiting.{all_wait}
use Rattle.q_schedule.specs.Sound.{facts_at, IsSound}
use Rattle.q_turns.specs.Filing.{is_fresh}
use Rattle.q_turns.specs.Turns.{Turning}
use Rattle.q_schedule.proofs.schedule.Schedule.lose.Goals as goal

pub invariant_of-self : goal.invariant_of-self
invariant_of-self c =
    let a = c.self.inside in
    subst (λ (t : Turning). IsSound t a.messages c.touch_where.new.candidates c.touch_where.new.stale a.next) (sym c.lose.ensures)
    (sound_where a.turns a.messages a.candidates c.touch_where.new.candidates a.stale a.next c.self.invariant c.touch_where.new.stale _ c.touch_where.ensures.kept c.touch_where.ensures.room refl c.touch_where.ensures.tied
    (λ i s current. row_lost a.turns.lines a.turns.peers c.touch_where.new.stale (facts_at (values_of a.messages.items) i) i s current c.args.id c.args.site.now (all_wait a.turns.lines a.turns.peers c.stand_apart.ensures.jobs) c.is_fresh-is_changed.result
    (c.is_fresh-is_changed.ensures ∙ ap (λ n. is_fresh a.turns.lines n c.args.id) (c.from.ensures ∙ ap (λ (v : Site). v.transport) c.site.view_is)) c.touch_where.ensures.stale))
