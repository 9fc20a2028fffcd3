use Rattle.std.proofs.Common.{◌∙◌, ◌-◌, ap, length, sym}
use Rattle.q_turns.proofs.LineSets.{at_there, jobs_at, room_at}
use Rattle.q_turns.specs.Turns.{line_at, Turning}
use Rattle.q_turns.proofs.turns.Turns.spare_jobs.Goals as goal

pub returns : goal.returns
returns c =
    let a = c.self.inside in
    let t = c.args.transport in
    let line = c.index.result.now in
    let there = at_there t a.lines.items line c.args.self.now.lines (ap (λ (s : Turning). s.lines) c.self.view_is) c.requires c.index.ensures in
    c.spare.ensures
    ∙ ap (λ n. n - length line.jobs) (room_at a.line_room t a.lines.items line c.self.invariant.lines_are.room there)
    ∙ ap (λ js. a.line_room - length js) (sym (jobs_at t a.lines.items line there))
    ∙ ap (λ (s : Turning). s.line_room - length (line_at t s.lines)) c.self.view_is
