use Rattle.std.proofs.Common.{◌∙◌, ap, refl, set}
use Rattle.std.specs.List.{list_any}
use Rattle.std.specs.Prelude.{filter}
use Rattle.q_jobs.specs.Jobs.{is_job_of_another, Jobs}
use Rattle.q_keyed.specs.Numbered.{values_of}
use Rattle.q_turns.proofs.HavingLines.{have_left_line}
use Rattle.q_turns.proofs.LineSets.{at_there}
use Rattle.q_turns.proofs.RankSets.{not_there, others_kept}
use Rattle.q_turns.proofs.TurnSteps.{placed_kept, sound_line}
use Rattle.q_turns.proofs.TurnViews.{lines_seen}
use Rattle.q_turns.specs.Heading.{rank_by}
use Rattle.q_turns.specs.Sound.{jobs_of}
use Rattle.q_rounds.specs.Rounds.{is_peer_for}
use Rattle.q_turns.specs.Turns.{Turning}
use Rattle.q_turns.proofs.turns.Turns.leave.Goals as goal

pub invariant_of-self : goal.invariant_of-self
invariant_of-self c =
    let a = c.self.inside in
    let t = c.args.transport in
    let line = c.index_mut-line.result.now in
    let there = at_there t a.lines.items line c.args.self.now.lines (ap (λ (s : Turning). s.lines) c.self.view_is) c.requires.there c.index_mut-line.ensures.value in
    sound_line a.lines.items a.peers a.lanes a.heads a.messages a.suspended a.line_room c.self.invariant t line c.leave.new.self (filter (is_job_of_another c.args.id)) there (ap (λ (l : Jobs). l.room) c.leave.ensures.line) (ap (λ (l : Jobs). l.jobs) c.leave.ensures.line) c.stand_apart.ensures.apart c.stand_apart.ensures.each
    (have_left_line t c.args.id (jobs_of a.lines.items) (values_of a.peers.items) (ap (λ (s : Turning). list_any (is_peer_for c.args.id t) s.peers) c.self.view_is ∙ c.requires.done) c.self.invariant.lines_are.jobs)
    a.heads refl
    (placed_kept a.lines.items a.peers a.lanes a.heads a.messages a.suspended a.line_room c.self.invariant (rank_by (set a.lines.items t c.leave.new.self)) (λ m q h. others_kept a.lines.items t line c.leave.new.self there c.args.id q c.leave.ensures.kept (not_there a.peers.items t c.args.id (ap (λ (s : Turning). list_any (is_peer_for c.args.id t) s.peers) c.self.view_is ∙ c.requires.done) m q h)))

pub returns : goal.returns
returns c =
    let a = c.self.inside in
    let t = c.args.transport in
    let line = c.index_mut-line.result.now in
    let there = at_there t a.lines.items line c.args.self.now.lines (ap (λ (s : Turning). s.lines) c.self.view_is) c.requires.there c.index_mut-line.ensures.value in
    lines_seen a.lines.items a.peers a.suspended a.line_room t c.args.self.now (filter (is_job_of_another c.args.id)) line c.leave.new.self c.self.view_is there (ap (λ (l : Jobs). l.jobs) c.leave.ensures.line)
