use Rattle.std.proofs.Common.{◌∙◌, ap, map, refl, set}
use Rattle.q_jobs.specs.Jobs.{account_in, Jobs, rank_of}
use Rattle.q_keyed.specs.Numbered.{values_of}
use Rattle.q_turns.proofs.HavingLines.{have_with, put_keeps}
use Rattle.q_turns.proofs.LineSets.{at_there}
use Rattle.q_turns.proofs.RankSets.{all_kept, rank_put}
use Rattle.q_turns.proofs.TurnSteps.{placed_kept, sound_line}
use Rattle.q_turns.proofs.TurnViews.{lines_seen}
use Rattle.q_turns.specs.Heading.{rank_by}
use Rattle.q_turns.specs.Sound.{jobs_of}
use Rattle.q_turns.specs.Turns.{Turning}
use Rattle.q_turns.proofs.turns.Turns.put.Goals as goal

pub invariant_of-self : goal.invariant_of-self
invariant_of-self c =
    let a = c.self.inside in
    let t = c.args.transport in
    let line = c.index_mut-line.result.now in
    let there = at_there t a.lines.items line c.args.self.now.lines (ap (λ (s : Turning). s.lines) c.self.view_is) c.requires.there c.index_mut-line.ensures.value in
    sound_line a.lines.items a.peers a.lanes a.heads a.messages a.suspended a.line_room c.self.invariant t line c.put.new.self (map (account_in c.args.job)) there (ap (λ (l : Jobs). l.room) c.put.ensures) (ap (λ (l : Jobs). l.jobs) c.put.ensures) c.stand_apart.ensures.apart c.stand_apart.ensures.each
    (have_with t (map (account_in c.args.job)) (jobs_of a.lines.items) (values_of a.peers.items) (put_keeps t c.args.job (jobs_of a.lines.items)) c.self.invariant.lines_are.jobs)
    a.heads refl
    (placed_kept a.lines.items a.peers a.lanes a.heads a.messages a.suspended a.line_room c.self.invariant (rank_by (set a.lines.items t c.put.new.self)) (λ m q h. all_kept a.lines.items t line c.put.new.self there q (λ other. ap (λ (l : Jobs). rank_of other l.jobs l.ranks) c.put.ensures ∙ rank_put c.args.job other line.jobs line.ranks)))

pub returns : goal.returns
returns c =
    let a = c.self.inside in
    let t = c.args.transport in
    let line = c.index_mut-line.result.now in
    let there = at_there t a.lines.items line c.args.self.now.lines (ap (λ (s : Turning). s.lines) c.self.view_is) c.requires.there c.index_mut-line.ensures.value in
    lines_seen a.lines.items a.peers a.suspended a.line_room t c.args.self.now (map (account_in c.args.job)) line c.put.new.self c.self.view_is there (ap (λ (l : Jobs). l.jobs) c.put.ensures)
