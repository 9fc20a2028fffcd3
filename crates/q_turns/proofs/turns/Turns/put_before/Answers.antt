use Rattle.std.proofs.Common.{◌∙◌, ap, refl, set, sym}
use Rattle.std.specs.List.{list_any}
use Rattle.q_jobs.specs.Jobs.{is_job_of, Jobs, moved_job}
use Rattle.q_keyed.specs.Numbered.{values_of}
use Rattle.q_turns.proofs.HavingLines.{have_with, moved_keeps}
use Rattle.q_turns.proofs.HeadLaws.{lanes_laned}
use Rattle.q_turns.proofs.LineSets.{at_there, below_seen, jobs_at}
use Rattle.q_turns.proofs.PlacedAnew.{elsewhere_stay}
use Rattle.q_turns.proofs.RankSets.{before_kept, moved_ranked, not_joined, others_kept, rank_set_other, ranked_at, unranked_absent}
use Rattle.q_turns.proofs.TurnSteps.{placed_kept, sound_line}
use Rattle.q_turns.proofs.TurnViews.{lines_seen}
use Rattle.q_turns.specs.Heading.{rank_by, ranked_before}
use Rattle.q_turns.specs.Sound.{jobs_of}
use Rattle.q_turns.specs.Turns.{has_job, Turning}
use Rattle.q_turns.proofs.turns.Turns.put_before.Goals as goal

pub place_anew-requires-clause-laned : goal.place_anew-requires-clause-laned
place_anew-requires-clause-laned c =
    let a = c.self.inside in
    lanes_laned a.suspended.items a.lanes.items a.peers.items a.heads c.self.invariant.places.lanes_are

pub place_anew-requires-clause-elsewhere : goal.place_anew-requires-clause-elsewhere
place_anew-requires-clause-elsewhere c =
    let a = c.self.inside in
    let t = c.args.transport in
    elsewhere_stay t a.lanes.items a.peers.items a.heads c.stand_apart.ensures.apart (lanes_laned a.suspended.items a.lanes.items a.peers.items a.heads c.self.invariant.places.lanes_are) a.lines.items (set a.lines.items t c.put_before-anew.new.self)
    (λ p other. rank_set_other t p.site.transport c.put_before-anew.new.self a.lines.items p.id other) c.self.invariant.places.placed

pub invariant_of-self : goal.invariant_of-self
invariant_of-self c =
    let a = c.self.inside in
    let t = c.args.transport in
    let line = c.index_mut-line.result.now in
    let there = at_there t a.lines.items line c.args.self.now.lines (ap (λ (s : Turning). s.lines) c.self.view_is) c.requires.there c.index_mut-line.ensures.value in
    sound_line a.lines.items a.peers a.lanes a.heads a.messages a.suspended a.line_room c.self.invariant t line c.put_before-anew.new.self (moved_job c.args.child c.args.parent) there (ap (λ (l : Jobs). l.room) c.put_before-anew.ensures.line) (ap (λ (l : Jobs). l.jobs) c.put_before-anew.ensures.line) c.stand_apart-2.ensures.apart c.stand_apart-2.ensures.each
    (have_with t (moved_job c.args.child c.args.parent) (jobs_of a.lines.items) (values_of a.peers.items) (moved_keeps t c.args.child c.args.parent (jobs_of a.lines.items) c.requires.other (ap (λ (s : Turning). has_job s.lines t c.args.parent) c.self.view_is ∙ c.requires.parent)) c.self.invariant.lines_are.jobs)
    c.place_anew.new.heads c.place_anew.ensures.rest
    (c.place_anew.ensures.placed)

pub returns-then-anew : goal.returns-then-anew
returns-then-anew c =
    let a = c.self.inside in
    let t = c.args.transport in
    let line = c.index_mut-line.result.now in
    let there = at_there t a.lines.items line c.args.self.now.lines (ap (λ (s : Turning). s.lines) c.self.view_is) c.requires.there c.index_mut-line.ensures.value in
    lines_seen a.lines.items a.peers a.suspended a.line_room t c.args.self.now (moved_job c.args.child c.args.parent) line c.put_before-anew.new.self c.self.view_is there (ap (λ (l : Jobs). l.jobs) c.put_before-anew.ensures.line)

pub move_job-requires-clause-ranked : goal.move_job-requires-clause-ranked
move_job-requires-clause-ranked c =
    let a = c.self.inside in
    let t = c.args.transport in
    let line = c.index_mut-line.result.now in
    let there = at_there t a.lines.items line c.args.self.now.lines (ap (λ (s : Turning). s.lines) c.self.view_is) c.requires.there c.index_mut-line.ensures.value in
    moved_ranked a.lines.items t line c.put_before-anew.new.self there (ranked_at t a.lines.items line c.self.invariant.lines_are.ranked there) c.stand_apart-2.ensures.each c.args.child c.args.parent c.in-Some.from (ap (λ (l : Jobs). l.jobs) c.put_before-anew.ensures.line) c.requires.other
    (ap (list_any (is_job_of c.args.parent)) (sym (jobs_at t a.lines.items line there)) ∙ ap (λ (s : Turning). has_job s.lines t c.args.parent) c.self.view_is ∙ c.requires.parent) (sym c.rank_at-from.ensures ∙ c.in-Some.is)

pub move_job-requires-clause-placed : goal.move_job-requires-clause-placed
move_job-requires-clause-placed c =
    let a = c.self.inside in
    let t = c.args.transport in
    let line = c.index_mut-line.result.now in
    let there = at_there t a.lines.items line c.args.self.now.lines (ap (λ (s : Turning). s.lines) c.self.view_is) c.requires.there c.index_mut-line.ensures.value in
    placed_kept a.lines.items a.peers a.lanes a.heads a.messages a.suspended a.line_room c.self.invariant (ranked_before c.args.child t c.in-Some.from (set a.lines.items t c.put_before-anew.new.self))
    (λ m q h. before_kept a.lines.items t line c.put_before-anew.new.self there c.args.child c.in-Some.from q (c.put_before-anew.ensures.kept c.if-anew.false) (sym c.rank_at-from.ensures ∙ c.in-Some.is))

pub invariant_of-self-in-Some : goal.invariant_of-self-in-Some
invariant_of-self-in-Some c =
    let a = c.self.inside in
    let t = c.args.transport in
    let line = c.index_mut-line.result.now in
    let there = at_there t a.lines.items line c.args.self.now.lines (ap (λ (s : Turning). s.lines) c.self.view_is) c.requires.there c.index_mut-line.ensures.value in
    sound_line a.lines.items a.peers a.lanes a.heads a.messages a.suspended a.line_room c.self.invariant t line c.put_before-anew.new.self (moved_job c.args.child c.args.parent) there (ap (λ (l : Jobs). l.room) c.put_before-anew.ensures.line) (ap (λ (l : Jobs). l.jobs) c.put_before-anew.ensures.line) c.stand_apart-2.ensures.apart c.stand_apart-2.ensures.each
    (have_with t (moved_job c.args.child c.args.parent) (jobs_of a.lines.items) (values_of a.peers.items) (moved_keeps t c.args.child c.args.parent (jobs_of a.lines.items) c.requires.other (ap (λ (s : Turning). has_job s.lines t c.args.parent) c.self.view_is ∙ c.requires.parent)) c.self.invariant.lines_are.jobs)
    c.move_job.new.heads c.move_job.ensures.rest
    (c.move_job.ensures.placed)

pub returns-in-Some : goal.returns-in-Some
returns-in-Some c =
    let a = c.self.inside in
    let t = c.args.transport in
    let line = c.index_mut-line.result.now in
    let there = at_there t a.lines.items line c.args.self.now.lines (ap (λ (s : Turning). s.lines) c.self.view_is) c.requires.there c.index_mut-line.ensures.value in
    lines_seen a.lines.items a.peers a.suspended a.line_room t c.args.self.now (moved_job c.args.child c.args.parent) line c.put_before-anew.new.self c.self.view_is there (ap (λ (l : Jobs). l.jobs) c.put_before-anew.ensures.line)

pub invariant_of-self-in_default : goal.invariant_of-self-in_default
invariant_of-self-in_default c =
    let a = c.self.inside in
    let t = c.args.transport in
    let line = c.index_mut-line.result.now in
    let there = at_there t a.lines.items line c.args.self.now.lines (ap (λ (s : Turning). s.lines) c.self.view_is) c.requires.there c.index_mut-line.ensures.value in
    sound_line a.lines.items a.peers a.lanes a.heads a.messages a.suspended a.line_room c.self.invariant t line c.put_before-anew.new.self (moved_job c.args.child c.args.parent) there (ap (λ (l : Jobs). l.room) c.put_before-anew.ensures.line) (ap (λ (l : Jobs). l.jobs) c.put_before-anew.ensures.line) c.stand_apart-2.ensures.apart c.stand_apart-2.ensures.each
    (have_with t (moved_job c.args.child c.args.parent) (jobs_of a.lines.items) (values_of a.peers.items) (moved_keeps t c.args.child c.args.parent (jobs_of a.lines.items) c.requires.other (ap (λ (s : Turning). has_job s.lines t c.args.parent) c.self.view_is ∙ c.requires.parent)) c.self.invariant.lines_are.jobs)
    a.heads refl
    (placed_kept a.lines.items a.peers a.lanes a.heads a.messages a.suspended a.line_room c.self.invariant (rank_by (set a.lines.items t c.put_before-anew.new.self)) (λ m q h. others_kept a.lines.items t line c.put_before-anew.new.self there c.args.child q (c.put_before-anew.ensures.kept c.if-anew.false) (not_joined a.lines.items a.peers.items a.line_room t line c.args.child c.self.invariant.lines_are there (below_seen t a.lines.items c.args.self.now.lines (ap (λ (s : Turning). s.lines) c.self.view_is) c.requires.there) (unranked_absent a.lines.items t line c.put_before-anew.new.self there (ranked_at t a.lines.items line c.self.invariant.lines_are.ranked there) c.stand_apart-2.ensures.each c.args.child c.args.parent (sym c.rank_at-from.ensures ∙ c.in_default.is)) m q h)))

pub returns-in_default : goal.returns-in_default
returns-in_default c =
    let a = c.self.inside in
    let t = c.args.transport in
    let line = c.index_mut-line.result.now in
    let there = at_there t a.lines.items line c.args.self.now.lines (ap (λ (s : Turning). s.lines) c.self.view_is) c.requires.there c.index_mut-line.ensures.value in
    lines_seen a.lines.items a.peers a.suspended a.line_room t c.args.self.now (moved_job c.args.child c.args.parent) line c.put_before-anew.new.self c.self.view_is there (ap (λ (l : Jobs). l.jobs) c.put_before-anew.ensures.line)
