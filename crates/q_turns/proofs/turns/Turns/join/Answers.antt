use Rattle.std.proofs.Common.{◌∙◌, ◌++◌, ◌∷◌, [], ap, arith, find, length, refl, set, sym}
use Rattle.q_jobs.specs.Jobs.{fresh_job, is_job_of, Jobs}
use Rattle.q_keyed.specs.Numbered.{values_of}
use Rattle.q_turns.proofs.HavingLines.{have_with, joined_keeps}
use Rattle.q_turns.proofs.HeadLaws.{lanes_laned}
use Rattle.q_turns.proofs.LineSets.{at_there, below_seen, jobs_at, room_at}
use Rattle.q_turns.proofs.PlacedAnew.{elsewhere_stay}
use Rattle.q_turns.proofs.RankSets.{not_joined, others_kept, rank_set_other}
use Rattle.q_turns.proofs.TurnSteps.{placed_kept, sound_line}
use Rattle.q_turns.proofs.TurnViews.{lines_seen}
use Rattle.q_turns.specs.Heading.{rank_by}
use Rattle.q_turns.specs.Sound.{jobs_of}
use Rattle.q_turns.specs.Turns.{line_at, Turning}
use Rattle.q_turns.proofs.turns.Turns.join.Goals as goal

pub join-anew-requires-clause-room : goal.join-anew-requires-clause-room
join-anew-requires-clause-room c =
    let a = c.self.inside in
    let t = c.args.transport in
    let line = c.index_mut-line.result.now in
    let there = at_there t a.lines.items line c.args.self.now.lines (ap (λ (s : Turning). s.lines) c.self.view_is) c.requires.there c.index_mut-line.ensures.value in
    let jobs = ap length (jobs_at t a.lines.items line there) in
    let seen = ap (λ (s : Turning). length (line_at t s.lines)) c.self.view_is in
    let space = ap (λ (s : Turning). s.line_room) c.self.view_is in
    omega (arith, c.requires.room, jobs, seen, space, room_at a.line_room t a.lines.items line c.self.invariant.lines_are.room there)

pub join-anew-requires-clause-absent : goal.join-anew-requires-clause-absent
join-anew-requires-clause-absent c =
    let a = c.self.inside in
    let t = c.args.transport in
    let line = c.index_mut-line.result.now in
    let there = at_there t a.lines.items line c.args.self.now.lines (ap (λ (s : Turning). s.lines) c.self.view_is) c.requires.there c.index_mut-line.ensures.value in
    sym (ap (find (is_job_of c.args.id)) (jobs_at t a.lines.items line there)) ∙ ap (λ (s : Turning). find (is_job_of c.args.id) (line_at t s.lines)) c.self.view_is ∙ c.requires.absent

pub place_anew-requires-clause-laned : goal.place_anew-requires-clause-laned
place_anew-requires-clause-laned c =
    let a = c.self.inside in
    lanes_laned a.suspended.items a.lanes.items a.peers.items a.heads c.self.invariant.places.lanes_are

pub place_anew-requires-clause-elsewhere : goal.place_anew-requires-clause-elsewhere
place_anew-requires-clause-elsewhere c =
    let a = c.self.inside in
    let t = c.args.transport in
    elsewhere_stay t a.lanes.items a.peers.items a.heads c.stand_apart.ensures.apart (lanes_laned a.suspended.items a.lanes.items a.peers.items a.heads c.self.invariant.places.lanes_are) a.lines.items (set a.lines.items t c.join-anew.new.self)
    (λ p other. rank_set_other t p.site.transport c.join-anew.new.self a.lines.items p.id other) c.self.invariant.places.placed

pub invariant_of-self : goal.invariant_of-self
invariant_of-self c =
    let a = c.self.inside in
    let t = c.args.transport in
    let line = c.index_mut-line.result.now in
    let there = at_there t a.lines.items line c.args.self.now.lines (ap (λ (s : Turning). s.lines) c.self.view_is) c.requires.there c.index_mut-line.ensures.value in
    sound_line a.lines.items a.peers a.lanes a.heads a.messages a.suspended a.line_room c.self.invariant t line c.join-anew.new.self (λ js. js ++ fresh_job c.args.id ∷ []) there (ap (λ (l : Jobs). l.room) c.join-anew.ensures.line) (ap (λ (l : Jobs). l.jobs) c.join-anew.ensures.line) c.stand_apart-2.ensures.apart c.stand_apart-2.ensures.each
    (have_with t (λ js. js ++ fresh_job c.args.id ∷ []) (jobs_of a.lines.items) (values_of a.peers.items) (joined_keeps t c.args.id (jobs_of a.lines.items)) c.self.invariant.lines_are.jobs)
    c.place_anew.new.heads c.place_anew.ensures.rest
    (c.place_anew.ensures.placed)

pub returns-then-anew : goal.returns-then-anew
returns-then-anew c =
    let a = c.self.inside in
    let t = c.args.transport in
    let line = c.index_mut-line.result.now in
    let there = at_there t a.lines.items line c.args.self.now.lines (ap (λ (s : Turning). s.lines) c.self.view_is) c.requires.there c.index_mut-line.ensures.value in
    lines_seen a.lines.items a.peers a.suspended a.line_room t c.args.self.now (λ js. js ++ fresh_job c.args.id ∷ []) line c.join-anew.new.self c.self.view_is there (ap (λ (l : Jobs). l.jobs) c.join-anew.ensures.line)

pub invariant_of-self-else-anew : goal.invariant_of-self-else-anew
invariant_of-self-else-anew c =
    let a = c.self.inside in
    let t = c.args.transport in
    let line = c.index_mut-line.result.now in
    let there = at_there t a.lines.items line c.args.self.now.lines (ap (λ (s : Turning). s.lines) c.self.view_is) c.requires.there c.index_mut-line.ensures.value in
    sound_line a.lines.items a.peers a.lanes a.heads a.messages a.suspended a.line_room c.self.invariant t line c.join-anew.new.self (λ js. js ++ fresh_job c.args.id ∷ []) there (ap (λ (l : Jobs). l.room) c.join-anew.ensures.line) (ap (λ (l : Jobs). l.jobs) c.join-anew.ensures.line) c.stand_apart-2.ensures.apart c.stand_apart-2.ensures.each
    (have_with t (λ js. js ++ fresh_job c.args.id ∷ []) (jobs_of a.lines.items) (values_of a.peers.items) (joined_keeps t c.args.id (jobs_of a.lines.items)) c.self.invariant.lines_are.jobs)
    a.heads refl
    (placed_kept a.lines.items a.peers a.lanes a.heads a.messages a.suspended a.line_room c.self.invariant (rank_by (set a.lines.items t c.join-anew.new.self)) (λ m q h. others_kept a.lines.items t line c.join-anew.new.self there c.args.id q (c.join-anew.ensures.kept c.if-anew.false) (not_joined a.lines.items a.peers.items a.line_room t line c.args.id c.self.invariant.lines_are there (below_seen t a.lines.items c.args.self.now.lines (ap (λ (s : Turning). s.lines) c.self.view_is) c.requires.there) (sym (ap (find (is_job_of c.args.id)) (jobs_at t a.lines.items line there)) ∙ ap (λ (s : Turning). find (is_job_of c.args.id) (line_at t s.lines)) c.self.view_is ∙ c.requires.absent) m q h)))

pub returns-else-anew : goal.returns-else-anew
returns-else-anew c =
    let a = c.self.inside in
    let t = c.args.transport in
    let line = c.index_mut-line.result.now in
    let there = at_there t a.lines.items line c.args.self.now.lines (ap (λ (s : Turning). s.lines) c.self.view_is) c.requires.there c.index_mut-line.ensures.value in
    lines_seen a.lines.items a.peers a.suspended a.line_room t c.args.self.now (λ js. js ++ fresh_job c.args.id ∷ []) line c.join-anew.new.self c.self.view_is there (ap (λ (l : Jobs). l.jobs) c.join-anew.ensures.line)
