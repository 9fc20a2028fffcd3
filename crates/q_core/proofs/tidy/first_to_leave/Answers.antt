use Rattle.std.proofs.Common.{◌∙◌, ap, find, not, sym}
use Rattle.std.specs.Option.{option_copied}
use Rattle.q_core.specs.Tidied.{leaves_among}
use Rattle.q_pool.specs.Kept.{heads}
use Rattle.q_held.specs.Held.{rows_of}
use Rattle.q_jobs.proofs.LineWalks.{found_behind, from_first, shorter}
use Rattle.q_jobs.specs.Jobs.{jobs_from}
use Rattle.q_turns.proofs.WithLine.{apart_at}
use Rattle.q_turns.specs.Turns.{line_at}
use Rattle.q_core.proofs.tidy.first_to_leave.Goals as goal

pub loop-at-init : goal.loop-at-init
loop-at-init c =
    let js = line_at c.args.transport c.args.schedule.now.lines in
    ap (λ o. find (leaves_among (heads c.args.admitted.now.items) (rows_of c.args.waiting.now.items) c.args.transport) (jobs_from o js)) c.first-at.ensures ∙ ap (find (leaves_among (heads c.args.admitted.now.items) (rows_of c.args.waiting.now.items) c.args.transport)) (from_first js)

pub loop-at-smaller : goal.loop-at-smaller
loop-at-smaller c = shorter (line_at c.args.transport c.args.schedule.now.lines) (apart_at c.args.transport c.args.schedule.now.lines c.stand_apart.ensures.lines) (option_copied c.loop-at.at) (option_copied c.behind-at.result) c.in-Some.job.now (ap option_copied c.in-Some.is) c.behind-at.ensures

pub loop-at-preserved : goal.loop-at-preserved
loop-at-preserved c =
    found_behind (line_at c.args.transport c.args.schedule.now.lines) (apart_at c.args.transport c.args.schedule.now.lines c.stand_apart.ensures.lines) (option_copied c.loop-at.at) (option_copied c.behind-at.result) c.in-Some.job.now (ap option_copied c.in-Some.is) c.behind-at.ensures
    (leaves_among (heads c.args.admitted.now.items) (rows_of c.args.waiting.now.items) c.args.transport) (ap not (sym c.stays.ensures ∙ c.if-not-stays.false))
    ∙ c.loop-at.invariant
