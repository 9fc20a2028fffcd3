use Rattle.std.proofs.Common.{◌∙◌, ap, map, sym}
use Rattle.std.specs.Option.{option_copied}
use Rattle.q_core.proofs.LineSteps.{own_charged}
use Rattle.q_core.specs.Sending.{with_charge}
use Rattle.q_jobs.proofs.LineWalks.{none_changed, put_changes}
use Rattle.q_jobs.specs.Jobs.{account_in, changed_job}
use Rattle.q_turns.proofs.WithLine.{apart_at, found_there, with_both, with_same}
use Rattle.q_turns.specs.Turns.{line_at}
use Rattle.q_core.proofs.preempting.charge.Goals as goal

pub put-requires : goal.put-requires
put-requires c = record { there = found_there c.args.transport c.args.id c.args.schedule.now.lines c.in-Some.job.now (sym c.job.ensures ∙ ap option_copied c.in-Some.is) }

pub returns-in-Some : goal.returns-in-Some
returns-in-Some c =
    let t = c.args.transport in
    let ls = c.args.schedule.now.lines in
    let js = line_at t ls in
    let g = with_charge c.args.need c.args.left in
    let charged = c.with_charge-charged.result in
    let found = sym c.job.ensures ∙ ap option_copied c.in-Some.is in
    c.put.ensures
    ∙ ap (λ xs. record c.args.schedule.now { lines = xs })
    (with_both t (map (account_in charged)) (map (changed_job c.args.id g)) ls
    (put_changes c.args.id g charged c.in-Some.job.now js (apart_at t ls c.stand_apart.ensures.lines) (own_charged c.args.id c.args.need c.args.left charged c.in-Some.job.now js c.with_charge-charged.ensures found) found c.with_charge-charged.ensures))

pub returns-in_default : goal.returns-in_default
returns-in_default c =
    let t = c.args.transport in
    let ls = c.args.schedule.now.lines in
    let g = with_charge c.args.need c.args.left in
    ap (λ xs. record c.args.schedule.now { lines = xs })
    (sym (with_same t (map (changed_job c.args.id g)) ls (none_changed c.args.id g (line_at t ls) (sym c.job.ensures ∙ ap option_copied c.in_default.is))))
