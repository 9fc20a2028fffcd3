use Rattle.std.proofs.Common.{◌∙◌, ap, map, sym}
use Rattle.std.specs.List.{enumerate_from}
use Rattle.std.specs.Option.{option_copied}
use Rattle.q_core.proofs.LineSteps.{own_started, started_elsewhere, started_here}
use Rattle.q_core.specs.Sending.{started_line, with_start}
use Rattle.q_jobs.proofs.LineWalks.{none_changed, put_changes}
use Rattle.q_jobs.specs.Jobs.{account_in, changed_job}
use Rattle.q_turns.proofs.WithLine.{apart_at, eq-self, found_there, one_line, with_both, with_same}
use Rattle.q_turns.specs.Turns.{line_at}
use Rattle.q_core.proofs.delivery.count_start.Goals as goal

pub put-requires : goal.put-requires
put-requires c = record { there = found_there c.from-at.result c.args.id c.args.schedule.now.lines c.in-Some.job.now (sym c.job.ensures ∙ ap option_copied c.in-Some.is) }

pub returns-in-Some : goal.returns-in-Some
returns-in-Some c =
    let t = c.from-at.result in
    let ls = c.args.schedule.now.lines in
    let js = line_at t ls in
    let found = sym c.job.ensures ∙ ap option_copied c.in-Some.is in
    let counted = c.with_start-counted.result in
    c.put.ensures
    ∙ ap (λ xs. record c.args.schedule.now { lines = xs })
    (with_both t (map (account_in counted)) (map (changed_job c.args.id with_start)) ls
    (put_changes c.args.id with_start counted c.in-Some.job.now js (apart_at t ls c.stand_apart.ensures.lines) (own_started c.args.id counted c.in-Some.job.now js c.with_start-counted.ensures found) found c.with_start-counted.ensures)
    ∙ one_line (started_line c.args.id t) (map (changed_job c.args.id with_start)) t (λ js. started_here c.args.id t t js (eq-self t)) (λ at js other. started_elsewhere c.args.id t at js other) ls)
    ∙ ap (λ n. record c.args.schedule.now { lines = map (started_line c.args.id n) (enumerate_from 0 ls) }) c.from-at.ensures

pub returns-in_default : goal.returns-in_default
returns-in_default c =
    let t = c.from-at.result in
    let ls = c.args.schedule.now.lines in
    ap (λ xs. record c.args.schedule.now { lines = xs })
    (sym (with_same t (map (changed_job c.args.id with_start)) ls (none_changed c.args.id with_start (line_at t ls) (sym c.job.ensures ∙ ap option_copied c.in_default.is)))
    ∙ one_line (started_line c.args.id t) (map (changed_job c.args.id with_start)) t (λ js. started_here c.args.id t t js (eq-self t)) (λ at js other. started_elsewhere c.args.id t at js other) ls)
    ∙ ap (λ n. record c.args.schedule.now { lines = map (started_line c.args.id n) (enumerate_from 0 ls) }) c.from-at.ensures
