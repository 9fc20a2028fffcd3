use Rattle.std.proofs.Common.{◌≡◌, ◌∙◌, ◌++◌, ◌∷◌, [], ap, arith, length, List, sym, true}
use Rattle.std.proofs.lemmas.Grind.{common_steps}
use Rattle.std.specs.Prelude.{nat_lt}
use Rattle.q_core.proofs.LineSteps.{absent_from, joined_full, joined_not, joined_there}
use Rattle.q_core.specs.Loading.{joined_within}
use Rattle.q_jobs.specs.declared.job.Job.{Job}
use Rattle.q_jobs.specs.Jobs.{fresh_job}
use Rattle.q_turns.proofs.WithLine.{with_both, with_same}
use Rattle.q_turns.specs.Turns.{line_at}
use Rattle.q_core.proofs.joining.join.Goals as goal
use Rattle.q_core.proofs.joining.join.Goals.{else-joins-via-else-joins, else-joins-via-then-joins+else-spare_jobs-ne0}

pub join-requires-clause-absent : goal.join-requires-clause-absent
join-requires-clause-absent c = absent_from c.args.id c.args.rows.now.rows c.args.at (line_at c.args.at c.args.schedule.now.lines) (sym c.joins.ensures ∙ c.if-joins.true)

pub returns-else-joins : goal.returns-else-joins
returns-else-joins c =
    let at = c.args.at in
    let ls = c.args.schedule.now.lines in
    let room = c.args.schedule.now.line_room in
    let js : List Job = line_at at ls in
    let same : joined_within c.args.id c.args.rows.now.rows room (at, js) ≡ js = elim c.else-joins.branch [
      | else-joins-via-then-joins+else-spare_jobs-ne0 w ↦ joined_full c.args.id c.args.rows.now.rows room at js (grind (arith, common_steps, w.spare_jobs.ensures, w.if-spare_jobs-ne0.false))
      | else-joins-via-else-joins w ↦ joined_not c.args.id c.args.rows.now.rows room at js (sym c.joins.ensures ∙ w.if-joins.false)
    ] in
    sym (ap (λ xs. record c.args.schedule.now { lines = xs }) (with_same at (λ js. joined_within c.args.id c.args.rows.now.rows room (at, js)) ls same))

pub returns-then-spare_jobs-ne0 : goal.returns-then-spare_jobs-ne0
returns-then-spare_jobs-ne0 c =
    let at = c.args.at in
    let ls = c.args.schedule.now.lines in
    let room = c.args.schedule.now.line_room in
    let js : List Job = line_at at ls in
    let there = sym c.joins.ensures ∙ c.if-joins.true in
    let some : nat_lt (length js) room ≡ true = grind (arith, common_steps, c.spare_jobs.ensures, c.if-spare_jobs-ne0.true) in
    c.join.ensures
    ∙ ap (λ xs. record c.args.schedule.now { lines = xs })
    (with_both at (λ js. js ++ fresh_job c.args.id ∷ []) (λ js. joined_within c.args.id c.args.rows.now.rows room (at, js)) ls
    (sym (joined_there c.args.id c.args.rows.now.rows room at js there some)))
