use Rattle.std.proofs.Common.{◌<◌, ◌^◌, [], ◌∷◌, arith, List, subst, sym, ap, ◌∙◌, ◌++◌}
use Rattle.std.specs.List.{AllByRecursion}
use Rattle.q_model.specs.declared.outcome.Failure.{Failure}
use Rattle.q_model.specs.FailureLog.{IsFailure, log_records}
use Rattle.q_model.proofs.EachLaws.{each-append}
use Rattle.q_model.proofs.FailureLogReads.{log_records-front}
use Rattle.q_files.proofs.failing.one_more.Goals as goal

pub returns-clause-lawful : goal.returns-clause-lawful
returns-clause-lawful c =
    let fits : c.args.failure.position < 2 ^ 32 = omega arith in
    let all : AllByRecursion IsFailure (log_records c.args.log.now ++ c.args.failure ∷ []) = each-append IsFailure (log_records c.args.log.now) (c.args.failure ∷ []) (log_records-front c.args.log.now (λ i. omega (arith, c.type_inv.log i))).lawful (record { position = fits; code = c.requires }, tt) in
    subst (λ (fs : List Failure). AllByRecursion IsFailure fs) (sym (c.in_ok-push.ensures.ok ∙ ap (λ (fs : List Failure). fs ++ c.args.failure ∷ []) c.in_ok-records.ensures.read)) all
