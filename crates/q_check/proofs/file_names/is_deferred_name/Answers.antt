use Rattle.q_check.proofs.FileNameLaws.{deferred-name, deferred-none}
use Rattle.q_check.proofs.file_names.is_deferred_name.Goals as goal

pub returns-in-Some-clause-some : goal.returns-in-Some-clause-some
returns-in-Some-clause-some c =
    let found = c.in-Some.ensures.some in
    λ _. deferred-name c.args.name _ _ found.0 found.1 found.2

pub returns-in-None-clause-none : goal.returns-in-None-clause-none
returns-in-None-clause-none c = λ _. deferred-none c.args.name c.in-None.ensures.none
