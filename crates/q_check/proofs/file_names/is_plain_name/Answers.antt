use Rattle.q_check.proofs.FileNameLaws.{plain-name, plain-none}
use Rattle.q_check.proofs.file_names.is_plain_name.Goals as goal

pub returns-in-Some-clause-some : goal.returns-in-Some-clause-some
returns-in-Some-clause-some c =
    let found = c.in-Some.ensures.some in
    λ _. plain-name c.args.name c.args.place _ c.requires found.0 found.1

pub returns-in-None-clause-none : goal.returns-in-None-clause-none
returns-in-None-clause-none c = λ _. plain-none c.args.name c.args.place c.requires c.in-None.ensures.none
