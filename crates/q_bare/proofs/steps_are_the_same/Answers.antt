use Rattle.q_bare.proofs.StepLaws.{step_bare}
use Rattle.q_bare.proofs.steps_are_the_same.Goals as goal

pub returns : goal.returns
returns c = step_bare
