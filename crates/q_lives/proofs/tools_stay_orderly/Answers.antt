use Rattle.q_lives.proofs.ToolSteps.{cut_steps_orderly, steps_orderly}
use Rattle.q_lives.proofs.tools_stay_orderly.Goals as goal

pub returns-clause-whole : goal.returns-clause-whole
returns-clause-whole c = λ b steps h may so. steps_orderly b steps h may

pub returns-clause-cut : goal.returns-clause-cut
returns-clause-cut c = λ b steps h may so. cut_steps_orderly b steps h may
