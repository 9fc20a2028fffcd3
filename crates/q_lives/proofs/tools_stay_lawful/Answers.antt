use Rattle.q_lives.proofs.ToolSteps.{cut_steps_lawful, steps_lawful}
use Rattle.q_lives.proofs.tools_stay_lawful.Goals as goal

pub returns-clause-whole : goal.returns-clause-whole
returns-clause-whole c = λ b steps h may so. steps_lawful b steps h may so

pub returns-clause-cut : goal.returns-clause-cut
returns-clause-cut c = λ b steps h may so. cut_steps_lawful b steps h may so
