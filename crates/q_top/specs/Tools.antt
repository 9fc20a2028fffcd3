-- What a queue tool is to do, by what its words ask for.
use Rattle.std.specs.Prelude.{Bool, false, true}
use Rattle.q_super.specs.declared.acts.Act.{Act}
use Rattle.q_super.specs.declared.acts.Act.TheVariants as acts
use Rattle.q_tools.specs.Tasks.{IsTask, may_lack}
use Rattle.q_tools.specs.declared.task.Task.TheVariants as tasks
use Rattle.q_top.specs.declared.work.Work.{Work}
use Rattle.q_top.specs.declared.work.Work.TheVariants.{Listed, Ready}
use Rattle.q_words.specs.declared.tool.Chosen.{Chosen}
use Rattle.q_words.specs.declared.tool.Chosen.TheVariants as chosen
use Rattle.q_words.specs.declared.tool.Target.{Target}
use Rattle.q_words.specs.declared.tool.Target.TheVariants as targets
use Rattle.q_words.specs.declared.tool.ToolRequest.{ToolRequest}
use Rattle.q_words.specs.declared.tool.ToolRequest.TheVariants as tools

-- the act, with the message of an id or with those of the input
abbrev pub work_on : Act → Chosen → Work
work_on act (chosen.One id) = Ready (tasks.One act id)
work_on act chosen.Listed = Listed act

-- with those or with all
abbrev pub work_with : Act → Target → Work
work_with act targets.All = Ready (tasks.All act)
work_with act (targets.Only chosen) = work_on act chosen

abbrev pub work_of : ToolRequest → Work
work_of (tools.Hold target) = work_with acts.Hold target
work_of (tools.Release target) = work_with acts.Release target
work_of (tools.Requeue target) = work_with acts.Requeue target
work_of (tools.Expire chosen) = work_on acts.Expire chosen
work_of (tools.Flush domain) = Ready (tasks.Flush domain)

-- the ids are those of the input
abbrev pub is_listed : Work → Bool
is_listed (Ready task) = false
is_listed (Listed act) = true

-- messages are named, so that one may be absent
abbrev pub names_some : Work → Bool
names_some (Ready task) = may_lack task
names_some (Listed act) = true

-- a work that there is
abbrev pub IsWork : Work → Type 0
IsWork (Ready task) = IsTask task
IsWork (Listed act) = Unit {0}
