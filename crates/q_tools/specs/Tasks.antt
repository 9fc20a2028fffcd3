-- What a task does on a book, and on a host that stands for one.
use Rattle.std.specs.Prelude.{◌≡◌, ◌≢◌, ◌⊎◌, Bool, false, List, true}
use Rattle.q_books.specs.HostStands.{HostStands}
use Rattle.q_host.specs.Calls.{Stays}
use Rattle.q_host.specs.View.{View}
use Rattle.q_host.specs.declared.error.HostError.{HostError}
use Rattle.q_model.specs.Book.{Book}
use Rattle.q_model.specs.Lists.{has_none}
use Rattle.q_model.specs.Orderly.{is_orderly}
use Rattle.q_model.specs.ToolSteps.{may_steps}
use Rattle.q_super.specs.Deeds.{all_deeds, Deed, deeds_of, flush_deeds, steps_in}
use Rattle.q_super.specs.EachDeeds.{each_deeds, lacks_any}
use Rattle.q_super.specs.Plays.{HaltsDeeds, PlaysDeeds}
use Rattle.q_super.specs.declared.acts.Act.TheVariants as acts
use Rattle.q_tools.specs.declared.task.Task.{Task}
use Rattle.q_tools.specs.declared.task.Task.TheVariants as tasks

abbrev pub deeds_for : Task → Book → List Deed
deeds_for (tasks.One act id) b = deeds_of act id b
deeds_for (tasks.Each act ids) b = each_deeds act ids b
deeds_for (tasks.All act) b = all_deeds act b
deeds_for (tasks.Flush domain) b = flush_deeds domain b

-- with some message that the task names there is nothing to do
abbrev pub lacks_some : Task → Book → Bool
lacks_some (tasks.One act id) b = has_none (deeds_of act id b)
lacks_some (tasks.Each act ids) b = lacks_any act ids b
lacks_some task b = false

-- the task names messages
abbrev pub may_lack : Task → Bool
may_lack (tasks.One act id) = true
may_lack (tasks.Each act ids) = true
may_lack task = false

-- a task that there is: messages are given up by their ids alone
abbrev pub IsTask : Task → Type 0
IsTask (tasks.All act) = act ≢ acts.Expire
IsTask task = Unit {0}

-- of each orderly book for which the host stands
abbrev pub OnOrderly : View → (Book → Type 0) → Type 0
OnOrderly v says = (b : Book) → HostStands v b → is_orderly b ≡ true → says b

-- All was done, and no message was lacking.
pub record Works (task : Task) (b : Book) (u v : View) : Type 0 where
  pub found : lacks_some task b ≡ false
  pub may : may_steps b (steps_in (deeds_for task b)) ≡ true
  pub plays : PlaysDeeds b (deeds_for task b) u v

-- Some was, and then the host gave up.
pub record HaltsWork (task : Task) (b : Book) (error : HostError) (u v : View) : Type 0 where
  pub may : may_steps b (steps_in (deeds_for task b)) ≡ true
  pub halts : HaltsDeeds b (deeds_for task b) error u v

-- so it was, or nothing was begun
abbrev pub StopsWork : Task → Book → HostError → View → View → Type 0
StopsWork task b error u v = Stays u v ⊎ HaltsWork task b error u v

-- Some message was lacking, and all that there was to do was done.
pub record WorksOthers (task : Task) (b : Book) (u v : View) : Type 0 where
  pub lacks : lacks_some task b ≡ true
  pub may : may_steps b (steps_in (deeds_for task b)) ≡ true
  pub plays : PlaysDeeds b (deeds_for task b) u v
