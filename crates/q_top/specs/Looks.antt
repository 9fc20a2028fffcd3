-- How a command ends that looks, by its status: at the files of conf, at one message, or at the whole spool.
use Rattle.std.specs.Prelude.{◌≡◌, Bool, IfOk, List, OnErr, OnOk, Result, ℕ}
use Rattle.q_check.specs.Checks.{IsCheckText}
use Rattle.q_check.specs.Worst.{IsFoundIn}
use Rattle.q_check.specs.declared.found.Found.{Found}
use Rattle.q_conf_texts.specs.Tellings.{TellsParams, TellsRoutes}
use Rattle.q_host.specs.View.{View}
use Rattle.q_host.specs.declared.error.HostError.{HostError}
use Rattle.q_model.specs.Book.{Book, stands}
use Rattle.q_model.specs.FilesStand.{Stands}
use Rattle.q_model.specs.declared.id.Id.{Id}
use Rattle.q_show.specs.Shown.{shown_text}
use Rattle.q_telling.specs.Telling.{OnlyTells, TellsFront, TellsMore}
use Rattle.q_top.specs.Statuses.{check_status, look_status, show_status}
use Rattle.q_top.specs.declared.status.Status.{Status}

-- the status is that of an answer which says so much
pub record EndsAs {R : Type 0} (status_of : R → Status) (Says : R → Type 0) (s : Status) : Type 0 where
  pub result : R
  pub is : s ≡ status_of result
  pub says : Says result

-- `params`: the parameters in force are told, or the first fault of their file is named.
abbrev pub TellsParameters : View → View → Status → Type 0
TellsParameters u v s = EndsAs look_status (TellsParams u v) s

-- `route`: the same of where addresses go by the table.
abbrev pub TellsWays : List (List ℕ) → View → View → Status → Type 0
TellsWays addresses u v s = EndsAs look_status (TellsRoutes addresses u v) s

-- By the answer: the message of the id, or the damaged file, was told; there is none, and nothing was told;
-- or some first part was. No file changed.
pub record ShowsMessage (id : Id) (u v : View) (result : Result Bool HostError) : Type 0 where
  pub only : OnlyTells u v
  pub found : IfOk result (λ found. (b : Book) → Stands u.files b → found ≡ stands b id)
  pub told : OnOk result ((b : Book) → Stands u.files b → TellsMore (shown_text u.files b id) u v)
  pub front : OnErr result ((b : Book) → Stands u.files b → TellsFront (shown_text u.files b id) u v)

-- `show`: so much of the message of this id.
abbrev pub Shows : Id → View → View → Status → Type 0
Shows id u v s = EndsAs show_status (ShowsMessage id u v) s

-- By the answer: all that is wrong was told, and the answer names the worst of it; or some first part was.
-- No file changed.
pub record ChecksSpool (u v : View) (result : Result Found HostError) : Type 0 where
  pub only : OnlyTells u v
  pub found : IfOk result (IsFoundIn u.files)
  pub told : OnOk result ((text : List ℕ) × IsCheckText u.files text × TellsMore text u v)
  pub front : OnErr result ((text : List ℕ) → IsCheckText u.files text → TellsFront text u v)

-- `check`: so much of the spool and of the files of conf.
abbrev pub Checks : View → View → Status → Type 0
Checks u v s = EndsAs check_status (ChecksSpool u v) s
