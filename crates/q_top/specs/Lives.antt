-- How a command ends that runs lives, by its status.
use Rattle.std.specs.Prelude.{◌≡◌, ◌<◌, ◌≤◌, ◌⊎◌, IfSome, length, List, Option, Result, ℕ}
use Rattle.q_conf.specs.Confs.{at_fault, conf_of}
use Rattle.q_conf.specs.declared.error.ConfFile.{ConfFile}
use Rattle.q_model.specs.declared.limits.Bound.TheVariants.{Content}
use Rattle.q_host.specs.Calls.{Stays}
use Rattle.q_host.specs.View.{View}
use Rattle.q_model.specs.Book.{Book}
use Rattle.q_model.specs.Settings.{World}
use Rattle.q_input.specs.IdLines.{IsRefusedList, Lists}
use Rattle.q_input.specs.declared.error.IdsError.{IdsError}
use Rattle.q_model.specs.declared.event.Mode.TheVariants.{Intake}
use Rattle.q_model.specs.declared.id.Id.{Id}
use Rattle.q_model.specs.declared.spot.Area.{Area}
use Rattle.q_model.specs.Values.{Receiver}
use Rattle.q_drain.specs.Swept.{Outsides}
use Rattle.q_listen.specs.ListenEnds.{ListenEnds, Outsides as AtDoor}
use Rattle.q_listen.specs.declared.listened.Listened.{Listened}
use Rattle.q_listen.specs.declared.listened.ListenError.{ListenError}
use Rattle.q_replay.specs.AnyLists.{TakesList}
use Rattle.q_replay.specs.Deliveries.{DeliveryEnds}
use Rattle.q_replay.specs.ReplayEnds.{ReplayEnds}
use Rattle.q_replay.specs.RunEnds.{RunEnds}
use Rattle.q_replay.specs.Submissions.{submitted}
use Rattle.q_replay.specs.declared.deliveries.Delivered.{Delivered}
use Rattle.q_replay.specs.declared.error.ReplayError.{ReplayError}
use Rattle.q_replay.specs.declared.letters.Letter.{Letter}
use Rattle.q_restart.specs.Damages.{IsDamage}
use Rattle.q_stream.specs.Clocks.{AddsMoment}
use Rattle.q_top.specs.Contents.{most_content}
use Rattle.q_top.specs.Courses.{ForBooks, InWorld, Moments, Texts}
use Rattle.q_tools.specs.ToolEnds.{ToolEnds}
use Rattle.q_tools.specs.declared.error.ToolError.{ToolError}
use Rattle.q_super.specs.declared.acts.Act.{Act}
use Rattle.q_tools.specs.declared.task.Task.{Task}
use Rattle.q_tools.specs.declared.task.Task.TheVariants.{Each}
use Rattle.q_top.specs.declared.work.Work.{Work}
use Rattle.q_top.specs.declared.work.Work.TheVariants.{Listed, Ready}
use Rattle.q_top.specs.Statuses.{delivery_status, ids_status, input_of, listen_status, status_of, tool_status}
use Rattle.q_top.specs.declared.status.Status.{Status}
use Rattle.q_top.specs.declared.status.Status.TheVariants as status

-- ---- refusals before a life

-- the host failed, or memory ran out
abbrev pub IsGivenUp : Status → Type 0
IsGivenUp s = (s ≡ status.Disk) ⊎ (s ≡ status.Tell) ⊎ (s ≡ status.NoMemory)

-- a faulty line of conf is named, and nothing was told or changed
pub record RefusesConf (file : ConfFile) (line : ℕ) (u v : View) (s : Status) : Type 0 where
  pub names : (s ≡ status.BadInput (input_of file) line) ⊎ IsGivenUp s
  pub stays : Stays u v

-- A damaged spool is found so, unless the host failed or memory ran out, and whatever the status says,
-- nothing was told or changed.
pub record FindsDamage (area : Area) (name : List ℕ) (u v : View) (s : Status) : Type 0 where
  pub names : (s ≡ status.Damaged area name) ⊎ IsGivenUp s
  pub stays : Stays u v

-- What refuses a command before its first life: a faulty line of conf, or else a damage; and only such
-- a damage is called one.
pub record RefusesFirst (u v : View) (s : Status) : Type 0 where
  pub conf : (file : ConfFile) (line : ℕ) → conf_of u.files ≡ at_fault file line
      → RefusesConf file line u v s
  pub damage : InWorld u (λ w. (area : Area) (name : List ℕ) → IsDamage u.files area name
      → FindsDamage area name u v s)
  pub only_damage : (area : Area) (name : List ℕ) → s ≡ status.Damaged area name
      → IsDamage v.files area name

-- ---- replay

-- the status says how far the replay of a text went on a book
pub record EndsReplay (w : World) (b : Book) (bytes : List ℕ) (left : Option (List ℕ)) (u v : View) (s : Status)
    : Type 0 where
  pub result : Result (Unit {0}) ReplayError
  pub says : s ≡ status_of result
  pub ends : ReplayEnds w b bytes left u v result

-- the status says how far the items of some list in form were taken on a book
pub record EndsList (w : World) (b : Book) (u v : View) (s : Status) : Type 0 where
  pub result : Result (Unit {0}) ReplayError
  pub says : s ≡ status_of result
  pub takes : TakesList w b u v result

-- `replay`: by conf and the spool it is refused, or the lives of the text are run. Behind a faulty
-- line of conf nothing of the text is taken. Whatever the source tells, they are the lives of some list.
pub record Replays (texts : Texts) (u v : View) (s : Status) : Type 0 where
  pub refused : RefusesFirst u v s
  pub unread : (file : ConfFile) (line : ℕ) → conf_of u.files ≡ at_fault file line
      → texts.after ≡ texts.before
  pub run : ForBooks u (λ w b. IfSome texts.before (λ bytes.
      EndsReplay w b bytes texts.after u v s))
  pub lists : ForBooks u (λ w b. EndsList w b u v s)

-- ---- drain

-- the status says how far a life on a book delivered
pub record EndsDelivery (w : World) (b : Book) (o : Outsides) (u v : View) (s : Status) : Type 0 where
  pub result : Result Delivered ReplayError
  pub says : s ≡ delivery_status result
  pub ends : DeliveryEnds w b o u v result

-- `drain`: by conf and the spool it is refused, or a life is run that delivers by SMTP.
pub record DrainsSpool (o : Outsides) (u v : View) (s : Status) : Type 0 where
  pub refused : RefusesFirst u v s
  pub run : ForBooks u (λ w b. EndsDelivery w b o u v s)

-- ---- listen

-- the status says how a life on a book listened at a port
pub record EndsListening (w : World) (b : Book) (port count : ℕ) (o : AtDoor) (u v : View) (s : Status)
    : Type 0 where
  pub result : Result Listened ListenError
  pub says : s ≡ listen_status result
  pub ends : ListenEnds w b port count o u v result

-- `listen`: by conf and the spool it is refused, or a life is run that takes mail by SMTP.
pub record ListensOnSpool (port count : ℕ) (o : AtDoor) (u v : View) (s : Status) : Type 0 where
  pub refused : RefusesFirst u v s
  pub run : ForBooks u (λ w b. EndsListening w b port count o u v s)

-- ---- queue tools

-- the status says how far a tool went on a book, at this moment
pub record EndsTool (w : World) (b : Book) (moment : ℕ) (task : Task) (u v : View) (s : Status) : Type 0 where
  pub result : Result (Unit {0}) ToolError
  pub says : s ≡ tool_status result
  pub ends : ToolEnds w b moment task u v result

-- A tool at a moment: by conf and the spool it is refused, or its life is run, and behind it the act.
pub record WorksAt (moment : ℕ) (task : Task) (u v : View) (s : Status) : Type 0 where
  pub refused : RefusesFirst u v s
  pub run : ForBooks u (λ w b. EndsTool w b moment task u v s)

-- so it is at the clock's one moment
pub record WorksNow (task : Task) (moments : Moments) (u v : View) (s : Status) : Type 0 where
  pub moment : ℕ
  pub given : AddsMoment moments.before moments.after moment
  pub works : WorksAt moment task u v s

-- the list of ids is refused, or can't be read, and nothing was told or changed
pub record RefusesList (left : Option (List ℕ)) (u v : View) (s : Status) : Type 0 where
  pub error : IdsError
  pub says : s ≡ ids_status error
  pub is : IsRefusedList left error
  pub stays : Stays u v

-- the act is done with each message whose id the source has, where it tells that
pub record WorksEach (act : Act) (texts : Texts) (moments : Moments) (u v : View) (s : Status) : Type 0 where
  pub ids : List Id
  pub lists : IfSome texts.before (Lists ids)
  pub works : WorksNow (Each act ids) moments u v s

-- By what the source has, a list is refused, or the act is done.
abbrev pub WorksThrough : Act → Texts → Moments → View → View → Status → Type 0
WorksThrough act texts moments u v s = RefusesList texts.before u v s ⊎ WorksEach act texts moments u v s

-- how a tool ends, by what its words say to do
abbrev pub DoesWork : Work → Texts → Moments → View → View → Status → Type 0
DoesWork (Ready task) texts moments u v s = WorksNow task moments u v s
DoesWork (Listed act) texts moments u v s = WorksThrough act texts moments u v s

-- ---- submit

-- the status says how far the submission of a letter went on a book, at this moment
pub record EndsSubmission (w : World) (b : Book) (moment : ℕ) (letter : Letter) (u v : View) (s : Status)
    : Type 0 where
  pub result : Result (Unit {0}) ReplayError
  pub says : s ≡ status_of result
  pub ends : RunEnds w Intake b (submitted w b moment letter) u v result

-- A letter at a moment: by conf and the spool it is refused, or the life that takes it is run.
pub record SubmitsAt (moment : ℕ) (letter : Letter) (u v : View) (s : Status) : Type 0 where
  pub refused : RefusesFirst u v s
  pub run : ForBooks u (λ w b. EndsSubmission w b moment letter u v s)

-- the content can't be read, and nothing was told or changed
pub record HasNoContent (u v : View) (s : Status) : Type 0 where
  pub names : (s ≡ status.Source) ⊎ (s ≡ status.NoMemory)
  pub stays : Stays u v

-- a content that is too long is refused first, and nothing was told or changed
pub record RefusesContent (u v : View) (s : Status) : Type 0 where
  pub names : (s ≡ status.Limit Content) ⊎ (s ≡ status.Source) ⊎ (s ≡ status.NoMemory)
  pub stays : Stays u v

-- a letter is submitted at the clock's one moment
pub record SubmitsNow (letter : Letter) (moments : Moments) (u v : View) (s : Status) : Type 0 where
  pub moment : ℕ
  pub given : AddsMoment moments.before moments.after moment
  pub submits : SubmitsAt moment letter u v s

-- a message as it is handed in
abbrev pub letter_of : Option (List ℕ) → List Receiver → List ℕ → Letter
letter_of sender to content = record { sender = sender; to = to; content = content }

-- A content was read, which is all that the source had, where it tells, and the message is submitted.
pub record SubmitsSome (sender : Option (List ℕ)) (to : List Receiver) (texts : Texts) (moments : Moments)
    (u v : View) (s : Status) : Type 0 where
  pub content : List ℕ
  pub few : length content ≤ most_content
  pub all : IfSome texts.before (λ bytes. content ≡ bytes)
  pub submits : SubmitsNow (letter_of sender to content) moments u v s

-- `submit`: the content is all that the source has. It is refused by its length or can't be read,
-- or the message is submitted. So it is with some content whatever the source tells.
pub record Submits (sender : Option (List ℕ)) (to : List Receiver) (texts : Texts) (moments : Moments)
    (u v : View) (s : Status) : Type 0 where
  pub long : IfSome texts.before (λ bytes. most_content < length bytes → RefusesContent u v s)
  pub run : IfSome texts.before (λ bytes. length bytes ≤ most_content
      → HasNoContent u v s ⊎ SubmitsNow (letter_of sender to bytes) moments u v s)
  pub some : RefusesContent u v s ⊎ SubmitsSome sender to texts moments u v s
