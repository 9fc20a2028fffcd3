-- What `qmgr` says of a command.
use Rattle.std.specs.Prelude.{◌≡◌, ◌≤◌, ◌⊎◌, Bool, false, List, map, String, string_bytes, true, ℕ}
use Rattle.q_drain.specs.Drained.{AreTooFew, CountsRests}
use Rattle.q_door.specs.Doors.{DoorView}
use Rattle.q_events.specs.Forms.{IsMailInForm}
use Rattle.q_host.specs.Calls.{Stays}
use Rattle.q_host.specs.View.{View}
use Rattle.q_link.specs.Records.{HopsView}
use Rattle.q_listen.specs.ListenEnds.{AreTooFew as AreTooFewAtDoor, CountsRests as CountsDoorRests}
use Rattle.q_replay.specs.Spools.{Serves}
use Rattle.q_shape.specs.Buckets.{IsShape}
use Rattle.q_top.specs.Audits.{Audits}
use Rattle.q_top.specs.Courses.{at_door, Connections, Entrances, Moments, Texts, outsides}
use Rattle.q_top.specs.Lives.{DoesWork, DrainsSpool, ListensOnSpool, Replays, Submits}
use Rattle.q_top.specs.Tellings.{Lists, ListsJson, TellsAges, TellsFigures, TellsLoad}
use Rattle.q_top.specs.Looks.{Checks, Shows, TellsParameters, TellsWays}
use Rattle.q_top.specs.Tools.{is_listed, work_of}
use Rattle.q_top.specs.declared.status.Status.{Status}
use Rattle.q_top.specs.declared.status.Status.TheVariants as status
use Rattle.q_words.specs.Requests.{IsRequest}
use Rattle.q_words.specs.declared.error.WordsError.{WordsError}
use Rattle.q_words.specs.declared.error.WordsError.TheVariants as errors
use Rattle.q_words.specs.declared.request.Request.{Request}
use Rattle.q_words.specs.declared.request.Request.TheVariants as requests

-- the words as texts
abbrev pub texts_of : {A : Type 0} → List (String A) → List (List ℕ)
texts_of words = map string_bytes words

-- the words are refused, and nothing is read, told or changed
pub record RefusesWords {H S C N D : Type 0} (h h' : H) (x x' : S) (c c' : C) (n n' : N) (d d' : D)
    (s : Status) : Type 0 where
  pub names : (s ≡ status.Usage) ⊎ (s ≡ status.NoMemory)
  pub host : h' ≡ h
  pub source : x' ≡ x
  pub clock : c' ≡ c
  pub hops : n' ≡ n
  pub door : d' ≡ d

-- the status of words that are refused, or that memory is wanting for
abbrev pub words_status : WordsError → Status
words_status errors.NoMemory = status.NoMemory
words_status error = status.Usage

-- what a command asks for has the form that carrying it out needs
abbrev pub HasForm : Request → Type 0
HasForm requests.Replay = Unit {0}
HasForm (requests.Submit sender to) = IsMailInForm sender to
HasForm (requests.Drain rests) = Unit {0}
HasForm (requests.Listen port count rests) = 1 ≤ count
HasForm (requests.Qshape request) = IsShape request.shape
HasForm requests.Queue = Unit {0}
HasForm (requests.Load mails) = Unit {0}
HasForm (requests.Tool tool) = Unit {0}
HasForm requests.Json = Unit {0}
HasForm requests.Status = Unit {0}
HasForm (requests.Show id) = Unit {0}
HasForm requests.Params = Unit {0}
HasForm (requests.Route addresses) = Unit {0}
HasForm requests.Check = Unit {0}
HasForm requests.Audit = Unit {0}

-- the command takes bytes of its source
abbrev pub takes_input : Request → Bool
takes_input requests.Replay = true
takes_input (requests.Submit sender to) = true
takes_input (requests.Tool tool) = is_listed (work_of tool)
takes_input requests.Audit = true
takes_input request = false

-- it asks the clock
abbrev pub asks_clock : Request → Bool
asks_clock (requests.Submit sender to) = true
asks_clock (requests.Drain rests) = true
asks_clock (requests.Listen port count rests) = true
asks_clock (requests.Qshape request) = true
asks_clock (requests.Tool tool) = true
asks_clock request = false

-- it delivers over connections
abbrev pub uses_connections : Request → Bool
uses_connections (requests.Drain rests) = true
uses_connections request = false

-- it takes mail at a door
abbrev pub uses_door : Request → Bool
uses_door (requests.Listen port count rests) = true
uses_door request = false

-- how the command ends that is asked for
abbrev pub Does : Request → Texts → Moments → Connections → Entrances → Status → View → View → Type 0
Does requests.Replay texts moments connections entrances s u v = Replays texts u v s
Does (requests.Submit sender to) texts moments connections entrances s u v =
    Submits sender to texts moments u v s
Does (requests.Drain rests) texts moments connections entrances s u v =
    DrainsSpool (outsides moments connections) u v s
Does (requests.Listen port count rests) texts moments connections entrances s u v =
    ListensOnSpool port count (at_door moments entrances) u v s
Does (requests.Qshape request) texts moments connections entrances s u v = TellsAges request moments u v s
Does requests.Queue texts moments connections entrances s u v = Lists u v s
Does (requests.Load mails) texts moments connections entrances s u v = TellsLoad mails u v s
Does (requests.Tool tool) texts moments connections entrances s u v =
    DoesWork (work_of tool) texts moments u v s
Does requests.Json texts moments connections entrances s u v = ListsJson u v s
Does requests.Status texts moments connections entrances s u v = TellsFigures u v s
Does (requests.Show id) texts moments connections entrances s u v = Shows id u v s
Does requests.Params texts moments connections entrances s u v = TellsParameters u v s
Does (requests.Route addresses) texts moments connections entrances s u v = TellsWays addresses u v s
Does requests.Check texts moments connections entrances s u v = Checks u v s
Does requests.Audit texts moments connections entrances s u v = Audits texts u v s

-- the commands that run a life, or many; the others only look
abbrev pub runs_lives : Request → Bool
runs_lives requests.Replay = true
runs_lives (requests.Submit sender to) = true
runs_lives (requests.Drain rests) = true
runs_lives (requests.Listen port count rests) = true
runs_lives (requests.Qshape request) = false
runs_lives requests.Queue = false
runs_lives (requests.Load mails) = false
runs_lives (requests.Tool tool) = true
runs_lives requests.Json = false
runs_lives requests.Status = false
runs_lives (requests.Show id) = false
runs_lives requests.Params = false
runs_lives (requests.Route addresses) = false
runs_lives requests.Check = false
runs_lives requests.Audit = false

-- the commands that may find a fault of the input, of the spool, of one of its files, of what is asked of it,
-- or a limit; the others only tell what there is
abbrev pub may_blame : Request → Bool
may_blame (requests.Show id) = true
may_blame requests.Params = true
may_blame (requests.Route addresses) = true
may_blame requests.Check = true
may_blame requests.Audit = true
may_blame request = runs_lives request

-- the command that the words ask for was carried out
pub record CarriesOut (words : List (List ℕ)) (texts : Texts) (moments : Moments) (connections : Connections)
    (entrances : Entrances) (s : Status) (u v : View) : Type 0 where
  pub request : Request
  pub asked : IsRequest words request
  pub done : Does request texts moments connections entrances s u v
  pub serves : Serves (runs_lives request) u v

-- it was, or memory ran out before the words were read
abbrev pub MayCarryOut : List (List ℕ) → Texts → Moments → Connections → Entrances → Status → View → View → Type 0
MayCarryOut words texts moments connections entrances s u v =
    ((s ≡ status.NoMemory) × Stays u v) ⊎ CarriesOut words texts moments connections entrances s u v

-- These are all rests that the command allows, and they were given: of a drain those of hops, where mail
-- is taken by SMTP those of the door.
abbrev pub GaveAllRests : Request → ℕ → Connections → Entrances → Type 0
GaveAllRests (requests.Drain rests) n c e = (n ≡ rests) × CountsRests c.before c.after n
GaveAllRests (requests.Listen port count rests) n c e =
    (n ≡ rests) × CountsDoorRests e.before e.after n
GaveAllRests request n c e = ⊥

-- so many rests of the command are fewer than its links may answer `NotYet`
abbrev pub NeedsMoreRests : Request → ℕ → HopsView → DoorView → Type 0
NeedsMoreRests (requests.Drain rests) n hops door = AreTooFew n hops
NeedsMoreRests (requests.Listen port count rests) n hops door = AreTooFewAtDoor n door
NeedsMoreRests request n hops door = ⊥

-- it is a command that the words ask for of which this holds
abbrev pub AsksFor : List (List ℕ) → (Request → Type 0) → Type 0
AsksFor words says = (request : Request) × IsRequest words request × says request

-- the words ask for a command that may find such a fault
abbrev pub AsksToJudge : List (List ℕ) → Type 0
AsksToJudge words = AsksFor words (λ request. may_blame request ≡ true)

-- of the source, the clock, the connections and the door those stay as they were that the command has no
-- use for
pub record UsesNoMore (words : List (List ℕ)) {S C N D : Type 0} (x x' : S) (c c' : C) (n n' : N) (d d' : D)
    : Type 0 where
  pub request : Request
  pub asked : IsRequest words request
  pub source : takes_input request ≡ false → x' ≡ x
  pub clock : asks_clock request ≡ false → c' ≡ c
  pub connections : uses_connections request ≡ false → n' ≡ n
  pub door : uses_door request ≡ false → d' ≡ d

-- the same, or memory ran out before the words were read, and all stay
abbrev pub LeavesAlone : List (List ℕ) → {S C N D : Type 0} → S → S → C → C → N → N → D → D → Type 0
LeavesAlone words x x' c c' n n' d d' =
    ((x' ≡ x) × (c' ≡ c) × (n' ≡ n) × (d' ≡ d)) ⊎ UsesNoMore words x x' c c' n n' d d'
