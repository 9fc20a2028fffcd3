-- What a status names, whether the host tells its files or not.
use Rattle.std.specs.Prelude.{◌<◌, ◌≡◌, ◌⊎◌, Err, IfSome, length, List, Option, true, ℕ}
use Rattle.q_audit.specs.TraceTexts.{IsFaultyAt, IsPastLimit}
use Rattle.q_conf.specs.Confs.{at_fault, SaySo}
use Rattle.q_conf.specs.declared.error.ConfFile.TheVariants as conf
use Rattle.q_input.specs.IdLines.{ids_in, most_id_bytes}
use Rattle.q_input.specs.declared.error.IdsError.TheVariants.{BadLine}
use Rattle.q_model.specs.declared.id.Id.{Id}
use Rattle.q_model.specs.declared.limits.Bound.{Bound}
use Rattle.q_model.specs.declared.limits.Bound.TheVariants as bounds
use Rattle.q_model.specs.Settings.{Table as Transports}
use Rattle.q_model.specs.Values.{Receiver}
use Rattle.q_replay.specs.Listings.{listing_of}
use Rattle.q_replay.specs.Named.{IsAtFault, ListPasses}
use Rattle.q_restart.specs.Judgements.{IsRefusalOfSome}
use Rattle.q_restart.specs.declared.error.OpenError.TheVariants as open_errors
use Rattle.q_top.specs.Contents.{most_content}
use Rattle.q_top.specs.declared.status.InputFile.TheVariants.{Events, Ids, Parameters, Table, Trace}
use Rattle.q_top.specs.declared.status.Status.{Status}
use Rattle.q_top.specs.declared.status.Status.TheVariants.{Absent, BadInput, Damaged, Limit}
use Rattle.q_words.specs.declared.request.Request.{Request}
use Rattle.q_tools.specs.Tasks.{may_lack}
use Rattle.q_tools.specs.declared.task.Task.{Task}
use Rattle.q_top.specs.Tools.{is_listed, names_some, work_of}
use Rattle.q_words.specs.declared.request.Request.TheVariants.{Audit, Drain, Listen, Replay, Show, Submit, Tool}
use Rattle.q_words.specs.declared.tool.ToolRequest.{ToolRequest}

-- the text is an event list with a line that is at fault, where it is told
abbrev pub HasFault : Option (List ℕ) → ℕ → Type 0
HasFault text line = IfSome text (λ bytes. IsAtFault line (listing_of bytes))

-- the text is an event list that passes the limit
abbrev pub HasTooMuch : Option (List ℕ) → Bound → Type 0
HasTooMuch text bound = IfSome text (λ bytes. ListPasses (listing_of bytes) bound)

-- A letter to these passes the limit, of which the text is the content; of serials, any may.
abbrev pub LetterPasses : List Receiver → Option (List ℕ) → Bound → Type 0
LetterPasses to text bounds.Content = IfSome text (λ bytes. most_content < length bytes)
LetterPasses to text bounds.Recipients = 50000 < length to
LetterPasses to text bounds.Serial = Unit {0}
LetterPasses to text bound = ⊥

-- what is handed in passes the limit: a list or a letter
abbrev pub IsTooMuch : (Request → Type 0) → Option (List ℕ) → Bound → Type 0
IsTooMuch Asks text bound = (Asks Replay × HasTooMuch text bound)
    ⊎ ((sender : Option (List ℕ)) × (to : List Receiver) × Asks (Submit sender to) × LetterPasses to text bound)

-- the command takes mail by SMTP
abbrev pub AsksToListen : (Request → Type 0) → Type 0
AsksToListen Asks = (port : ℕ) × (count : ℕ) × (rests : ℕ) × Asks (Listen port count rests)

-- a queue tool is asked to act on messages that are named
abbrev pub AsksForSome : (Request → Type 0) → Type 0
AsksForSome Asks = (tool : ToolRequest) × (names_some (work_of tool) ≡ true) × Asks (Tool tool)

-- on those whose ids the input has
abbrev pub AsksToList : (Request → Type 0) → Type 0
AsksToList Asks = (tool : ToolRequest) × (is_listed (work_of tool) ≡ true) × Asks (Tool tool)

-- the tool names messages, where the task may find one absent
abbrev pub MayLackFor : ToolRequest → Task → Type 0
MayLackFor tool task = may_lack task ≡ true → names_some (work_of tool) ≡ true

-- this line of the input is no id, where it is told
abbrev pub HasNoId : Option (List ℕ) → ℕ → Type 0
HasNoId text line = IfSome text (λ bytes. ids_in bytes ≡ Err (BadLine line))

-- the input is too long for a list of ids
abbrev pub IsTooLong : Option (List ℕ) → Type 0
IsTooLong text = IfSome text (λ bytes. most_id_bytes < length bytes)

-- a message is named that may be absent
abbrev pub AsksForMessage : (Request → Type 0) → Type 0
AsksForMessage Asks = AsksForSome Asks ⊎ ((id : Id) × Asks (Show id))

-- a trace is to be audited, and by some table this is so of its text, where it is told
abbrev pub AuditsText : (Request → Type 0) → Option (List ℕ) → (Transports → List ℕ → Type 0) → Type 0
AuditsText Asks text says = Asks Audit × ((table : Transports) × IfSome text (says table))

-- A line of conf is one at which some texts are at fault. A damage, and that no generation is left, are
-- what some names of boot and some files of the queues show. A line of an event list, and the limits of
-- what is handed in, are named for commands alone that take the source's text, and by that, where the
-- source tells it; the limit of serials also where mail is taken by SMTP, and that of deliveries for a
-- drain alone. So are a line and the length of a list of ids, and those of a trace. A message isn't found
-- where one is named.
abbrev pub IsNamed : (Asks : Request → Type 0) → (text : Option (List ℕ)) → Status → Type 0
IsNamed Asks text (BadInput Events line) = Asks Replay × HasFault text line
IsNamed Asks text (BadInput Ids line) = AsksToList Asks × HasNoId text line
IsNamed Asks text (BadInput Trace line) = AuditsText Asks text (λ table bytes. IsFaultyAt table bytes line)
IsNamed Asks text (BadInput Parameters line) = SaySo (at_fault conf.Parameters line)
IsNamed Asks text (BadInput Table line) = SaySo (at_fault conf.Table line)
IsNamed Asks text (Damaged area name) = IsRefusalOfSome (open_errors.Damaged area name)
IsNamed Asks text (Limit bounds.Generation) = IsRefusalOfSome open_errors.Spent
IsNamed Asks text (Limit bounds.Deliveries) = (rests : ℕ) × Asks (Drain rests)
IsNamed Asks text (Limit bounds.Content) =
    IsTooMuch Asks text bounds.Content ⊎ AsksToList Asks × IsTooLong text
IsNamed Asks text (Limit bounds.Input) = IsTooMuch Asks text bounds.Input ⊎ AuditsText Asks text IsPastLimit
IsNamed Asks text (Limit bounds.Serial) = IsTooMuch Asks text bounds.Serial ⊎ AsksToListen Asks
IsNamed Asks text (Limit bound) = IsTooMuch Asks text bound
IsNamed Asks text Absent = AsksForMessage Asks
IsNamed Asks text status = Unit {0}
