-- What the words of a command ask for.
use Rattle.std.specs.List.{list_any}
use Rattle.std.specs.Option.{option_and_then}
use Rattle.std.specs.Prelude.{◌∷◌, ◌≡◌, ◌≤◌, [], Bool, bytes_eq, codes, false, if◌then◌else◌, List, Option, slice_get, Some, true, unwrap_or, ℕ}
use Rattle.std.specs.Str.Parse.{digits_value, without_leading_plus}
use Rattle.clap.specs.Words.{all_of, first_of, matches_of, one_of, Row, Text}
use Rattle.q_model.specs.Lists.{has_none}
use Rattle.q_shape.specs.Buckets.{IsShape}
use Rattle.q_numbers.specs.Pieces.{one_or_more}
use Rattle.q_text.specs.ValueTexts.{plain_of, sender_of_text}
use Rattle.q_model.specs.declared.queues.Queues.{Queues}
use Rattle.q_model.specs.Values.{Receiver}
use Rattle.q_words.specs.declared.request.Request.{Request}
use Rattle.q_words.specs.declared.request.Request.TheVariants as requests
use Rattle.q_shape.specs.declared.request.TableRequest.{TableRequest}
use Rattle.q_words.specs.declared.tool.ToolRequest.TheVariants as tools
use Rattle.q_words.specs.Commands.{drain_app, listen_app, load_app, qshape_app, submit_app}
use Rattle.q_words.specs.Looks.{IsOne, IsRoute}
use Rattle.q_words.specs.Tools.{IsChosen, IsDomain, IsTarget}

-- all words of an argument
abbrev pub words_of : Text → List Row → List Text
words_of id rows = unwrap_or (all_of id rows) []

-- the sender, null where the word is `<>`; None where the word is no address
abbrev pub sender_in : List Row → Option (Option Text)
sender_in rows = option_and_then sender_of_text (first_of (codes "sender") rows)

-- the recipients; None where a word is no address
abbrev pub to_in : List Row → Option (List Receiver)
to_in rows = one_or_more plain_of (words_of (codes "to") rows)

-- a word that names a queue
abbrev pub is_queue : Text → Bool
is_queue word = list_any (bytes_eq word)
    (codes "incoming" ∷ codes "active" ∷ codes "deferred" ∷ codes "hold" ∷ [])

-- the queues that are named; incoming and active where none is
abbrev pub queues_of : List Text → Queues
queues_of words =
    if has_none words then record { incoming = true; active = true; deferred = false; hold = false }
    else record {
      incoming = list_any (bytes_eq (codes "incoming")) words;
      active = list_any (bytes_eq (codes "active")) words;
      deferred = list_any (bytes_eq (codes "deferred")) words;
      hold = list_any (bytes_eq (codes "hold")) words;
    }

-- the flag is as its word says
pub record IsFlag (rows : List Row) (id : Text) (flag : Bool) : Type 0 where
  pub set : one_of id rows ≡ Some (codes "true") → flag ≡ true
  pub unset : one_of id rows ≡ Some (codes "false") → flag ≡ false

-- the number is that of the word
pub record IsNumber (rows : List Row) (id : Text) (n : ℕ) : Type 0 where
  pub text : Text
  pub given : one_of id rows ≡ Some text
  pub read : n ≡ digits_value 10 (without_leading_plus text)

-- the table that the words of `qshape` ask for
pub record IsTableRequest (rows : List Row) (t : TableRequest) : Type 0 where
  pub senders : IsFlag rows (codes "senders") t.senders
  pub linear : IsFlag rows (codes "linear") t.shape.linear
  pub buckets : IsNumber rows (codes "buckets") t.shape.buckets
  pub minutes : IsNumber rows (codes "minutes") t.shape.minutes
  pub shape : IsShape t.shape
  pub queues : t.queues ≡ queues_of (words_of (codes "queues") rows)

-- the sender and the recipients that the words of `submit` name
pub record IsSubmission (rows : List Row) (sender : Option Text) (to : List Receiver) : Type 0 where
  pub from : sender_in rows ≡ Some sender
  pub recipients : to_in rows ≡ Some to

-- the request is that of `submit`
abbrev pub IsSubmit : List Row → Request → Type 0
IsSubmit rows (requests.Submit sender to) = IsSubmission rows sender to
IsSubmit rows request = ⊥

-- the request is that of `drain`
abbrev pub IsDrain : List Row → Request → Type 0
IsDrain rows (requests.Drain rests) = IsNumber rows (codes "rests") rests
IsDrain rows request = ⊥

-- so many mails, which are in the range of `load`
pub record IsLoadOf (rows : List Row) (mails : ℕ) : Type 0 where
  pub number : IsNumber rows (codes "mails") mails
  pub some : 1 ≤ mails
  pub few : mails ≤ 2000

-- the request is that of `load`
abbrev pub IsLoad : List Row → Request → Type 0
IsLoad rows (requests.Load mails) = IsLoadOf rows mails
IsLoad rows request = ⊥

-- the port, so many connections and so many rests; there is a port, and at least one connection
pub record IsListenOf (rows : List Row) (port count rests : ℕ) : Type 0 where
  pub is_port : IsNumber rows (codes "port") port
  pub is_count : IsNumber rows (codes "count") count
  pub is_rests : IsNumber rows (codes "rests") rests
  pub some_port : 1 ≤ port
  pub some : 1 ≤ count
  pub few : count ≤ 1000000

-- the request is that of `listen`
abbrev pub IsListen : List Row → Request → Type 0
IsListen rows (requests.Listen port count rests) = IsListenOf rows port count rests
IsListen rows request = ⊥

-- the request is that of `qshape`
abbrev pub IsQshape : List Row → Request → Type 0
IsQshape rows (requests.Qshape table) = IsTableRequest rows table
IsQshape rows request = ⊥

-- the word in front, which names a command
abbrev pub command_of : List Text → Option Text
command_of words = slice_get words 0

-- what the words ask for, the command in front
abbrev pub IsRequest : List Text → Request → Type 0
IsRequest words requests.Replay = command_of words ≡ Some (codes "replay")
IsRequest words requests.Queue = command_of words ≡ Some (codes "queue")
IsRequest words (requests.Submit sender to) =
    (command_of words ≡ Some (codes "submit")) × IsSubmission (matches_of submit_app words) sender to
IsRequest words (requests.Drain rests) =
    (command_of words ≡ Some (codes "drain")) × IsNumber (matches_of drain_app words) (codes "rests") rests
IsRequest words (requests.Load mails) =
    (command_of words ≡ Some (codes "load")) × IsLoadOf (matches_of load_app words) mails
IsRequest words (requests.Listen port count rests) =
    (command_of words ≡ Some (codes "listen")) × IsListenOf (matches_of listen_app words) port count rests
IsRequest words (requests.Qshape table) =
    (command_of words ≡ Some (codes "qshape")) × IsTableRequest (matches_of qshape_app words) table
IsRequest words (requests.Tool (tools.Hold target)) =
    (command_of words ≡ Some (codes "hold")) × IsTarget (codes "hold") words target
IsRequest words (requests.Tool (tools.Release target)) =
    (command_of words ≡ Some (codes "release")) × IsTarget (codes "release") words target
IsRequest words (requests.Tool (tools.Requeue target)) =
    (command_of words ≡ Some (codes "requeue")) × IsTarget (codes "requeue") words target
IsRequest words (requests.Tool (tools.Expire chosen)) =
    (command_of words ≡ Some (codes "expire")) × IsChosen words chosen
IsRequest words (requests.Tool (tools.Flush domain)) =
    (command_of words ≡ Some (codes "flush")) × IsDomain words domain
IsRequest words requests.Json = command_of words ≡ Some (codes "json")
IsRequest words requests.Status = command_of words ≡ Some (codes "status")
IsRequest words requests.Params = command_of words ≡ Some (codes "params")
IsRequest words requests.Check = command_of words ≡ Some (codes "check")
IsRequest words requests.Audit = command_of words ≡ Some (codes "audit")
IsRequest words (requests.Show id) = (command_of words ≡ Some (codes "show")) × IsOne words id
IsRequest words (requests.Route addresses) = (command_of words ≡ Some (codes "route")) × IsRoute words addresses
