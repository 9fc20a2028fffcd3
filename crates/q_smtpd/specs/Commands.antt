-- What each command is answered, and what it changes (RFC 5321, section 4.1.1).
use Rattle.std.specs.Option.{is_none, option_map, option_map_or}
use Rattle.std.specs.Prelude.{◌++◌, ◌==◌, ◌||◌, [], Bool, false, if◌then◌else◌, length, List, nat_le, None, not, Option, Some, unwrap_or, ℕ, ◌∷◌}
use Rattle.q_model.specs.Texts.{is_address}
use Rattle.q_model.specs.Values.{Receiver}
use Rattle.q_smtpd.specs.Paths.{from_path, to_path}
use Rattle.q_smtpd.specs.Places.{Came, Course, Envelope, answers, contents, greeted, left, plain, says, without_envelope}
use Rattle.q_smtpd.specs.Verbs.{argument_of, is_missing, verb_of, word_of}
use Rattle.q_smtpd.specs.declared.answer.Answer.{Answer}
use Rattle.q_smtpd.specs.declared.answer.Answer.TheVariants.{Accepted, AnyArgument, BadAddress, BadSyntax, Bye, Go, Hello, HasParameters, OutOfOrder, TooMany, Unknown}
use Rattle.q_smtpd.specs.declared.verb.Verb.{Verb}
use Rattle.q_smtpd.specs.declared.verb.Verb.TheVariants as verbs

-- nothing, the null sender, or an address
abbrev pub is_sender : List ℕ → Bool
is_sender text = (length text == 0) || is_address text

abbrev pub sender_of : List ℕ → Option (List ℕ)
sender_of text = if length text == 0 then None else Some text

-- why a path is refused: it isn't one, its text isn't of this form, or something stands behind it
abbrev pub path_fault : (List ℕ → Bool) → Option (List ℕ × List ℕ) → Option Answer
path_fault fits None = Some BadSyntax
path_fault fits (Some path) =
    if not (fits path.0) then Some BadAddress
    else if not (length path.1 == 0) then Some HasParameters
    else None

-- the text of a path
abbrev pub text_of : Option (List ℕ × List ℕ) → List ℕ
text_of path = option_map_or (λ p. p.0) path []

-- ---- MAIL

-- behind EHLO or HELO, where no message has begun
abbrev pub may_begin : Course → Bool
may_begin c = if c.greeted then is_none c.envelope else false

abbrev pub mail_fault : Course → Option (List ℕ × List ℕ) → Option Answer
mail_fault c path = if may_begin c then path_fault is_sender path else Some OutOfOrder

-- a message begins
abbrev pub with_sender : List ℕ → Course → Course
with_sender text c = record c { envelope = Some (record { sender = sender_of text; to = [] }) }

-- ---- RCPT

-- as many recipients as a message may have
abbrev pub is_full : Envelope → Bool
is_full e = nat_le 50000 (length e.to)

-- a fault of the path, or else that no recipient more may come
abbrev pub or_full : Option Answer → Bool → Option Answer
or_full (Some fault) full = Some fault
or_full None full = if full then Some TooMany else None

abbrev pub fault_of_envelope : Option Answer → Option Envelope → Option Answer
fault_of_envelope fault None = Some OutOfOrder
fault_of_envelope fault (Some e) = or_full fault (is_full e)

abbrev pub rcpt_fault : Course → Option (List ℕ × List ℕ) → Option Answer
rcpt_fault c path = fault_of_envelope (path_fault is_address path) c.envelope

-- a recipient with the address that its sender wrote
abbrev pub receiver : List ℕ → Receiver
receiver address = record { address = address; original = None }

abbrev pub with_recipient : List ℕ → Envelope → Envelope
with_recipient text e = record e { to = e.to ++ receiver text ∷ [] }

abbrev pub with_rcpt : List ℕ → Course → Course
with_rcpt text c = record c { envelope = option_map (with_recipient text) c.envelope }

-- ---- each command

-- the fault is answered, or this
abbrev pub unless : Option Answer → Course → Came → Came
unless (Some fault) c came = answers fault c
unless None c came = came

-- DATA, behind a recipient that was accepted
abbrev pub begins_content : Course → Option Envelope → Came
begins_content c None = answers OutOfOrder c
begins_content c (Some e) = if length e.to == 0 then answers OutOfOrder c else says (plain Go) (contents e [] [])

-- a command that has no argument
abbrev pub alone : Option (List ℕ) → Course → Came → Came
alone None c came = came
alone (Some text) c came = answers Unknown c

-- a command that has one
abbrev pub with_argument : Option (List ℕ) → Course → Came → Came
with_argument argument c came = if is_missing argument then answers BadSyntax c else came

abbrev pub mail_came : Option (List ℕ × List ℕ) → Course → Came
mail_came path c = unless (mail_fault c path) c (answers Accepted (with_sender (text_of path) c))

abbrev pub rcpt_came : Option (List ℕ × List ℕ) → Course → Came
rcpt_came path c = unless (rcpt_fault c path) c (answers Accepted (with_rcpt (text_of path) c))

abbrev pub carried_out : Verb → Option (List ℕ) → Course → Came
carried_out verbs.Hello argument c = with_argument argument c (answers Hello greeted)
carried_out verbs.Mail argument c = mail_came (from_path (unwrap_or argument [])) c
carried_out verbs.Rcpt argument c = rcpt_came (to_path (unwrap_or argument [])) c
carried_out verbs.Data argument c = alone argument c (begins_content c c.envelope)
carried_out verbs.Reset argument c = alone argument c (answers Accepted (without_envelope c))
carried_out verbs.Noop argument c = alone argument c (answers Accepted c)
carried_out verbs.Verify argument c = with_argument argument c (answers AnyArgument c)
carried_out verbs.Quit argument c = alone argument c (says (plain Bye) left)
carried_out verbs.Other argument c = answers Unknown c

-- a command line came whole
abbrev pub obeyed : Course → List ℕ → Came
obeyed c line = carried_out (verb_of (word_of line)) (argument_of line) c
