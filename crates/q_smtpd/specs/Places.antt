-- Where a session of an SMTP server stands, and what bytes bring.
use Rattle.std.specs.Prelude.{[], Bool, false, List, None, Option, true, ℕ, ◌∷◌}
use Rattle.q_model.specs.Values.{Receiver}
use Rattle.q_smtpd.specs.Answers.{answer_line}
use Rattle.q_smtpd.specs.declared.answer.Answer.{Answer}

-- the sender and the recipients so far of a message that has begun (RFC 5321, section 2.3.1); the null sender is None
pub record Envelope : Type 0 where
  pub sender : Option (List ℕ)
  pub to : List Receiver

-- whether EHLO or HELO came, and the message that has begun
pub record Course : Type 0 where
  pub greeted : Bool
  pub envelope : Option Envelope

-- A command line has begun, with these bytes; or the content of a message, with these whole lines as they are stored, and these bytes of the next; or QUIT came.
pub data Place : Type 0 where
  commands : Course → List ℕ → Place
  contents : Envelope → List ℕ → List ℕ → Place
  left : Place

-- a message that came whole
pub record Mail : Type 0 where
  pub sender : Option (List ℕ)
  pub to : List Receiver
  pub content : List ℕ

-- a reply, and the message that it takes
pub record Reply : Type 0 where
  pub text : List ℕ
  pub mail : Option Mail

-- what a byte leads to
pub record Came : Type 0 where
  pub place : Place
  pub replies : List Reply

abbrev pub plain : Answer → Reply
plain answer = record { text = answer_line answer; mail = None }

-- nothing is replied
abbrev pub goes_on : Place → Came
goes_on place = record { place = place; replies = [] }

-- this is replied
abbrev pub says : Reply → Place → Came
says reply place = record { place = place; replies = reply ∷ [] }

-- this is answered, and another command is awaited
abbrev pub answers : Answer → Course → Came
answers answer c = says (plain answer) (commands c [])

-- before the first byte, and without a message behind EHLO or HELO
abbrev pub ungreeted : Course
ungreeted = record { greeted = false; envelope = None }

-- another message may follow
abbrev pub greeted : Course
greeted = record { greeted = true; envelope = None }

abbrev pub without_envelope : Course → Course
without_envelope c = record c { envelope = None }
