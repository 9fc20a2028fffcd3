-- The text of a notice by its parts, and the messages of which it tells.
use Rattle.std.specs.Prelude.{◌≡◌, ◌++◌, [], codes, decimal, length, List, map, min, Some, take, ℕ, ◌∷◌}
use Rattle.q_model.specs.declared.id.Id.{Id}
use Rattle.q_model.specs.declared.outcome.Failure.{Failure}
use Rattle.q_model.specs.IdTexts.{id_text}
use Rattle.q_model.specs.Message.{address_at, Message, original_at}
use Rattle.q_model.specs.Notices.{notice, original_text}
use Rattle.q_model.specs.TextParts.{text_line, why_text}
use Rattle.q_model.specs.Values.{Receiver}

-- the lines in front of the failures
abbrev pub head_lines : Id → List ℕ → List ℕ
head_lines id sender = text_line (codes "From: MAILER-DAEMON")
    ++ text_line (codes "To: " ++ sender)
    ++ text_line (codes "Subject: Undelivered Mail Returned to Sender")
    ++ text_line []
    ++ text_line (codes "These recipients of message " ++ id_text id ++ codes " were not reached:")
    ++ text_line []

-- the line of a failure, with its recipient's addresses
abbrev pub named_failure : Receiver → Failure → List ℕ
named_failure r f =
    text_line (r.address ++ original_text r.original ++ codes ": " ++ why_text f.why ++ 32 ∷ decimal f.code)

-- the lines of failures, with the addresses of their recipients
abbrev pub named_failures : List Failure → List Receiver → List ℕ
named_failures [] names = []
named_failures (f ∷ fs) [] = []
named_failures (f ∷ fs) (name ∷ names) = named_failure name f ++ named_failures fs names

-- the lines behind the failures, before the front of the message
abbrev pub size_lines : ℕ → List ℕ
size_lines size = text_line []
    ++ text_line (codes "The message had " ++ decimal size ++ codes " bytes. Its first "
    ++ decimal (min size 50000) ++ codes " bytes follow.")
    ++ text_line []

-- all of it
abbrev pub notice_text : Id → List ℕ → List Failure → List Receiver → ℕ → List ℕ → List ℕ
notice_text id sender failures names size front =
    head_lines id sender ++ named_failures failures names ++ size_lines size ++ front

-- the addresses of a position
abbrev pub receiver_at : Message → ℕ → Receiver
receiver_at m position = record { address = address_at m position; original = original_at m position }

-- the failures, names, size and front are those of the message
pub record IsToldOf (m : Message) (id : Id) (sender : List ℕ) (failures : List Failure)
    (names : List Receiver) (size : ℕ) (front : List ℕ) : Type 0 where
  pub id_is : m.id ≡ id
  pub sender_is : m.sender ≡ Some sender
  pub failures_are : map (λ l. l.failure) m.failures ≡ failures
  pub names_are : map (λ l. receiver_at m l.failure.position) m.failures ≡ names
  pub size_is : length m.content ≡ size
  pub front_is : take 50000 m.content ≡ front

-- the text is the notice of each such message
abbrev pub IsNotice : List ℕ → Id → List ℕ → List Failure → List Receiver → ℕ → List ℕ → Type 0
IsNotice text id sender failures names size front =
    (m : Message) → IsToldOf m id sender failures names size front → text ≡ notice m
