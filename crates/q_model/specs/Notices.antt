-- The message that tells a sender which recipients failed (RFC 5321, section 6.1; RFC 3464 is not used).
use Rattle.std.specs.Prelude.{◌++◌, [], codes, decimal, flat_map, length, List, min, None, Option, Some, take, unwrap_or, ℕ, ◌∷◌}
use Rattle.q_model.specs.IdTexts.{id_text}
use Rattle.q_model.specs.Ids.{bounce_of}
use Rattle.q_model.specs.Message.{address_at, Logged, Message, new_recipient, original_at}
use Rattle.q_model.specs.QueueFile.{new_version}
use Rattle.q_model.specs.TextParts.{text_line, why_text}
use Rattle.q_model.specs.declared.rows.Place.TheVariants as places

-- what is said of the original address
abbrev pub original_text : Option (List ℕ) → List ℕ
original_text None = []
original_text (Some address) = codes " (for " ++ address ++ codes ")"

-- the line of one failure
abbrev pub failure_line : Message → Logged → List ℕ
failure_line m f =
    text_line (address_at m f.failure.position ++ original_text (original_at m f.failure.position) ++ codes ": " ++ why_text f.failure.why ++ 32 ∷ decimal f.failure.code)

-- the content: which recipients failed and why, and the front of the message
abbrev pub notice : Message → List ℕ
notice m = text_line (codes "From: MAILER-DAEMON")
    ++ text_line (codes "To: " ++ unwrap_or m.sender [])
    ++ text_line (codes "Subject: Undelivered Mail Returned to Sender")
    ++ text_line []
    ++ text_line (codes "These recipients of message " ++ id_text m.id ++ codes " were not reached:")
    ++ text_line []
    ++ flat_map (failure_line m) m.failures
    ++ text_line []
    ++ text_line (codes "The message had " ++ decimal (length m.content) ++ codes " bytes. Its first "
    ++ decimal (min (length m.content) 50000) ++ codes " bytes follow.")
    ++ text_line []
    ++ take 50000 m.content

-- the bounce of m, stored now
abbrev pub bounce_message : ℕ → Message → Message
bounce_message now m = record {
  id = bounce_of m.id;
  version = new_version;
  sender = None;
  arrival = now;
  content = notice m;
  recipients = new_recipient (record { address = unwrap_or m.sender []; original = None }) ∷ [];
  failures = [];
  place = places.Incoming;
}
