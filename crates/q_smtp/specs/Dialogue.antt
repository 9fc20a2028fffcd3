-- The dialogue with an SMTP server (RFC 5321, section 3): what is sent by the codes of its replies, and how it ends. Each line is sent after the whole reply to the one before.
use Rattle.std.specs.List.{list_any}
use Rattle.std.specs.Prelude.{◌++◌, ◌==◌, [], codes, if◌then◌else◌, length, List, map, Option, replicate, unwrap_or, ℕ, ◌∷◌}
use Rattle.q_model.specs.declared.outcome.Outcome.{Outcome}
use Rattle.q_smtp.specs.Codes.{is_answer, is_done, is_never, is_refusal, outcome_by, outcome_of}
use Rattle.q_smtp.specs.ContentLines.{crlf, sent_content}

-- a message for some of its recipients; the null sender is None
pub record Transaction : Type 0 where
  pub sender : Option (List ℕ)
  pub to : List (List ℕ)
  pub content : List ℕ

-- more replies are awaited; each recipient has its outcome; or a reply came that can't come there
pub data Ending : Type 0 where
  Open : Ending
  Settled : List Outcome → Ending
  Broken : Ending

-- the bytes that are due, QUIT aside, and the ending
pub record Exchange : Type 0 where
  pub due : List ℕ
  pub ending : Ending

abbrev pub ends : Ending → Exchange
ends ending = record { due = []; ending = ending }

-- these bytes are due first
abbrev pub says : List ℕ → Exchange → Exchange
says bytes t = record { due = bytes ++ t.due; ending = t.ending }

abbrev pub ehlo_line : List ℕ
ehlo_line = codes "EHLO localhost" ++ crlf

abbrev pub helo_line : List ℕ
helo_line = codes "HELO localhost" ++ crlf

abbrev pub mail_line : Option (List ℕ) → List ℕ
mail_line sender = codes "MAIL FROM:<" ++ unwrap_or sender [] ++ codes ">" ++ crlf

abbrev pub rcpt_line : List ℕ → List ℕ
rcpt_line address = codes "RCPT TO:<" ++ address ++ codes ">" ++ crlf

abbrev pub data_line : List ℕ
data_line = codes "DATA" ++ crlf

-- sent when all is settled, by one write whose answer isn't looked at
abbrev pub quit_line : List ℕ
quit_line = codes "QUIT" ++ crlf

-- The rest of a dialogue in each of its states, by the codes that are still to come. `to` are the codes of the recipients so far.
-- The content was sent.
unfoldable pub after_content : List ℕ → List ℕ → Exchange
after_content to [] = ends Open
after_content to (c ∷ cs) = if is_answer c then ends (Settled (map (outcome_by c) to)) else ends Broken

-- DATA was sent.
unfoldable pub after_data : Transaction → List ℕ → List ℕ → Exchange
after_data e to [] = ends Open
after_data e to (c ∷ cs) =
    if c == 354 then says (sent_content e.content) (after_content to cs)
    else (if is_refusal c then ends (Settled (map (outcome_by c) to)) else ends Broken)

-- RCPT was sent for one recipient; `next` is the rest after its code.
unfoldable pub after_rcpt : (ℕ → List ℕ → Exchange) → List ℕ → Exchange
after_rcpt next [] = ends Open
after_rcpt next (c ∷ cs) = if is_answer c then next c cs else ends Broken

-- These recipients are still to be named; then the content goes to those that were accepted.
unfoldable pub rcpts : Transaction → List (List ℕ) → List ℕ → List ℕ → Exchange
rcpts e [] to cs = if list_any is_done to then says data_line (after_data e to cs) else ends (Settled (map outcome_of to))
rcpts e (address ∷ left) to cs = says (rcpt_line address) (after_rcpt (λ c more. rcpts e left (to ++ c ∷ []) more) cs)

-- MAIL was sent.
unfoldable pub after_mail : Transaction → List ℕ → Exchange
after_mail e [] = ends Open
after_mail e (c ∷ cs) =
    if is_done c then rcpts e e.to [] cs
    else (if is_refusal c then ends (Settled (replicate (length e.to) (outcome_of c))) else ends Broken)

-- HELO was sent.
unfoldable pub after_helo : Transaction → List ℕ → Exchange
after_helo e [] = ends Open
after_helo e (c ∷ cs) = if is_done c then says (mail_line e.sender) (after_mail e cs) else ends Broken

-- EHLO was sent.
unfoldable pub after_ehlo : Transaction → List ℕ → Exchange
after_ehlo e [] = ends Open
after_ehlo e (c ∷ cs) =
    if is_done c then says (mail_line e.sender) (after_mail e cs)
    else (if is_never c then says helo_line (after_helo e cs) else ends Broken)

-- The link is open.
unfoldable pub dialogue : Transaction → List ℕ → Exchange
dialogue e [] = ends Open
dialogue e (c ∷ cs) = if c == 220 then says ehlo_line (after_ehlo e cs) else ends Broken
