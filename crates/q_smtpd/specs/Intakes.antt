-- What the bytes that a link gave say to an SMTP server (RFC 5321): its replies, and the messages that came.
use Rattle.std.specs.Prelude.{◌+◌, ◌++◌, ◌==◌, [], Bool, false, filter_map, flat_map, if◌then◌else◌, length, List, nat_lt, Some, true, ℕ, ◌∷◌}
use Rattle.q_smtpd.specs.Answers.{answer_line}
use Rattle.q_smtpd.specs.Commands.{obeyed}
use Rattle.q_smtpd.specs.Contents.{ends_line, is_final_dot, is_too_big, stored_line}
use Rattle.q_smtpd.specs.LineEnds.{without_cr}
use Rattle.q_smtpd.specs.Places.{Came, Course, Envelope, Mail, Place, Reply, answers, commands, contents, goes_on, greeted, left, plain, says, ungreeted}
use Rattle.q_smtpd.specs.declared.answer.Answer.TheVariants.{Accepted, Greeting, TooBig, TooLong}

-- a command line came whole, with its LF, or is longer than it may be
abbrev pub line_comes : Course → List ℕ → Came
line_comes c line = if nat_lt 512 (length line + 1) then answers TooLong c else obeyed c (without_cr line)

-- a content came whole
abbrev pub content_ends : Envelope → List ℕ → Came
content_ends e content = if is_too_big content then answers TooBig greeted
    else says (record { text = answer_line Accepted; mail = Some (record { sender = e.sender; to = e.to; content = content }) }) (commands greeted [])

-- a line of a content came whole
abbrev pub content_line : Envelope → List ℕ → List ℕ → Came
content_line e text line = if is_final_dot line then content_ends e text else goes_on (contents e (text ++ stored_line line) [])

-- the next byte came
abbrev pub comes : Place → ℕ → Came
comes (commands c line) b = if b == 10 then line_comes c line else goes_on (commands c (line ++ b ∷ []))
comes (contents e text line) b = if ends_line line b then content_line e text (without_cr line) else goes_on (contents e text (line ++ b ∷ []))
comes left b = goes_on left

-- the place behind bytes
unfoldable pub place_after : Place → List ℕ → Place
place_after p [] = p
place_after p (b ∷ bytes) = place_after (comes p b).place bytes

-- the replies to bytes
unfoldable pub replies_from : Place → List ℕ → List Reply
replies_from p [] = []
replies_from p (b ∷ bytes) = (comes p b).replies ++ replies_from (comes p b).place bytes

-- a new session
abbrev pub start : Place
start = commands ungreeted []

-- the place behind all that a link gave, and the replies to it
abbrev pub place_of : List ℕ → Place
place_of received = place_after start received

abbrev pub replies_to : List ℕ → List Reply
replies_to received = plain Greeting ∷ replies_from start received

-- their bytes, in order
abbrev pub bytes_of : List Reply → List ℕ
bytes_of replies = flat_map (λ r. r.text) replies

abbrev pub due : List ℕ → List ℕ
due received = bytes_of (replies_to received)

-- the messages that they take, in order
abbrev pub mails_of : List Reply → List Mail
mails_of replies = filter_map (λ r. r.mail) replies

abbrev pub mails : List ℕ → List Mail
mails received = mails_of (replies_to received)

-- QUIT came
abbrev pub is_left : Place → Bool
is_left (commands c line) = false
is_left (contents e text line) = false
is_left left = true

abbrev pub quits : List ℕ → Bool
quits received = is_left (place_of received)
