-- Worked dialogues.
use Rattle.std.proofs.Common.{◌≡◌, ℕ, true, List, [], ◌∷◌, ◌++◌, None, Some, refl, codes, flat_map, replicate}
use Rattle.q_numbers.specs.Pieces.{cut}
use Rattle.q_smtpd.specs.Answers.{with_crlf}
use Rattle.q_smtpd.specs.Commands.{receiver}
use Rattle.q_smtpd.specs.Intakes.{due, mails, place_after, quits, replies_from}
use Rattle.q_smtpd.specs.LineEnds.{ends_with_cr, without_cr}
use Rattle.q_smtpd.specs.Paths.{behind_spaces}
use Rattle.q_smtpd.specs.Places.{Mail}

abbrev crlf_lines : List (List ℕ) → List ℕ
crlf_lines lines = flat_map with_crlf lines

abbrev one : Mail
one = record { sender = Some (codes "a@x.example"); to = receiver (codes "b@y.example") ∷ []; content = codes ".hi" ++ 10 ∷ [] }

abbrev first_bytes : List ℕ
first_bytes = crlf_lines (codes "EHLO c" ∷ codes "MAIL FROM:<a@x.example>" ∷ codes "RCPT TO:<b@y.example>" ∷ codes "DATA" ∷ codes "..hi" ∷ codes "." ∷ codes "QUIT" ∷ [])

-- one message, and QUIT
first_replies : due first_bytes
    ≡ crlf_lines (codes "220 localhost" ∷ codes "250 localhost" ∷ codes "250 ok" ∷ codes "250 ok" ∷ codes "354 go" ∷ codes "250 ok" ∷ codes "221 bye" ∷ [])
unfolding replies_from cut behind_spaces ends_with_cr without_cr
first_replies = refl

first_mails : mails first_bytes ≡ one ∷ []
unfolding replies_from cut behind_spaces ends_with_cr without_cr
first_mails = refl

first_quits : quits first_bytes ≡ true
unfolding place_after cut behind_spaces ends_with_cr without_cr
first_quits = refl

-- DATA right after EHLO
data_first : due (crlf_lines (codes "EHLO c" ∷ codes "DATA" ∷ [])) ≡ crlf_lines (codes "220 localhost" ∷ codes "250 localhost" ∷ codes "503 order" ∷ [])
unfolding replies_from cut behind_spaces ends_with_cr without_cr
data_first = refl

-- any case, spaces behind the colon, and the null sender
any_case : mails (crlf_lines (codes "helo c" ∷ codes "Mail From:  <>" ∷ codes "rcpt tO: <b@y.example>" ∷ codes "dAtA" ∷ codes "." ∷ []))
    ≡ record { sender = None; to = receiver (codes "b@y.example") ∷ []; content = [] } ∷ []
unfolding replies_from cut behind_spaces ends_with_cr without_cr
any_case = refl

-- of several faults the first in order is answered
mail_faults : due (crlf_lines (codes "MAIL FROM:a" ∷ codes "EHLO c" ∷ codes "MAIL FROM:a" ∷ codes "MAIL" ∷ codes "MAIL FROM:<a> b" ∷ codes "MAIL FROM:<a@b> c" ∷ codes "MAIL FROM:<a@b>" ∷ codes "MAIL FROM:a" ∷ []))
    ≡ crlf_lines (codes "220 localhost" ∷ codes "503 order" ∷ codes "250 localhost" ∷ codes "501 syntax" ∷ codes "501 syntax" ∷ codes "553 address" ∷ codes "555 parameters" ∷ codes "250 ok" ∷ codes "503 order" ∷ [])
unfolding replies_from cut behind_spaces ends_with_cr without_cr
mail_faults = refl

rcpt_faults : due (crlf_lines (codes "HELO c" ∷ codes "RCPT TO:<a@b>" ∷ codes "MAIL FROM:<>" ∷ codes "RCPT TO:<>" ∷ codes "RCPT TO:<a@b" ∷ codes "RCPT TO:<a@b> " ∷ codes "DATA" ∷ codes "RCPT TO:<a@b>" ∷ codes "DATA" ∷ []))
    ≡ crlf_lines (codes "220 localhost" ∷ codes "250 localhost" ∷ codes "503 order" ∷ codes "250 ok" ∷ codes "553 address" ∷ codes "501 syntax" ∷ codes "555 parameters" ∷ codes "503 order" ∷ codes "250 ok" ∷ codes "354 go" ∷ [])
unfolding replies_from cut behind_spaces ends_with_cr without_cr
rcpt_faults = refl

-- RSET and EHLO drop a message that has begun
dropped : due (crlf_lines (codes "EHLO c" ∷ codes "MAIL FROM:<a@b>" ∷ codes "RCPT TO:<a@b>" ∷ codes "RSET" ∷ codes "DATA" ∷ codes "MAIL FROM:<a@b>" ∷ codes "EHLO c" ∷ codes "RCPT TO:<a@b>" ∷ []))
    ≡ crlf_lines (codes "220 localhost" ∷ codes "250 localhost" ∷ codes "250 ok" ∷ codes "250 ok" ∷ codes "250 ok" ∷ codes "503 order" ∷ codes "250 ok" ∷ codes "250 localhost" ∷ codes "503 order" ∷ [])
unfolding replies_from cut behind_spaces ends_with_cr without_cr
dropped = refl

abbrev opened : List ℕ
opened = crlf_lines (codes "EHLO c" ∷ codes "MAIL FROM:<a@b>" ∷ codes "RCPT TO:<a@b>" ∷ codes "DATA" ∷ [])

abbrev with_content : List ℕ → List Mail
with_content content = record { sender = Some (codes "a@b"); to = receiver (codes "a@b") ∷ []; content = content } ∷ []

-- a dot in front goes, a bare LF and a bare CR stay, and a dot is the end between two CRLF alone
dots_and_ends : mails (opened ++ codes "." ++ 10 ∷ codes "." ++ 13 ∷ 10 ∷ codes "..." ++ 13 ∷ 13 ∷ 10 ∷ codes "a.b" ++ 10 ∷ codes "." ++ 13 ∷ codes "c" ++ 13 ∷ 10 ∷ 13 ∷ 10 ∷ codes "." ++ 13 ∷ 10 ∷ [])
    ≡ with_content (10 ∷ codes "." ++ 10 ∷ codes ".." ++ 13 ∷ 10 ∷ codes "a.b" ++ 10 ∷ codes "." ++ 13 ∷ codes "c" ++ 10 ∷ 10 ∷ [])
unfolding replies_from cut behind_spaces ends_with_cr without_cr
dots_and_ends = refl

-- a dot with a CR, another CR and an LF is a line of its own
dot_return : mails (opened ++ codes "." ++ 13 ∷ 13 ∷ 10 ∷ codes "." ++ 13 ∷ 10 ∷ []) ≡ with_content (13 ∷ 10 ∷ [])
unfolding replies_from cut behind_spaces ends_with_cr without_cr
dot_return = refl

-- a content without its end
unended : mails (opened ++ codes "a" ++ 13 ∷ 10 ∷ codes ".") ≡ []
unfolding replies_from cut behind_spaces ends_with_cr without_cr
unended = refl

unended_due : due (opened ++ codes "a" ++ 13 ∷ 10 ∷ codes ".") ≡ due opened
unfolding replies_from cut behind_spaces ends_with_cr without_cr
unended_due = refl

-- commands may end with LF alone; the content is empty where the dot follows at once
bare_ends : mails (codes "EHLO c" ++ 10 ∷ codes "MAIL FROM:<a@b>" ++ 10 ∷ codes "RCPT TO:<a@b>" ++ 10 ∷ codes "DATA" ++ 10 ∷ codes "." ++ 13 ∷ 10 ∷ []) ≡ with_content []
unfolding replies_from cut behind_spaces ends_with_cr without_cr
bare_ends = refl

-- two messages, one behind the other
two_mails : mails (opened ++ crlf_lines (codes "." ∷ codes "MAIL FROM:<a@b>" ∷ codes "RCPT TO:<a@b>" ∷ codes "DATA" ∷ codes "b" ∷ codes "." ∷ []))
    ≡ with_content [] ++ with_content (codes "b" ++ 10 ∷ [])
unfolding replies_from cut behind_spaces ends_with_cr without_cr
two_mails = refl

-- a line of 512 bytes, and one of 513
longest_line : due (codes "VRFY " ++ replicate 505 120 ++ 13 ∷ 10 ∷ []) ≡ crlf_lines (codes "220 localhost" ∷ codes "252 try it" ∷ [])
unfolding replies_from cut behind_spaces ends_with_cr without_cr
longest_line = refl

longer_line : due (codes "VRFY " ++ replicate 506 120 ++ 13 ∷ 10 ∷ codes "NOOP" ++ 10 ∷ []) ≡ crlf_lines (codes "220 localhost" ∷ codes "500 too long" ∷ codes "250 ok" ∷ [])
unfolding replies_from cut behind_spaces ends_with_cr without_cr
longer_line = refl

-- lines that are no command, and those that lack their argument
unknown : due (crlf_lines ([] ∷ codes "DATA x" ∷ codes "EHLOc" ∷ codes "NOOP x" ∷ codes "EHLO" ∷ codes "VRFY" ∷ codes "HELO " ∷ codes " QUIT" ∷ []))
    ≡ crlf_lines (codes "220 localhost" ∷ codes "500 unknown" ∷ codes "500 unknown" ∷ codes "500 unknown" ∷ codes "500 unknown" ∷ codes "501 syntax" ∷ codes "501 syntax" ∷ codes "501 syntax" ∷ codes "500 unknown" ∷ [])
unfolding replies_from cut behind_spaces ends_with_cr without_cr
unknown = refl

-- what stands behind QUIT is not looked at
behind_quit : due (crlf_lines (codes "quit" ∷ codes "NOOP" ∷ [])) ≡ crlf_lines (codes "220 localhost" ∷ codes "221 bye" ∷ [])
unfolding replies_from cut behind_spaces ends_with_cr without_cr
behind_quit = refl
