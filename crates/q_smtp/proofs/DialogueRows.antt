-- Worked dialogues.
use Rattle.std.proofs.Common.{◌≡◌, ℕ, List, [], ◌∷◌, ◌++◌, None, Some, refl, codes}
use Rattle.q_model.specs.declared.outcome.Outcome.{Outcome}
use Rattle.q_model.specs.declared.outcome.Outcome.TheVariants as outcomes
use Rattle.q_smtp.specs.Replies.{reply_codes, codes_from}
use Rattle.q_smtp.specs.ContentLines.{crlf, sent_content}
use Rattle.q_smtp.specs.Dialogue.{Transaction, Open, Settled, Broken, dialogue, after_ehlo, after_helo, after_mail, rcpts, after_rcpt, after_data, after_content}
use Rattle.q_smtp.specs.Dialogue.{ehlo_line, helo_line, mail_line, rcpt_line, data_line}

-- a line with a dot, and one without an end
dot_lines : sent_content (46 ∷ 97 ∷ 10 ∷ 98 ∷ []) ≡ codes "..a" ++ crlf ++ codes "b" ++ crlf ++ codes "." ++ crlf
unfolding sent_content
dot_lines = refl

no_lines : sent_content [] ≡ codes "." ++ crlf
unfolding sent_content
no_lines = refl

-- a CR is dropped right before an LF only
returns : sent_content (97 ∷ 13 ∷ 10 ∷ 13 ∷ 98 ∷ 13 ∷ 13 ∷ 10 ∷ 10 ∷ 99 ∷ 13 ∷ []) ≡ codes "a" ++ crlf ++ 13 ∷ 98 ∷ 13 ∷ crlf ++ crlf ++ 99 ∷ 13 ∷ crlf ++ codes "." ++ crlf
unfolding sent_content
returns = refl

abbrev reply : List ℕ → List ℕ
reply line = line ++ crlf

abbrev transaction : Transaction
transaction = record { sender = Some (codes "a@x.example"); to = codes "b@y.example" ∷ codes "c@y.example" ∷ []; content = codes "Hello" ++ 10 ∷ [] }

-- a server that refuses the first of two recipients
abbrev refusing : List ℕ
refusing = reply (codes "220 hi") ++ reply (codes "250-one") ++ reply (codes "250 two") ++ reply (codes "250 ok") ++ reply (codes "550 no") ++ reply (codes "250 ok") ++ reply (codes "354 go")

refusing-codes : reply_codes (refusing ++ reply (codes "250 done")) ≡ 220 ∷ 250 ∷ 250 ∷ 550 ∷ 250 ∷ 354 ∷ 250 ∷ []
unfolding codes_from
refusing-codes = refl

refusing-exchange : dialogue transaction (reply_codes (refusing ++ reply (codes "250 done"))) ≡ record {
  due = ehlo_line ++ mail_line transaction.sender ++ rcpt_line (codes "b@y.example") ++ rcpt_line (codes "c@y.example") ++ data_line ++ codes "Hello" ++ crlf ++ codes "." ++ crlf;
  ending = Settled (outcomes.Never 550 ∷ outcomes.Ok ∷ []);
}
unfolding codes_from dialogue after_ehlo after_helo after_mail rcpts after_rcpt after_data after_content sent_content
refusing-exchange = refl

-- without the last reply nothing is settled
refusing-open : (dialogue transaction (reply_codes refusing)).ending ≡ Open
unfolding codes_from dialogue after_ehlo after_helo after_mail rcpts after_rcpt after_data after_content sent_content
refusing-open = refl

abbrev ending_of : List ℕ → Type 0
ending_of bytes = (dialogue transaction (reply_codes bytes)).ending ≡ Broken

-- another greeting, 354 to MAIL, and a letter in a code
broken : ending_of (reply (codes "421 bye")) × ending_of (reply (codes "220 hi") ++ reply (codes "250 ok") ++ reply (codes "354 go")) × ending_of (codes "2x0 hi")
unfolding codes_from dialogue after_ehlo after_helo after_mail rcpts after_rcpt after_data after_content sent_content
broken = (refl, refl, refl)

-- with these codes this is due, and all is settled
abbrev goes : List ℕ → List ℕ → List Outcome → Type 0
goes replies due said = dialogue transaction replies ≡ record { due = due; ending = Settled said }

abbrev named : List ℕ
named = mail_line transaction.sender ++ rcpt_line (codes "b@y.example") ++ rcpt_line (codes "c@y.example")

abbrev content_lines : List ℕ
content_lines = codes "Hello" ++ crlf ++ codes "." ++ crlf

-- EHLO is refused for good, and HELO is carried out
without_ehlo : goes (220 ∷ 502 ∷ 250 ∷ 250 ∷ 250 ∷ 251 ∷ 354 ∷ 250 ∷ []) (ehlo_line ++ helo_line ++ named ++ data_line ++ content_lines) (outcomes.Ok ∷ outcomes.Ok ∷ [])
unfolding dialogue after_ehlo after_helo after_mail rcpts after_rcpt after_data after_content sent_content
without_ehlo = refl

-- MAIL is refused for now: all are put off with its code
mail_later : goes (220 ∷ 250 ∷ 451 ∷ []) (ehlo_line ++ mail_line transaction.sender) (outcomes.Later 451 ∷ outcomes.Later 451 ∷ [])
unfolding dialogue after_ehlo after_mail
mail_later = refl

-- all recipients are refused: no DATA is due
none_accepted : goes (220 ∷ 250 ∷ 250 ∷ 550 ∷ 450 ∷ []) (ehlo_line ++ named) (outcomes.Never 550 ∷ outcomes.Later 450 ∷ [])
unfolding dialogue after_ehlo after_mail rcpts after_rcpt
none_accepted = refl

-- DATA is refused: that is said of the recipient that was accepted, and no content is due
data_refused : goes (220 ∷ 250 ∷ 250 ∷ 250 ∷ 450 ∷ 554 ∷ []) (ehlo_line ++ named ++ data_line) (outcomes.Never 554 ∷ outcomes.Later 450 ∷ [])
unfolding dialogue after_ehlo after_mail rcpts after_rcpt after_data
data_refused = refl

-- the content is refused for good
content_refused : goes (220 ∷ 250 ∷ 250 ∷ 250 ∷ 250 ∷ 354 ∷ 554 ∷ []) (ehlo_line ++ named ++ data_line ++ content_lines) (outcomes.Never 554 ∷ outcomes.Never 554 ∷ [])
unfolding dialogue after_ehlo after_mail rcpts after_rcpt after_data after_content sent_content
content_refused = refl

-- what comes behind the last reply changes nothing
more_comes : goes (220 ∷ 250 ∷ 451 ∷ 250 ∷ 0 ∷ []) (ehlo_line ++ mail_line transaction.sender) (outcomes.Later 451 ∷ outcomes.Later 451 ∷ [])
unfolding dialogue after_ehlo after_mail
more_comes = refl

-- EHLO is refused for now, and HELO for good
no_hello : ((dialogue transaction (220 ∷ 421 ∷ [])).ending ≡ Broken) × ((dialogue transaction (220 ∷ 502 ∷ 502 ∷ [])).ending ≡ Broken)
unfolding dialogue after_ehlo after_helo
no_hello = (refl, refl)

-- the null sender
null_sender : mail_line None ≡ codes "MAIL FROM:<>" ++ crlf
null_sender = refl
