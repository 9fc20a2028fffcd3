-- What is kept of the course of a dialogue, and what it stands for.
use Rattle.std.specs.Option.{option_map_or}
use Rattle.std.specs.Prelude.{◌+◌, ◌++◌, ◌-◌, ◌<◌, ◌≡◌, ◌≤◌, [], drop, List, map, Option, slice_get, vec_capacity, vec_len, ℕ, ◌∷◌}
use Rattle.q_smtp.specs.Codes.{outcome_by}
use Rattle.q_smtp.specs.ContentLines.{sent_content}
use Rattle.q_smtp.specs.Dialogue.{Broken, Transaction, Settled, Exchange, after_content, after_data, after_ehlo, after_helo, after_mail, after_rcpt, data_line, dialogue, ehlo_line, ends, helo_line, mail_line, rcpt_line, rcpts, says}
use Rattle.q_session.specs.declared.dialogue.Awaited.{Awaited}
use Rattle.q_session.specs.declared.dialogue.Awaited.TheVariants.{Answer, Greeting, Verdict}
use Rattle.q_session.specs.declared.dialogue.Command.{Command}
use Rattle.q_session.specs.declared.dialogue.Command.TheVariants.{Data, Ehlo, Helo, Mail, Rcpt}
use Rattle.q_session.specs.declared.dialogue.Dialogue.{Dialogue}
use Rattle.q_session.specs.declared.dialogue.Next.{Next}
use Rattle.q_session.specs.declared.dialogue.Next.TheVariants as next

-- what is sent for a command
abbrev pub command_line : Option (List ℕ) → List (List ℕ) → Command → List ℕ
command_line sender to Ehlo = ehlo_line
command_line sender to Helo = helo_line
command_line sender to Mail = mail_line sender
command_line sender to (Rcpt place) = option_map_or rcpt_line (slice_get to place) []
command_line sender to Data = data_line

-- the rest of the dialogue where this reply is awaited, behind these codes of recipients
abbrev pub rest_by : Transaction → Awaited → List ℕ → List ℕ → Exchange
rest_by e Greeting to cs = dialogue e cs
rest_by e (Answer Ehlo) to cs = after_ehlo e cs
rest_by e (Answer Helo) to cs = after_helo e cs
rest_by e (Answer Mail) to cs = after_mail e cs
rest_by e (Answer (Rcpt place)) to cs = after_rcpt (λ c more. rcpts e (drop (place + 1) e.to) (to ++ c ∷ []) more) cs
rest_by e (Answer Data) to cs = after_data e to cs
rest_by e Verdict to cs = after_content to cs

abbrev pub rest_of : Transaction → Dialogue → List ℕ → Exchange
rest_of e d cs = rest_by e d.awaited d.answers.items cs

-- before the recipients are named there is no code of one; the awaited one is behind those that answered
abbrev pub IsPlace : Awaited → ℕ → ℕ → Type 0
IsPlace Greeting n all = n ≡ 0
IsPlace (Answer Ehlo) n all = n ≡ 0
IsPlace (Answer Helo) n all = n ≡ 0
IsPlace (Answer Mail) n all = n ≡ 0
IsPlace (Answer (Rcpt place)) n all = (place ≡ n) × (n < all)
IsPlace (Answer Data) n all = n ≡ all
IsPlace Verdict n all = n ≡ all

pub record IsCourse (d : Dialogue) : Type 0 where
  pub place : IsPlace d.awaited (vec_len d.answers) d.recipients
  pub room : d.recipients ≤ vec_capacity d.answers

-- a dialogue that begins
pub record Begins (n : ℕ) (d : Dialogue) : Type 0 where
  pub awaited : d.awaited ≡ Greeting
  pub recipients : d.recipients ≡ n
  pub answers : d.answers.items ≡ []
  pub course : IsCourse d

-- The rest of a dialogue, as a function of the codes to come, is this, and then the rest of another.
abbrev pub Leads : Transaction → (List ℕ → Exchange) → Next → Dialogue → Type 0
Leads e rest (next.Say command) d = (more : List ℕ) → rest more ≡ says (command_line e.sender e.to command) (rest_of e d more)
Leads e rest next.SendContent d = (more : List ℕ) → rest more ≡ says (sent_content e.content) (rest_of e d more)
Leads e rest (next.Settled last) d = (more : List ℕ) → rest more ≡ ends (Settled (map (outcome_by last) d.answers.items))
Leads e rest next.Broken d = (more : List ℕ) → rest more ≡ ends Broken

-- which reply is awaited, or that each recipient has its answer
abbrev pub Stands : Next → Dialogue → Type 0
Stands (next.Say command) d = IsCourse d × (d.awaited ≡ Answer command)
Stands next.SendContent d = IsCourse d × (d.awaited ≡ Verdict)
Stands (next.Settled last) d = vec_len d.answers ≡ d.recipients
Stands next.Broken d = Unit {0}

-- before the content is asked for, none of it was sent
abbrev pub IsReady : Awaited → List ℕ → List ℕ → Type 0
IsReady Greeting whole left = left ≡ whole
IsReady (Answer command) whole left = left ≡ whole
IsReady Verdict whole left = Unit {0}

-- and so it is when another reply is awaited, or the content is to be sent
abbrev pub StaysReady : Next → Awaited → List ℕ → List ℕ → Type 0
StaysReady (next.Say command) awaited whole left = IsReady awaited whole left
StaysReady next.SendContent awaited whole left = (left ≡ whole) × (awaited ≡ Verdict)
StaysReady (next.Settled last) awaited whole left = Unit {0}
StaysReady next.Broken awaited whole left = Unit {0}

-- a code was heard
pub record Goes (e : Transaction) (old : Dialogue) (code : ℕ) (then : Next) (new : Dialogue) : Type 0 where
  pub leads : Leads e (λ more. rest_of e old (code ∷ more)) then new
  pub stands : Stands then new
  pub recipients : new.recipients ≡ old.recipients
  pub ready : (whole left : List ℕ) → IsReady old.awaited whole left → StaysReady then new.awaited whole left

-- the next recipient was named, or what comes behind the last one
pub record Named (e : Transaction) (old : Dialogue) (then : Next) (new : Dialogue) : Type 0 where
  pub leads : Leads e (rcpts e (drop (vec_len old.answers) e.to) old.answers.items) then new
  pub stands : Stands then new
  pub recipients : new.recipients ≡ old.recipients
  pub ready : (whole left : List ℕ) → left ≡ whole → StaysReady then new.awaited whole left

-- how many replies are still to come at most
abbrev pub replies_left : Dialogue → ℕ
replies_left d = by_awaited d.awaited d.recipients
  where
    by_awaited : Awaited → ℕ → ℕ
    by_awaited Greeting n = n + 6
    by_awaited (Answer Ehlo) n = n + 5
    by_awaited (Answer Helo) n = n + 4
    by_awaited (Answer Mail) n = n + 3
    by_awaited (Answer (Rcpt place)) n = n - place + 2
    by_awaited (Answer Data) n = 2
    by_awaited Verdict n = 1

-- another reply is awaited, and fewer are to come
abbrev pub IsFewer : Next → Dialogue → Dialogue → Type 0
IsFewer (next.Say command) old new = replies_left new < replies_left old
IsFewer next.SendContent old new = replies_left new < replies_left old
IsFewer (next.Settled last) old new = Unit {0}
IsFewer next.Broken old new = Unit {0}

-- where another reply is awaited, so many are to come at most
abbrev pub AtMost : ℕ → Next → Dialogue → Type 0
AtMost n (next.Say command) d = replies_left d ≤ n
AtMost n next.SendContent d = replies_left d ≤ n
AtMost n (next.Settled last) d = Unit {0}
AtMost n next.Broken d = Unit {0}
