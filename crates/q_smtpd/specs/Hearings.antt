-- What a session keeps of what came, and what it stands for.
use Rattle.std.specs.Prelude.{◌≡◌, [], List, Some, ℕ, ◌∷◌}
use Rattle.q_smtpd.specs.Answers.{answer_line}
use Rattle.q_smtpd.specs.Keeping.{HoldsContent, HoldsLine}
use Rattle.q_smtpd.specs.Places.{Came, Course, Envelope, Mail, Place, Reply, answers, commands, contents, left, plain, says}
use Rattle.q_smtpd.specs.declared.answer.Answer.TheVariants.{Accepted, Bye, Go}
use Rattle.q_smtpd.specs.declared.course.Next.{Next}
use Rattle.q_smtpd.specs.declared.course.Next.TheVariants as next
use Rattle.q_smtpd.specs.declared.hearing.Heard.{Heard}
use Rattle.q_smtpd.specs.declared.hearing.Heard.TheVariants as heards
use Rattle.q_smtpd.specs.declared.hearing.Hearing.{Hearing}
use Rattle.q_smtpd.specs.declared.hearing.Mail.{Mail as Kept}
use Rattle.q_smtpd.specs.declared.hearing.Stage.TheVariants.{Commands, Contents, Left}

-- what a command leads to, by what came of it and the course behind it
abbrev pub ComesTo : Came → Next → Course → Type 0
ComesTo came (next.Answer answer) c = came ≡ answers answer c
ComesTo came next.Content c = (e : Envelope) × (c.envelope ≡ Some e) × (came ≡ says (plain Go) (contents e [] []))
ComesTo came next.Leave c = came ≡ says (plain Bye) left

pub record HoldsCommands (c : Course) (line : List ℕ) (h : Hearing) : Type 0 where
  pub stage : h.stage ≡ Commands
  pub course : h.course ≡ c
  pub line_is : HoldsLine line h.line
  pub content : HoldsContent [] [] h.content

pub record HoldsContents (e : Envelope) (text line : List ℕ) (h : Hearing) : Type 0 where
  pub stage : h.stage ≡ Contents
  pub envelope : h.course.envelope ≡ Some e
  pub line_is : HoldsLine [] h.line
  pub content : HoldsContent text line h.content

-- it is what is kept where a session stands there
abbrev pub Holds : Place → Hearing → Type 0
Holds (commands c line) h = HoldsCommands c line h
Holds (contents e text line) h = HoldsContents e text line h
Holds left h = h.stage ≡ Left

abbrev pub mail_of : Kept → Mail
mail_of l = record { sender = l.sender; to = l.to; content = l.content }

-- the reply that takes a message
abbrev pub taking : Mail → Reply
taking mail = record { text = answer_line Accepted; mail = Some mail }

-- the replies to a byte
abbrev pub replies_of : Heard → List Reply
replies_of heards.Nothing = []
replies_of (heards.Answer answer) = plain answer ∷ []
replies_of (heards.Mail mail) = taking (mail_of mail) ∷ []

-- a byte came
abbrev pub Hears : Came → Heard → Hearing → Type 0
Hears came heard h = (came.replies ≡ replies_of heard) × Holds came.place h
