-- The codes of answers, and of the outcomes that they come to.
use Rattle.std.specs.List.{list_all}
use Rattle.std.specs.Prelude.{◌||◌, ◌==◌, ◌≡◌, Bool, List, true, ℕ}
use Rattle.q_model.specs.declared.outcome.Outcome.{Outcome}
use Rattle.q_model.specs.declared.outcome.Outcome.TheVariants as outcomes
use Rattle.q_smtp.specs.Codes.{is_answer, is_refusal}
use Rattle.q_session.specs.declared.delivery.Delivery.{Delivery}
use Rattle.q_session.specs.declared.dialogue.Next.{Next}
use Rattle.q_session.specs.declared.dialogue.Next.TheVariants as next
use Rattle.q_session.specs.declared.polled.Polled.{Polled}
use Rattle.q_session.specs.declared.polled.Polled.TheVariants.{Over, Working}

-- each recipient's code is that of an answer
abbrev pub AreAnswers : List ℕ → Type 0
AreAnswers codes = list_all is_answer codes ≡ true

-- the last code is that of an answer, or 0 where no recipient needs it
abbrev pub is_last : ℕ → Bool
is_last last = (last == 0) || is_answer last

abbrev pub IsLast : Next → Type 0
IsLast (next.Say command) = Unit {0}
IsLast next.SendContent = Unit {0}
IsLast (next.Settled last) = is_last last ≡ true
IsLast next.Broken = Unit {0}

-- each recipient has its code, and those that were accepted have the last one
pub record AreSettled (last : ℕ) (codes : List ℕ) : Type 0 where
  pub answers : AreAnswers codes
  pub last_is : is_last last ≡ true

-- an outcome has the code of a reply that refuses, or none
abbrev pub has_reply_code : Outcome → Bool
has_reply_code outcomes.Ok = true
has_reply_code (outcomes.Later code) = (code == 0) || is_refusal code
has_reply_code (outcomes.Never code) = (code == 0) || is_refusal code

abbrev pub HaveReplyCodes : List Outcome → Type 0
HaveReplyCodes os = list_all has_reply_code os ≡ true

-- so has each of a session that is over
abbrev pub HasCodes : Polled → Delivery → Type 0
HasCodes Working d = Unit {0}
HasCodes (Over site) d = HaveReplyCodes d.outcomes
