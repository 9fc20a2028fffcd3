-- Whole lists of codes: all replies of a server to a delivery, and what they say of its recipients.
use Rattle.std.specs.List.{list_all, list_any}
use Rattle.std.specs.Prelude.{◌&&◌, ◌++◌, ◌==◌, ◌≡◌, [], Bool, false, if◌then◌else◌, length, List, map, replicate, true, ℕ, ◌∷◌}
use Rattle.q_model.specs.declared.outcome.Outcome.{Outcome}
use Rattle.q_smtp.specs.Codes.{is_answer, is_done, is_never, is_refusal, outcome_by, outcome_of}

-- behind 220: the codes of EHLO and HELO, of MAIL, of each RCPT, and of DATA and the content
pub record Whole : Type 0 where
  pub hello : List ℕ
  pub mail : ℕ
  pub to : List ℕ
  pub content : List ℕ

abbrev pub whole_codes : Whole → List ℕ
whole_codes w = 220 ∷ w.hello ++ w.mail ∷ w.to ++ w.content

-- EHLO is carried out, or refused for good and HELO is
abbrev pub is_hello : List ℕ → Bool
is_hello [] = false
is_hello (ehlo ∷ []) = is_done ehlo
is_hello (ehlo ∷ helo ∷ []) = is_never ehlo && is_done helo
is_hello (ehlo ∷ helo ∷ more ∷ codes) = false

-- 354 to DATA and an answer to the content, or DATA is refused
abbrev pub is_content : List ℕ → Bool
is_content [] = false
is_content (data_code ∷ []) = is_refusal data_code
is_content (data_code ∷ last ∷ []) = (data_code == 354) && is_answer last
is_content (data_code ∷ last ∷ more ∷ codes) = false

-- no such codes
abbrev pub is_none : List ℕ → Bool
is_none codes = length codes == 0

-- The codes of n recipients, and of DATA and the content: these are sent where a recipient was accepted.
abbrev pub is_named : ℕ → List ℕ → List ℕ → Bool
is_named n to content = (length to == n) && list_all is_answer to && (if list_any is_done to then is_content content else is_none content)

-- a whole list for n recipients: they are named where MAIL is carried out
abbrev pub is_whole : ℕ → Whole → Bool
is_whole n w = is_hello w.hello && (if is_done w.mail then is_named n w.to w.content else is_refusal w.mail && is_none w.to && is_none w.content)

-- the code that the accepted recipients have in the end
abbrev pub last_code : List ℕ → ℕ
last_code [] = 0
last_code (data_code ∷ []) = data_code
last_code (data_code ∷ last ∷ more) = last

abbrev pub whole_outcomes : ℕ → Whole → List Outcome
whole_outcomes n w = if is_done w.mail then map (outcome_by (last_code w.content)) w.to else replicate n (outcome_of w.mail)

-- A server's codes begin with a whole list that says this of n recipients. What follows it is not looked at.
pub record Says (n : ℕ) (codes : List ℕ) (said : List Outcome) : Type 0 where
  pub whole : Whole
  pub more : List ℕ
  pub form : is_whole n whole ≡ true
  pub begins : codes ≡ whole_codes whole ++ more
  pub outcomes : said ≡ whole_outcomes n whole

-- the codes can go on to a whole list
abbrev pub CanGoOn : ℕ → List ℕ → Type 0
CanGoOn n codes = (w : Whole) × (more : List ℕ) × (is_whole n w ≡ true) × (codes ++ more ≡ whole_codes w)
