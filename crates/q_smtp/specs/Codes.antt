-- Codes of replies (RFC 5321, section 4.2.1), and what they say of recipients.
use Rattle.std.specs.Prelude.{◌&&◌, ◌||◌, Bool, if◌then◌else◌, List, nat_le, nat_lt, replicate, ℕ}
use Rattle.q_model.specs.declared.outcome.Outcome.{Outcome}
use Rattle.q_model.specs.declared.outcome.Outcome.TheVariants as outcomes

-- 2yz: the command was carried out; 4yz: refused for now; 5yz: refused for good
abbrev pub is_done : ℕ → Bool
is_done c = nat_le 200 c && nat_lt c 300

abbrev pub is_later : ℕ → Bool
is_later c = nat_le 400 c && nat_lt c 500

abbrev pub is_never : ℕ → Bool
is_never c = nat_le 500 c && nat_lt c 600

abbrev pub is_refusal : ℕ → Bool
is_refusal c = is_later c || is_never c

abbrev pub is_answer : ℕ → Bool
is_answer c = is_done c || is_refusal c

-- what an answer says of a recipient
abbrev pub outcome_of : ℕ → Outcome
outcome_of c = if is_done c then outcomes.Ok else (if is_later c then outcomes.Later c else outcomes.Never c)

-- Of a recipient by its own code, and by the last one where its own accepted it.
abbrev pub outcome_by : ℕ → ℕ → Outcome
outcome_by last c = if is_done c then outcome_of last else outcome_of c

-- all are put off, without a code
abbrev pub put_off : ℕ → List Outcome
put_off n = replicate n (outcomes.Later 0)
