-- What is kept of a reply that has begun.
use Rattle.std.specs.Prelude.{◌&&◌, ◌*◌, ◌+◌, ◌-◌, ◌==◌, ◌||◌, ◌≡◌, [], Bool, if◌then◌else◌, length, List, nat_le, nat_lt, None, not, Option, slice_index, slice_set, take, true, ℕ}
use Rattle.q_smtp.specs.ReplyLines.{begins_line, has_code, is_digit}
use Rattle.q_smtp.specs.Replies.{Bad, Came, Long, On, Part, Whole, nothing_yet}
use Rattle.q_reply.specs.declared.progress.Progress.{Progress}
use Rattle.q_reply.specs.declared.progress.Taken.{Taken}
use Rattle.q_reply.specs.declared.progress.Taken.TheVariants as taken
use Rattle.q_reply.specs.declared.replies.Fed.{Fed}
use Rattle.q_reply.specs.declared.replies.Fed.TheVariants.{Reply, More, BadReply, TooLong}

-- what callers see of a cutter: the reply that has begun, and the answer to bytes that were none
pub record Kept : Type 0 where
  pub progress : Progress
  pub fault : Option Fed

-- What is kept of that reply: the digits of its code, how many lines are whole, how many bytes this line has, and the byte behind its code (0 for none).
pub record Shows (p : Part) (s : Progress) : Type 0 where
  pub lines : s.lines ≡ p.lines
  pub column : s.column ≡ length p.line
  pub mark : s.mark ≡ slice_index p.line 3
  pub digits : take 3 p.line ≡ take (length (take 3 p.line)) s.code
  pub code : p.code ≡ (if s.lines == 0 then [] else s.code)
  pub three : length s.code ≡ 3
  pub begins : begins_line p.line ≡ true
  pub same : has_code p.code p.line ≡ true

-- no fault came, and this reply has begun
pub record Holds (p : Part) (kept : Kept) : Type 0 where
  pub shows : Shows p kept.progress
  pub no_fault : kept.fault ≡ None

-- the digit at this place of the code, or of the first line any
abbrev pub is_digit_of : Progress → ℕ → Bool
is_digit_of s b = (s.lines == 0) || (b == slice_index s.code s.column)

-- a byte other than LF may come next
abbrev pub goes_on : Progress → ℕ → Bool
goes_on s b =
    if s.column == 0 then (nat_le 50 b && nat_le b 53) && is_digit_of s b
    else (if nat_le s.column 2 then is_digit b && is_digit_of s b
    else (if s.column == 3 then (b == 45) || (b == 32) || (b == 13)
    else not (s.mark == 13)))

abbrev pub follows : Progress → ℕ → Bool
follows s b = if b == 10 then nat_le 3 s.column else goes_on s b

abbrev pub number_of : List ℕ → ℕ
number_of code = 100 * (slice_index code 0 - 48) + 10 * (slice_index code 1 - 48) + (slice_index code 2 - 48)

-- after a byte within a line
abbrev pub behind : Progress → ℕ → Progress
behind s b = record {
  code = if (s.lines == 0) && nat_lt s.column 3 then slice_set s.code s.column b else s.code;
  lines = s.lines;
  column = s.column + 1;
  mark = if s.column == 3 then b else s.mark;
}

-- before the next line
abbrev pub next_line : Progress → Progress
next_line s = record { code = s.code; lines = s.lines + 1; column = 0; mark = 0 }

-- a byte was taken as the grammar says
abbrev pub Took : Came → Taken → Progress → Type 0
Took (On q) taken.On s = Shows q s
Took (Whole code) (taken.Whole number) s = (number ≡ code) × Shows nothing_yet s
Took Bad taken.Bad s = Unit {0}
Took Long taken.Long s = Unit {0}
Took (Whole code) taken.On s = ⊥
Took Bad taken.On s = ⊥
Took Long taken.On s = ⊥
Took (On q) (taken.Whole number) s = ⊥
Took Bad (taken.Whole number) s = ⊥
Took Long (taken.Whole number) s = ⊥
Took (On q) taken.Bad s = ⊥
Took (Whole code) taken.Bad s = ⊥
Took Long taken.Bad s = ⊥
Took (On q) taken.Long s = ⊥
Took (Whole code) taken.Long s = ⊥
Took Bad taken.Long s = ⊥

-- the same answer so many bytes further on
abbrev pub further : ℕ → Fed → Fed
further n (Reply code used) = Reply code (n + used)
further n More = More
further n (BadReply byte) = BadReply byte
further n TooLong = TooLong

-- how many more bytes a reply can have at most
abbrev pub room_of : Progress → ℕ
room_of s = 512 * (100 - s.lines) - s.column
