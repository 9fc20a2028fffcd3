-- Bytes cut into SMTP replies (RFC 5321, section 4.2): a reply is lines of one code, of which only the last says that none follows.
use Rattle.std.specs.Prelude.{◌&&◌, ◌+◌, ◌++◌, ◌==◌, ◌||◌, [], Bool, if◌then◌else◌, length, List, nat_le, take, ℕ, ◌∷◌}
use Rattle.q_smtp.specs.ReplyLines.{begins_line, code_number, has_code, has_more, may_end}

-- A reply as far as it has come: the code of its first line once that is whole, the number of whole lines, and the line that has begun.
pub record Part : Type 0 where
  pub code : List ℕ
  pub lines : ℕ
  pub line : List ℕ

abbrev pub nothing_yet : Part
nothing_yet = record { code = []; lines = 0; line = [] }

-- the next byte is the 513th of a line, or the first of a 101st line
abbrev pub is_full : Part → Bool
is_full p = nat_le 512 (length p.line) || nat_le 100 p.lines

-- this byte goes on with the reply
abbrev pub may_follow : Part → ℕ → Bool
may_follow p b = if b == 10 then may_end p.line else (begins_line (p.line ++ b ∷ []) && has_code p.code (p.line ++ b ∷ []))

abbrev pub with_byte : Part → ℕ → Part
with_byte p b = record p { line = p.line ++ b ∷ [] }

abbrev pub with_line : Part → Part
with_line p = record { code = take 3 p.line; lines = p.lines + 1; line = [] }

-- what a byte makes of a reply: more of it, the whole of it, or a fault
pub data Came : Type 0 where
  On : Part → Came
  Whole : ℕ → Came
  Bad : Came
  Long : Came

abbrev pub line_ends : Part → Came
line_ends p = if has_more p.line then On (with_line p) else Whole (code_number p.line)

abbrev pub comes : Part → ℕ → Came
comes p b = if is_full p then Long else (if may_follow p b then (if b == 10 then line_ends p else On (with_byte p b)) else Bad)

abbrev pub part_by : Came → Part → (Part → Part) → Part
part_by (On q) p rest = rest q
part_by (Whole code) p rest = p
part_by Bad p rest = p
part_by Long p rest = p

-- the reply as far as it has come with these bytes, of which none ends it
unfoldable pub part_after : Part → List ℕ → Part
part_after p [] = p
part_after p (b ∷ bytes) = part_by (comes p b) p (λ q. part_after q bytes)

abbrev pub codes_by : Came → (Part → List ℕ) → List ℕ
codes_by (On p) rest = rest p
codes_by (Whole code) rest = code ∷ rest nothing_yet
codes_by Bad rest = 0 ∷ []
codes_by Long rest = 0 ∷ []

-- The codes of the replies in bytes that go on with a reply. Where a byte goes on with none, or a line or a reply is too long, a 0 ends the list.
unfoldable pub codes_from : Part → List ℕ → List ℕ
codes_from p [] = []
codes_from p (b ∷ bytes) = codes_by (comes p b) (λ q. codes_from q bytes)

-- the codes of the replies in the bytes that a server sent
abbrev pub reply_codes : List ℕ → List ℕ
reply_codes bytes = codes_from nothing_yet bytes
