-- What is kept of a line and of a content that have begun.
use Rattle.std.specs.Prelude.{◌++◌, ◌==◌, ◌≡◌, ◌≢◌, ◌+◌, [], Bool, false, if◌then◌else◌, length, List, nat_lt, None, Option, Some, true, ℕ, ◌∷◌}
use Rattle.q_smtpd.specs.Contents.{is_too_big, undotted}
use Rattle.q_smtpd.specs.Intakes.{content_ends}
use Rattle.q_smtpd.specs.LineEnds.{ends_with_cr, without_cr}
use Rattle.q_smtpd.specs.Places.{Came, Envelope, contents, goes_on}
use Rattle.q_smtpd.specs.declared.content.Column.{Column}
use Rattle.q_smtpd.specs.declared.content.Column.TheVariants as columns

-- the bytes of a line, or that it is too long
pub record Lined : Type 0 where
  pub bytes : List ℕ
  pub is_long : Bool

abbrev pub no_line : Lined
no_line = record { bytes = []; is_long = false }

-- it is what is kept of these bytes
pub record HoldsLine (line : List ℕ) (l : Lined) : Type 0 where
  pub long : l.is_long ≡ nat_lt 511 (length line)
  pub bytes : l.is_long ≡ false → l.bytes ≡ line

-- the line for a command, without its LF, unless it is too long
abbrev pub text_of_line : List ℕ → Option (List ℕ)
text_of_line line = if nat_lt 512 (length line + 1) then None else Some (without_cr line)

-- the bytes of a content, or that it is too big, and what the line that has begun is
pub record Kept : Type 0 where
  pub bytes : List ℕ
  pub is_big : Bool
  pub column : Column

abbrev pub no_content : Kept
no_content = record { bytes = []; is_big = false; column = columns.Start }

-- it is what is kept of these bytes
pub record HoldsBytes (stored bytes : List ℕ) (is_big : Bool) : Type 0 where
  pub big : is_big ≡ is_too_big stored
  pub same : is_big ≡ false → bytes ≡ stored

-- what a line is that has begun with these bytes
abbrev pub IsAt : Column → List ℕ → Type 0
IsAt columns.Start line = line ≡ []
IsAt columns.Dot line = line ≡ 46 ∷ []
IsAt columns.DotReturn line = line ≡ 46 ∷ 13 ∷ []
IsAt columns.Return line = (front : List ℕ) × (line ≡ front ++ 13 ∷ []) × (front ≢ 46 ∷ [])
IsAt columns.Within line = (ends_with_cr line ≡ false) × (line ≢ []) × (line ≢ 46 ∷ [])

-- which of its bytes are kept already
abbrev pub kept_of : Column → List ℕ → List ℕ
kept_of columns.Start line = []
kept_of columns.Dot line = []
kept_of columns.DotReturn line = []
kept_of columns.Return line = undotted (without_cr line)
kept_of columns.Within line = undotted line

-- these whole lines came, as they are stored, and these bytes of the next
pub record HoldsContent (text line : List ℕ) (k : Kept) : Type 0 where
  pub bytes : HoldsBytes (text ++ kept_of k.column line) k.bytes k.is_big
  pub column : IsAt k.column line

-- a byte of a content came, and the answer is whether it ends it
abbrev pub Took : Envelope → Came → Bool → Kept → Type 0
Took e came true k = (text : List ℕ) × (came ≡ content_ends e text) × HoldsBytes text k.bytes k.is_big
Took e came false k = (text line : List ℕ) × (came ≡ goes_on (contents e text line)) × HoldsContent text line k

-- a byte of a line came that isn't one with a dot in front alone, behind what is kept
pub record TakesWithin (b : ℕ) (old new : Kept) : Type 0 where
  pub column : new.column ≡ (if b == 13 then columns.Return else columns.Within)
  pub bytes : (stored : List ℕ) → HoldsBytes stored old.bytes old.is_big → HoldsBytes (if b == 13 then stored else stored ++ b ∷ []) new.bytes new.is_big

-- the content, unless it is too big
abbrev pub whole_content : List ℕ → Option (List ℕ)
whole_content content = if is_too_big content then None else Some content
