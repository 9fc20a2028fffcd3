-- The entries of a text, one a line, and where a text is no trace.
use Rattle.std.specs.Prelude.{◌+◌, ◌++◌, ◌^◌, ◌≡◌, ◌⊎◌, [], false, length, List, true, ℕ, ◌∷◌}
use Rattle.q_lines.specs.TextLines.{cut, is_long, lines_from, TextLine, unended, whole}
use Rattle.q_model.specs.declared.entry.Entry.{Entry}
use Rattle.q_model.specs.Settings.{Table}
use Rattle.q_model.specs.TextParts.{text_line}
use Rattle.q_trace.specs.Bounds.{as_told, IsLineOf, IsNoLine}

-- the lines of a text that may have 2^40 bytes
abbrev pub lines_of : List ℕ → List TextLine
lines_of bytes = lines_from (2 ^ 40) bytes

-- the line is that of the entry, which is as its line tells it
abbrev pub Tells : Table → List ℕ → Entry → Type 0
Tells table line e = IsLineOf table line e × (as_told e ≡ e)

-- the line has its end, isn't too long, and is that of the entry
abbrev pub IsLineWith : Table → TextLine → Entry → Type 0
IsLineWith table (whole line) e = (is_long (whole line) ≡ false) × Tells table (text_line line) e
IsLineWith table (unended line) e = ⊥
IsLineWith table (cut line) e = ⊥

-- so it is with each line and its entry
abbrev pub AreLinesWith : Table → List TextLine → List Entry → Type 0
AreLinesWith table [] [] = Unit {0}
AreLinesWith table (line ∷ lines) (e ∷ es) = IsLineWith table line e × AreLinesWith table lines es
AreLinesWith table lines es = ⊥

-- nothing, or a part of one more line, as a crash may leave it
abbrev pub IsPart : List TextLine → Type 0
IsPart [] = Unit {0}
IsPart (unended line ∷ []) = is_long (unended line) ≡ false
IsPart lines = ⊥

-- The text is the trace of these entries, up to its last whole line.
pub record IsTrace (table : Table) (bytes : List ℕ) (es : List Entry) : Type 0 where
  pub lines : List TextLine
  pub rest : List TextLine
  pub is : lines_of bytes ≡ lines ++ rest
  pub told : AreLinesWith table lines es
  pub part : IsPart rest

-- the line is too long, or is that of no entry
abbrev pub IsAtFault : Table → TextLine → Type 0
IsAtFault table (whole line) = (is_long (whole line) ≡ true) ⊎ IsNoLine table (text_line line)
IsAtFault table (unended line) = is_long (unended line) ≡ true
IsAtFault table (cut line) = is_long (cut line) ≡ true

-- Behind lines of entries the line of this number is at fault; lines count from 1.
pub record IsFaultyAt (table : Table) (bytes : List ℕ) (number : ℕ) : Type 0 where
  pub lines : List TextLine
  pub es : List Entry
  pub before : AreLinesWith table lines es
  pub line : TextLine
  pub more : List TextLine
  pub is : lines_of bytes ≡ lines ++ line ∷ more
  pub fault : IsAtFault table line
  pub here : number ≡ length lines + 1

-- Behind lines of entries the most bytes end before they show what the next line is, and more come.
pub record IsPastLimit (table : Table) (bytes : List ℕ) : Type 0 where
  pub lines : List TextLine
  pub es : List Entry
  pub before : AreLinesWith table lines es
  pub part : List ℕ
  pub is : lines_of bytes ≡ lines ++ cut part ∷ []
  pub short : is_long (cut part) ≡ false
