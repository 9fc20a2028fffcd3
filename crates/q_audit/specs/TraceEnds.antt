-- How a trace is read to its end, and why it isn't.
use Rattle.std.specs.Prelude.{◌+◌, ◌++◌, ◌^◌, ◌≡◌, ◌≤◌, [], Err, false, IfSome, length, List, Ok, Option, Result, Some, true, ℕ, ◌∷◌, Bool}
use Rattle.q_audit.specs.Reading.{AuditState, Reads}
use Rattle.q_audit.specs.Reports.{IsReport}
use Rattle.q_audit.specs.TraceTexts.{AreLinesWith, IsFaultyAt, IsPastLimit, IsTrace, lines_of}
use Rattle.q_audit.specs.declared.trace.TraceError.{TraceError}
use Rattle.q_audit.specs.declared.trace.TraceError.TheVariants.{BadLine, NoMemory, Source, TooLong}
use Rattle.q_lines.specs.States.{ReaderState, text_left}
use Rattle.q_lines.specs.TextLines.{lines_from, TextLine}
use Rattle.q_model.specs.declared.entry.Entry.{Entry}
use Rattle.q_model.specs.Settings.{World}

-- what is still to be read of the bytes, behind these lines
abbrev pub Goes : Option (List ℕ) → List TextLine → ReaderState → Option (List ℕ) → Type 0
Goes start lines r left = IfSome start (λ bytes. (rest : List ℕ) × (text_left r.buffered left ≡ Some rest)
    × (lines_of bytes ≡ lines ++ lines_from r.budget rest))

-- Whole lines were read, and the audit has their entries.
pub record HasRead (w : World) (start : Option (List ℕ)) (a : AuditState) (r : ReaderState) (left : Option (List ℕ))
    : Type 0 where
  pub entries : List Entry
  pub lines : List TextLine
  pub reads : Reads w a entries
  pub told : AreLinesWith w.table lines entries
  pub goes : Goes start lines r left
  pub few : length entries + r.budget ≤ 2 ^ 40

-- the bytes are the trace of these entries, and none is left
abbrev pub IsWhole : World → Option (List ℕ) → Option (List ℕ) → List Entry → Type 0
IsWhole w start left es = IfSome start (λ bytes. IsTrace w.table bytes es × (left ≡ Some []))

-- All was read, and the audit has the entries.
pub record HasAll (w : World) (start : Option (List ℕ)) (a : AuditState) (left : Option (List ℕ)) : Type 0 where
  pub entries : List Entry
  pub reads : Reads w a entries
  pub whole : IsWhole w start left entries

-- why it wasn't
abbrev pub IsRefused : World → Option (List ℕ) → TraceError → Type 0
IsRefused w start (BadLine line) = IfSome start (λ bytes. IsFaultyAt w.table bytes line)
IsRefused w start TooLong = IfSome start (λ bytes. IsPastLimit w.table bytes)
IsRefused w start Source = Unit {0}
IsRefused w start NoMemory = Unit {0}

-- one line more was read, or there is none
abbrev pub ReadsOn : World → Option (List ℕ) → Result Bool TraceError → AuditState → ReaderState → Option (List ℕ) → Type 0
ReadsOn w start (Ok true) a r left = HasRead w start a r left
ReadsOn w start (Ok false) a r left = HasAll w start a left
ReadsOn w start (Err error) a r left = IsRefused w start error

-- The text is the report of the entries of which the bytes are the trace; else they are none, or it wasn't
-- read to its end.
pub record ReportsTrace (w : World) (start left : Option (List ℕ)) (text : List ℕ) : Type 0 where
  pub entries : List Entry
  pub report : IsReport w entries text
  pub whole : IsWhole w start left entries
