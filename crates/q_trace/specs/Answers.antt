-- What the calls that read answer.
use Rattle.std.specs.Prelude.{◌≡◌, Err, None, Ok, Option, Result, Some}
use Rattle.q_trace.specs.declared.error.EntryError.{EntryError}
use Rattle.q_trace.specs.declared.error.EntryError.TheVariants.{BadEntry, NoMemory}

-- a call answers what is read, unless memory runs out
abbrev pub AnswersText : {A : Type 0} → Result A EntryError → Option A → Type 0
AnswersText (Ok a) read = read ≡ Some a
AnswersText (Err NoMemory) read = Unit {0}
AnswersText (Err BadEntry) read = read ≡ None
