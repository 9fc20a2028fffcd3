-- What is answered to a line, from what is read of it without its end.
use Rattle.std.proofs.Common.{◌≡◌, ◌≢◌, ◌∙◌, ℕ, Some, Ok, Err, Result, List, [], ◌∷◌, sym, ap}
use Rattle.std.specs.Prelude.{IfOk, IsErrOf}
use Rattle.std.proofs.lemmas.List.{append_cancel_right}
use Rattle.std.proofs.lemmas.Option.{same_Some}
use Rattle.q_model.specs.declared.entry.Entry.{Entry}
use Rattle.q_model.specs.TextParts.{text_line}
use Rattle.q_model.specs.Settings.{Table}
use Rattle.q_model.specs.Text.{joined, line, words}
use Rattle.q_trace.specs.Answers.{AnswersText}
use Rattle.q_trace.specs.Bodies.{entry_of_line}
use Rattle.q_trace.specs.Bounds.{IsEntry, IsLineOf, as_told}
use Rattle.q_trace.specs.declared.error.EntryError.{EntryError}
use Rattle.q_trace.specs.declared.error.EntryError.TheVariants.{BadEntry, NoMemory}
use Rattle.q_trace.proofs.EntryBacks.{entry_back}
use Rattle.q_trace.proofs.EntryGives.{entry_gives}

-- an entry with this line is read
read_of : (table : Table) (text bytes : List ℕ) (e : Entry) → text_line text ≡ bytes → IsLineOf table bytes e → entry_of_line table text ≡ Some (as_told e)
unfolding line
read_of table text bytes e whole h =
    let same : joined (words table e) ≡ text = append_cancel_right (joined (words table e)) text (10 ∷ []) (h.1 ∙ sym whole) in
    ap (entry_of_line table) (sym same) ∙ entry_gives table e h.0

pub answer_ok : (table : Table) (text bytes : List ℕ) (r : Result Entry EntryError) → text_line text ≡ bytes → AnswersText r (entry_of_line table text) → IfOk r (λ e. IsLineOf table bytes e × (as_told e ≡ e))
unfolding line
answer_ok table text bytes (Ok e) whole h =
    let (is, words) = entry_back table text e h in
    let has_line : IsLineOf table bytes e = (is, ap text_line words ∙ whole) in
    (has_line, same_Some (as_told e) e (sym (read_of table text bytes e whole has_line) ∙ h))
answer_ok table text bytes (Err e) whole h = tt

pub answer_bad : (table : Table) (text bytes : List ℕ) (r : Result Entry EntryError) → text_line text ≡ bytes → AnswersText r (entry_of_line table text)
    → IsErrOf r BadEntry → (e : Entry) → IsEntry table e → line table e ≢ bytes
answer_bad table text bytes (Ok _) whole h bad e is = absurd (cc)
answer_bad table text bytes (Err NoMemory) whole h bad e is = absurd (cc)
answer_bad table text bytes (Err BadEntry) whole h bad e is = λ same. let read = read_of table text bytes e whole (is, same) in absurd (cc)

pub answer_back : (table : Table) (text bytes : List ℕ) (r : Result Entry EntryError) → text_line text ≡ bytes → AnswersText r (entry_of_line table text)
    → (e : Entry) → IsLineOf table bytes e → IfOk r (λ r. r ≡ as_told e)
answer_back table text bytes (Ok x) whole h e is = let read = read_of table text bytes e whole is in cc
answer_back table text bytes (Err _) whole h e is = tt

-- two entries with one line are the same, but for what a line doesn't tell
pub same_line : (table : Table) (a b : Entry) → IsEntry table a → IsLineOf table (line table a) b → as_told b ≡ as_told a
unfolding line
same_line table a b is h =
    let same : joined (words table b) ≡ joined (words table a) = append_cancel_right (joined (words table b)) (joined (words table a)) (10 ∷ []) h.1 in
    same_Some (as_told b) (as_told a) (sym (entry_gives table b h.0) ∙ ap (entry_of_line table) same ∙ entry_gives table a is)
