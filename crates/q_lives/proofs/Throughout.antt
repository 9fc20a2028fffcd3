-- What holds of each entry of a consistent ledger holds throughout all lives.
use Rattle.std.proofs.Common.{◌≡◌, ℕ, zero, suc, ◌+◌, true, List, [], ◌∷◌, take, refl, sym, subst, inl, inr}
use Rattle.std.proofs.lemmas.Bool.{and_parts}
use Rattle.std.specs.Prelude.{◌&&◌, ◌||◌, not}
use Rattle.q_laws.proofs.Beginnings.{life_consistent}
use Rattle.q_laws.proofs.Decisions.{next_decided}
use Rattle.q_laws.proofs.Kept.{entry_consistent}
use Rattle.q_laws.proofs.Runs.{run_entries}
use Rattle.q_laws.specs.Consistency.{IsConsistent, IsUsable}
use Rattle.q_laws.specs.Traces.{AreAllowed, AreEntriesOf, IsEntryOf, is_outside}
use Rattle.q_lives.proofs.Books.{life_cut, step_cut}
use Rattle.q_lives.proofs.ToolSteps.{left_orderly}
use Rattle.q_lives.specs.Lives.{IsOrderly, cut_book}
use Rattle.q_lives.specs.Throughout.{AtEach, Throughout}
use Rattle.q_lives.specs.Lives.{AreLives, IsLife, Life, life_entries, last_book, ledger_of}
use Rattle.q_model.specs.Book.{Book}
use Rattle.q_model.specs.Ledger.{Ledger, opening}
use Rattle.q_model.specs.Past.{has_entries, is_life, is_living}
use Rattle.q_model.specs.Run.{run, run_of, turn}
use Rattle.q_model.specs.Settings.{World}
use Rattle.q_model.specs.Step.{after, after_all, allowed, may}
use Rattle.q_model.specs.declared.entry.Entry.{Entry}
use Rattle.q_model.specs.declared.event.LifeEvent.{LifeEvent}
use Rattle.q_model.specs.declared.event.LifeEvent.TheVariants.{Begin}
use Rattle.q_model.specs.declared.event.Mode.{Mode}
use Rattle.q_model.specs.declared.entry.Entry.TheVariants as entries

-- an entry of a ledger is allowed
pub entry_may : (w : World) (l : Ledger) (e : Entry) → IsConsistent w l → IsEntryOf w l e → may w l e ≡ true
unfolding allowed
entry_may w l e c (inl h) = (and_parts (is_living l || (is_life e && not (has_entries l))) (may w l e) (and_parts (is_outside e) (allowed w l e) h).1).1
entry_may w l e c (inr h) = (next_decided w l e c h).0

-- each entry of a consistent ledger has it
abbrev pub HoldsAtEntries : (World → Ledger → Entry → Type 0) → Type 0
HoldsAtEntries P = (w : World) (l : Ledger) (e : Entry) → IsConsistent w l → may w l e ≡ true → IsEntryOf w l e → P w l e

-- the first entry of a life has it
abbrev pub HoldsAtFirst : (World → Ledger → Entry → Type 0) → Type 0
HoldsAtFirst P = (w : World) (mode : Mode) (book : Book) → IsUsable w → IsOrderly book → P w (opening mode book) (entries.Life (book.generation + 1) mode)

-- it holds of these entries, and the book after them is orderly, also with the last one cut off
record HasEach (P : World → Ledger → Entry → Type 0) (w : World) (l : Ledger) (es : List Entry) : Type 0 where
  each : AtEach P w l es
  whole : IsOrderly (after_all w l es).book
  cut : IsOrderly (cut_book (after_all w l es))

entries_each : (P : World → Ledger → Entry → Type 0) (w : World) (l : Ledger) (es : List Entry) → HoldsAtEntries P → IsConsistent w l → IsOrderly (cut_book l) → AreEntriesOf w l es → HasEach P w l es
unfolding after_all
entries_each P w l [] holds c cut h = record { each = tt; whole = record { distinct = c.book.distinct; orderly = c.book.orderly }; cut = cut }
entries_each P w l (e ∷ es) holds c cut h =
    let can = entry_may w l e c h.0 in
    let rest = entries_each P w (after w l e) es holds (entry_consistent w l e c h.0) (step_cut w l e c h.0 can) h.1 in
    record { each = (holds w l e c can h.0, rest.each); whole = rest.whole; cut = rest.cut }

pub take_entries : (n : ℕ) (w : World) (l : Ledger) (es : List Entry) → AreEntriesOf w l es → AreEntriesOf w l (take n es)
take_entries zero w l es h = tt
take_entries (suc n) w l [] h = tt
take_entries (suc n) w l (e ∷ es) h = (h.0, take_entries n w (after w l e) es h.1)

pub first_entry : (w : World) (mode : Mode) (book : Book) (items : List LifeEvent) → (rest : List Entry) × (run_of w mode book items ≡ entries.Life (book.generation + 1) mode ∷ rest)
unfolding run_of run turn
first_entry w mode book items = (_, refl)

pub run_all : (w : World) (mode : Mode) (book : Book) (items : List LifeEvent) → AreAllowed w (opening mode book) (Begin ∷ items) → AreEntriesOf w (opening mode book) (run_of w mode book items)
unfolding run_of
run_all w mode book items h = run_entries w (opening mode book) (Begin ∷ items) h

front_each : (P : World → Ledger → Entry → Type 0) (w : World) (mode : Mode) (book : Book) (rest : List Entry) (n : ℕ) → HoldsAtFirst P → HoldsAtEntries P → IsUsable w → IsOrderly book →
    AreEntriesOf w (opening mode book) (entries.Life (book.generation + 1) mode ∷ rest) → HasEach P w (opening mode book) (take n (entries.Life (book.generation + 1) mode ∷ rest))
unfolding after_all
front_each P w mode book rest zero first holds usable good h = record { each = tt; whole = good; cut = good }
front_each P w mode book rest (suc n) first holds usable good h =
    let e = entries.Life (book.generation + 1) mode in
    let l = opening mode book in
    let begun : IsConsistent w (after w l e) = life_consistent w l mode usable good.distinct good.orderly in
    let all = entries_each P w (after w l e) (take n rest) holds begun (life_cut w l (book.generation + 1) mode begun) (take_entries n w (after w l e) rest h.1) in
    record { each = (first w mode book usable good, all.each); whole = all.whole; cut = all.cut }

life_each : (P : World → Ledger → Entry → Type 0) (book : Book) (life : Life) → HoldsAtFirst P → HoldsAtEntries P → IsOrderly book → IsLife book life → HasEach P life.world (opening life.mode book) (life_entries book life)
life_each P book life first holds good h =
    let w = life.world in
    let begins = first_entry w life.mode book life.items in
    let all = subst (AreEntriesOf w (opening life.mode book)) begins.1 (run_all w life.mode book life.items h.fits) in
    subst (λ es. HasEach P w (opening life.mode book) (take life.count es)) (sym begins.1) (front_each P w life.mode book begins.0 life.count first holds h.usable good all)

next_book : (P : World → Ledger → Entry → Type 0) (book : Book) (life : Life) → IsLife book life → HasEach P life.world (opening life.mode book) (life_entries book life) → IsOrderly life.left
next_book P book life h all = left_orderly (ledger_of book life) life.steps life.left all.whole all.cut h.left

-- it holds throughout all lives on an orderly book
pub throughout : (P : World → Ledger → Entry → Type 0) (book : Book) (lives : List Life) → HoldsAtFirst P → HoldsAtEntries P → IsOrderly book → AreLives book lives → Throughout P book lives
throughout P book [] first holds good h = tt
throughout P book (life ∷ lives) first holds good h =
    let all = life_each P book life first holds good h.0 in
    (all.each, throughout P life.left lives first holds (next_book P book life h.0 all) h.1)

-- and the book that is left is orderly
pub lives_orderly : (book : Book) (lives : List Life) → IsOrderly book → AreLives book lives → IsOrderly (last_book book lives)
lives_orderly book [] good h = good
lives_orderly book (life ∷ lives) good h =
    let all = life_each (λ w l e. Unit {0}) book life (λ w mode b usable fine. tt) (λ w l e c can is. tt) good h.0 in
    lives_orderly life.left lives (next_book (λ w l e. Unit {0}) book life h.0 all) h.1

-- the book after a life's entries is orderly, also with the last one cut off
pub ends_orderly : (book : Book) (life : Life) → IsOrderly book → IsLife book life → IsOrderly (ledger_of book life).book × IsOrderly (cut_book (ledger_of book life))
ends_orderly book life good h =
    let all = life_each (λ w l e. Unit {0}) book life (λ w mode b usable fine. tt) (λ w l e c can is. tt) good h in
    (all.whole, all.cut)
