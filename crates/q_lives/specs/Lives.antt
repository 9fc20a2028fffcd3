-- Lives on one spool, one after another: each is a call, with its parameters and its input, that
-- ended as asked, by a refusal, or by a crash. No host and no file stands in it, only books and
-- entries.
use Rattle.std.specs.Option.{option_map_or}
use Rattle.std.specs.Prelude.{◌++◌, ◌≡◌, ◌⊎◌, [], Bool, List, slice_get, take, true, ℕ, ◌∷◌}
use Rattle.q_laws.specs.Consistency.{IsUsable}
use Rattle.q_laws.specs.Traces.{AreAllowed}
use Rattle.q_model.specs.declared.entry.Entry.{Entry}
use Rattle.q_model.specs.declared.event.LifeEvent.{LifeEvent}
use Rattle.q_model.specs.declared.event.Mode.{Mode}
use Rattle.q_model.specs.Book.{all_ids, Book}
use Rattle.q_model.specs.Crashes.{IsCrashOf}
use Rattle.q_model.specs.Ids.{are_distinct}
use Rattle.q_model.specs.Ledger.{Ledger, opening}
use Rattle.q_model.specs.Orderly.{is_orderly}
use Rattle.q_model.specs.Run.{run_of}
use Rattle.q_model.specs.Settings.{World}
use Rattle.q_model.specs.Step.{after_all}
use Rattle.q_model.specs.declared.event.LifeEvent.TheVariants as items
use Rattle.q_model.specs.CutOff.{cut_off}
use Rattle.q_model.specs.ToolSteps.{after_steps, may_steps, ToolStep}
use Rattle.q_lives.specs.Tools.{after_cut_steps}

-- A life: a call's parameters and table, its mode and its input, how many entries it came to, the steps of
-- queue tools that were done behind it, and the book that was left then.
pub record Life : Type 0 where
  pub world : World
  pub mode : Mode
  pub items : List LifeEvent
  pub count : ℕ
  pub steps : List ToolStep
  pub left : Book

-- the entries of a life on a book: the first ones of the run, as many as it came to
abbrev pub life_entries : Book → Life → List Entry
life_entries book life = take life.count (run_of life.world life.mode book life.items)

-- the ledger after them
abbrev pub ledger_of : Book → Life → Ledger
ledger_of book life = after_all life.world (opening life.mode book) (life_entries book life)

-- the book of a ledger where its last entry was cut off
abbrev pub cut_book : Ledger → Book
cut_book l = option_map_or (λ e. cut_off e l.book) (slice_get l.past 0) l.book

-- a book that may stand after a ledger's entries: its own, or the one where the last was cut off
abbrev pub IsEnd : Ledger → Book → Type 0
IsEnd l end = (end ≡ l.book) ⊎ (end ≡ cut_book l)

-- A life may leave the book that stands after its entries, and after steps of queue tools behind them, of
-- which the last may be cut off; or what a crash makes of it.
pub record IsLeftBy (l : Ledger) (steps : List ToolStep) (left : Book) : Type 0 where
  pub end : Book
  pub ends : IsEnd l end
  pub may : may_steps end steps ≡ true
  pub worked : Book
  pub works : (worked ≡ after_steps end steps) ⊎ (worked ≡ after_cut_steps end steps)
  pub leaves : (left ≡ worked) ⊎ IsCrashOf worked left

-- a life on a book: its input fits, and it left what it may leave
pub record IsLife (book : Book) (life : Life) : Type 0 where
  pub usable : IsUsable life.world
  pub fits : AreAllowed life.world (opening life.mode book) (items.Begin ∷ life.items)
  pub left : IsLeftBy (ledger_of book life) life.steps life.left

-- each life is on the book that the one before it left
abbrev pub AreLives : Book → List Life → Type 0
AreLives book [] = Unit {0}
AreLives book (life ∷ lives) = IsLife book life × AreLives life.left lives

-- the entries of all lives, in order
abbrev pub trace : Book → List Life → List Entry
trace book [] = []
trace book (life ∷ lives) = life_entries book life ++ trace life.left lives

-- the steps of queue tools of all lives, in order
abbrev pub tool_steps : List Life → List ToolStep
tool_steps [] = []
tool_steps (life ∷ lives) = life.steps ++ tool_steps lives

-- the book that the last life left
abbrev pub last_book : Book → List Life → Book
last_book book [] = book
last_book book (life ∷ lives) = last_book life.left lives

-- a book that lives may begin with: it is orderly, and no id stands twice in it
pub record IsOrderly (b : Book) : Type 0 where
  pub distinct : are_distinct (all_ids b) ≡ true
  pub orderly : is_orderly b ≡ true

-- it holds of every list of lives on every such book
abbrev pub OfAllLives : (Book → List Life → Type 0) → Type 0
OfAllLives P =
    (book : Book) (lives : List Life) → IsOrderly book → AreLives book lives → P book lives

-- a book is so again after all lives on it, where it is so at first
abbrev pub StaysSo : (Book → Bool) → Book → List Life → Type 0
StaysSo test book lives = test book ≡ true → test (last_book book lives) ≡ true

-- so of the entries of all lives
abbrev pub OfTrace : (List Entry → Type 0) → Book → List Life → Type 0
OfTrace P book lives = P (trace book lives)

-- so of the entries of all lives, and of the book that was left
abbrev pub OfTraceAndEnd : (List Entry → Book → Type 0) → Book → List Life → Type 0
OfTraceAndEnd P book lives = P (trace book lives) (last_book book lives)

-- steps of queue tools that may be done leave a book so that was so before, and that lives may begin with
abbrev pub KeptBySteps : (Book → Type 0) → Type 0
KeptBySteps P =
    (b : Book) (steps : List ToolStep) → IsOrderly b → may_steps b steps ≡ true → P b → P (after_steps b steps)

-- the same where the last one was cut off
abbrev pub KeptByCutSteps : (Book → Type 0) → Type 0
KeptByCutSteps P =
    (b : Book) (steps : List ToolStep) → IsOrderly b → may_steps b steps ≡ true → P b → P (after_cut_steps b steps)
