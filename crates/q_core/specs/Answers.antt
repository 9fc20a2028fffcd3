-- The true answers to looks.
use Rattle.std.specs.Prelude.{◌≡◌, ◌&&◌, ◌||◌, Bool, Some, ℕ}
use Rattle.q_model.specs.Settings.{World}
use Rattle.q_model.specs.declared.id.Id.{Id}
use Rattle.q_model.specs.declared.rows.Scan.{Scan}
use Rattle.q_model.specs.Ledger.{Ledger}
use Rattle.q_model.specs.Scans.{scan_next}
use Rattle.q_core.specs.Agrees.{found_active, found_incoming, found_next, Agrees}
use Rattle.q_core.specs.Deciding.{is_look, is_reading}
use Rattle.q_core.specs.Facts.{is_damaged}
use Rattle.q_core.specs.declared.decision.Found.{Found}
use Rattle.q_core.specs.declared.state.Core.{Core}
use Rattle.q_core.specs.declared.state.Question.{Question}
use Rattle.q_core.specs.declared.state.Question.TheVariants.{Active, Deferred, Incoming, Nothing, Recipients}

-- what the book answers to what the core asks; deferred is asked for the core's scan
abbrev pub IsAnswer : Core → Question → Found → Ledger → Type 0
IsAnswer c Nothing found l = ⊥
IsAnswer c Active found l = found ≡ found_active l
IsAnswer c Incoming found l = found ≡ found_incoming l
IsAnswer c Deferred found l = (scan : Scan) × (c.scan ≡ Some scan)
    × (found ≡ found_next l (scan_next l.book scan))
IsAnswer c (Recipients id from max) found l = ⊥

-- for a look each answer is fit, for a read that of a record that can't be read alone
abbrev pub is_fit : Question → Found → Bool
is_fit question found = is_look question || (is_reading question && is_damaged found)

abbrev pub IsFound : Core → Found → Ledger → Type 0
IsFound c found l = IsAnswer c c.question found l

-- this holds of a message where its recipients were asked for
abbrev pub ForRead : Question → (Id → Type 0) → Type 0
ForRead question P = (id : Id) → (from max : ℕ) → question ≡ Recipients id from max → P id

-- where what was found is the scan's next, the core agrees with the same ledger
abbrev pub AgreesByScan : World → Core → Core → Found → Ledger → Type 0
AgreesByScan w old new found l = (scan : Scan) → old.scan ≡ Some scan
    → found ≡ found_next l (scan_next l.book scan) → Agrees w new l
