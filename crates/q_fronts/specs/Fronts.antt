-- The entries with which a run on an empty spool begins, and how the next one is judged.
use Rattle.std.specs.Prelude.{◌≡◌, ◌<◌, ◌++◌, ◌⊎◌, [], ◌^◌, length, List, None, Some, true, ℕ, ◌∷◌}
use Rattle.q_laws.specs.Traces.{AreAllowed, is_outside}
use Rattle.q_model.specs.declared.entry.Entry.{Entry}
use Rattle.q_model.specs.declared.event.LifeEvent.{LifeEvent}
use Rattle.q_model.specs.declared.event.LifeEvent.TheVariants.{Begin}
use Rattle.q_model.specs.declared.event.Mode.{Mode}
use Rattle.q_model.specs.Book.{Book, empty_book}
use Rattle.q_model.specs.Ledger.{Ledger, opening}
use Rattle.q_model.specs.Next.{next}
use Rattle.q_model.specs.Past.{is_living}
use Rattle.q_model.specs.Run.{run_of}
use Rattle.q_model.specs.Settings.{World}
use Rattle.q_model.specs.Step.{after, after_all, allowed}

-- an empty spool whose last generation is this one
abbrev pub empty_at : ℕ → Book
empty_at generation = record empty_book { generation = generation }

-- The entries are the front of a run on an empty spool, each event of which may come.
pub record IsFront (w : World) (es : List Entry) : Type 0 where
  pub generation : ℕ
  pub mode : Mode
  pub items : List LifeEvent
  pub later : List Entry
  pub fits : AreAllowed w (opening mode (empty_at generation)) (Begin ∷ items)
  pub run : run_of w mode (empty_at generation) items ≡ es ++ later

-- the ledger after such a front
pub record IsLedgerAfter (w : World) (es : List Entry) (l : Ledger) : Type 0 where
  pub front : IsFront w es
  pub is : l ≡ after_all w (opening front.mode (empty_at front.generation)) es

-- The entry comes from outside, is allowed, and nothing is due; or it is what is due.
abbrev pub Continues : World → Ledger → Entry → Type 0
Continues w l e = ((is_outside e ≡ true) × (next w l ≡ None) × (allowed w l e ≡ true))
    ⊎ ((is_living l ≡ true) × (next w l ≡ Some e))

-- Behind a front that has begun, fewer than 2^60 entries long, just those entries go on that continue.
abbrev pub FrontsGoOn : Type 0
FrontsGoOn = (w : World) (first : Entry) (es : List Entry) (e : Entry) (l : Ledger)
    → IsLedgerAfter w (first ∷ es) l → length (first ∷ es) < 2 ^ 60
    → (IsFront w ((first ∷ es) ++ e ∷ []) → Continues w l e) × (Continues w l e → IsFront w ((first ∷ es) ++ e ∷ []))

-- The ledger behind one such entry more is the ledger after it.
abbrev pub LedgersGoOn : Type 0
LedgersGoOn = (w : World) (first : Entry) (es : List Entry) (e : Entry) (l : Ledger)
    → IsLedgerAfter w (first ∷ es) l → length (first ∷ es) < 2 ^ 60 → Continues w l e
    → IsLedgerAfter w ((first ∷ es) ++ e ∷ []) (after w l e)

-- A front that has begun has one ledger.
abbrev pub LedgersAreOne : Type 0
LedgersAreOne = (w : World) (first : Entry) (es : List Entry) (k l : Ledger)
    → IsLedgerAfter w (first ∷ es) k → IsLedgerAfter w (first ∷ es) l → k ≡ l
