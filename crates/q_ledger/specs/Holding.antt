-- What a recount holds behind the entries so far, and how it judges the next.
use Rattle.std.specs.Option.{option_map_or}
use Rattle.std.specs.Prelude.{◌≡◌, ◌↔◌, ◌≤◌, ◌<◌, ◌++◌, ◌^◌, [], Bool, false, find, length, List, true, ℕ, ◌∷◌}
use Rattle.q_bare.specs.Counts.{Counts}
use Rattle.q_bare.specs.Judging.{ContinuesBy, IsHeldAfter, rule_by}
use Rattle.q_fronts.specs.Fronts.{IsFront, IsLedgerAfter}
use Rattle.q_fronts.specs.Rules.{rule_in}
use Rattle.q_ledger.specs.Beside.{IsBeside}
use Rattle.q_ledger.specs.Counted.{is_of}
use Rattle.q_ledger.specs.Ruling.{HasLines}
use Rattle.q_ledger.specs.State.{State}
use Rattle.q_ledger.specs.Worlds.{Given, world_of}
use Rattle.q_ledger.specs.declared.accounts.Account.{Account}
use Rattle.q_ledger.specs.declared.recount.Judged.{Judged}
use Rattle.q_ledger.specs.declared.recount.Judged.TheVariants.{Broken, Lawful}
use Rattle.q_ledger.specs.declared.recount.Stage.{Stage}
use Rattle.q_ledger.specs.declared.recount.Stage.TheVariants.{Before, Ended, Living}
use Rattle.q_model.specs.declared.entry.Entry.{Entry}
use Rattle.q_model.specs.declared.id.Id.{Id}
use Rattle.q_model.specs.Ledger.{Ledger}
use Rattle.q_model.specs.Settings.{World}
use Rattle.q_settings.specs.Ranges.{IsInRange}

-- a life has begun
abbrev pub has_begun : Stage → Bool
has_begun Before = false
has_begun Living = true
has_begun Ended = true

-- it goes on
abbrev pub goes_on : Stage → Bool
goes_on Before = false
goes_on Living = true
goes_on Ended = false

-- parameters and table, how far the trace has come, its ledger, and what its entries count to
pub record Recounted : Type 0 where
  pub given : Given
  pub begun : Bool
  pub living : Bool
  pub state : State
  pub starts : ℕ
  pub arrivals : ℕ
  pub jobs : List Account

-- the accounts are those that are counted
pub record AreTold (r : Recounted) (c : Counts) : Type 0 where
  pub deliveries : r.starts ≡ c.deliveries
  pub messages : r.arrivals ≡ c.messages
  pub starts : (id : Id) (transport : ℕ) → option_map_or (λ a. a.starts) (find (is_of id transport) r.jobs) 0 ≡ c.deliveries_of id transport
  pub charged : (id : Id) (transport : ℕ) → option_map_or (λ a. a.charged) (find (is_of id transport) r.jobs) 0 ≡ c.charged_to id transport

-- Behind entries, the first of which began a life: the bare ledger and the counts are those after them.
pub record HoldsLife (w : World) (r : Recounted) (es : List Entry) : Type 0 where
  pub counts : Counts
  pub held : IsHeldAfter w es counts r.state.ledger
  pub beside : IsBeside r.state
  pub accounts : AreTold r counts
  pub lines : HasLines w r.state.ledger
  pub few : (counts.deliveries ≤ length es) × (counts.messages ≤ length es)
  pub counted : counts.begun ≡ true
  pub begun : r.begun ≡ true
  pub living : r.living ≡ counts.living

-- before the first entry nothing has begun, and no message stands
pub record HoldsNothing (r : Recounted) : Type 0 where
  pub begun : r.begun ≡ false
  pub living : r.living ≡ false
  pub messages : r.state.ledger.book.messages ≡ []

-- what is known behind so many entries
abbrev pub HoldsSince : World → Recounted → List Entry → Type 0
HoldsSince w r [] = HoldsNothing r
HoldsSince w r (e ∷ es) = HoldsLife w r (e ∷ es)

-- The recount goes by this world, with parameters in their ranges. These entries are the front of a run, and
-- it holds what is known behind them.
pub record Holds (w : World) (r : Recounted) (es : List Entry) : Type 0 where
  pub world : world_of r.given ≡ w
  pub range : IsInRange w.settings
  pub front : IsFront w es
  pub since : HoldsSince w r es

-- behind these entries the entry goes on with no run, and breaks this rule
pub record IsBrokenBy (w : World) (es : List Entry) (e : Entry) (rule : ℕ) : Type 0 where
  pub breaks : IsFront w (es ++ e ∷ []) → ⊥
  pub named : (l : Ledger) → IsLedgerAfter w es l → rule ≡ rule_in w l e

-- Lawful where and only where the entry goes on the run; a broken one has the rule that it breaks.
pub record IsJudged (w : World) (es : List Entry) (e : Entry) (j : Judged) : Type 0 where
  pub lawful : (j ≡ Lawful) ↔ IsFront w (es ++ e ∷ [])
  pub rule : (rule : ℕ) → j ≡ Broken rule → (l : Ledger) → IsLedgerAfter w es l → rule ≡ rule_in w l e

-- the same by a bare ledger and counts
pub record IsJudgedBy (c : Counts) (w : World) (b : Ledger) (e : Entry) (j : Judged) : Type 0 where
  pub lawful : (j ≡ Lawful) ↔ ContinuesBy c w b e
  pub rule : (rule : ℕ) → j ≡ Broken rule → rule ≡ rule_by c w b e

-- so it is judged, behind whichever entries it comes, fewer than 2^60
abbrev pub IsJudgment : Recounted → Entry → Judged → Type 0
IsJudgment r e j = (w : World) (es : List Entry) → Holds w r es → length es < 2 ^ 60 → IsJudged w es e j

-- what was held behind entries is held behind these and one more, where that goes on the run
abbrev pub TakesOver : Recounted → Entry → Recounted → Type 0
TakesOver r e s = (w : World) (es : List Entry) → Holds w r es → length es < 2 ^ 60 → IsFront w (es ++ e ∷ []) → Holds w s (es ++ e ∷ [])
