-- How an entry is judged by a bare ledger and counts alone.
use Rattle.std.specs.Prelude.{◌≡◌, ◌<◌, ◌++◌, ◌⊎◌, ◌-◌, [], ◌^◌, if◌then◌else◌, length, List, None, Some, true, ℕ, ◌∷◌}
use Rattle.q_bare.specs.Bare.{bare}
use Rattle.q_bare.specs.CountedRows.{allowed_by, may_by}
use Rattle.q_bare.specs.CountedRules.{next_by}
use Rattle.q_bare.specs.Counts.{Counts, counts_after, counts_of, no_counts}
use Rattle.q_fronts.specs.Fronts.{empty_at, IsFront, IsLedgerAfter}
use Rattle.q_fronts.specs.Openings.{opens}
use Rattle.q_fronts.specs.Rules.{row_of, rule_in}
use Rattle.q_laws.specs.Traces.{is_outside}
use Rattle.q_model.specs.declared.entry.Entry.{Entry}
use Rattle.q_model.specs.declared.event.Mode.{Mode}
use Rattle.q_model.specs.Ledger.{Ledger, opening}
use Rattle.q_model.specs.Settings.{World}
use Rattle.q_model.specs.Step.{after}
use Rattle.q_model.specs.declared.entry.Entry.TheVariants as entries

-- The entry comes from outside, is allowed, and nothing is due; or it is what is due.
abbrev pub ContinuesBy : Counts → World → Ledger → Entry → Type 0
ContinuesBy c w b e = ((is_outside e ≡ true) × (next_by c w b ≡ None) × (allowed_by c w b e ≡ true))
    ⊎ ((c.living ≡ true) × (next_by c w b ≡ Some e))

-- the rule that an entry breaks which doesn't continue so
abbrev pub rule_by : Counts → World → Ledger → Entry → ℕ
rule_by c w b e =
    if c.living then (if may_by c w b e then 20 else row_of e)
    else if c.begun then 19 else 1

-- these are the counts and the bare ledger after a front
pub record IsHeldAfter (w : World) (es : List Entry) (c : Counts) (b : Ledger) : Type 0 where
  pub ledger : Ledger
  pub front : IsLedgerAfter w es ledger
  pub counts : counts_of ledger ≡ c
  pub bare_ledger : bare ledger ≡ b

-- Behind a front that has begun, fewer than 2^60 entries long, just those entries go on that continue so.
abbrev pub HeldJudges : Type 0
HeldJudges = (w : World) (first : Entry) (es : List Entry) (e : Entry) (c : Counts) (b : Ledger)
    → IsHeldAfter w (first ∷ es) c b → length (first ∷ es) < 2 ^ 60
    → (IsFront w ((first ∷ es) ++ e ∷ []) → ContinuesBy c w b e)
    × (ContinuesBy c w b e → IsFront w ((first ∷ es) ++ e ∷ []))

-- What is held behind such an entry follows from what was held before it.
abbrev pub HeldGoesOn : Type 0
HeldGoesOn = (w : World) (first : Entry) (es : List Entry) (e : Entry) (c : Counts) (b : Ledger)
    → IsHeldAfter w (first ∷ es) c b → length (first ∷ es) < 2 ^ 60 → ContinuesBy c w b e
    → IsHeldAfter w ((first ∷ es) ++ e ∷ []) (counts_after e c) (bare (after w b e))

-- What is held behind the entry with which a run begins is that of the life on an empty spool.
abbrev pub HeldBegins : Type 0
HeldBegins = (w : World) (generation : ℕ) (mode : Mode) → opens (entries.Life generation mode) ≡ true
    → IsHeldAfter w (entries.Life generation mode ∷ []) (counts_after (entries.Life generation mode) no_counts)
    (bare (after w (opening mode (empty_at (generation - 1))) (entries.Life generation mode)))

-- The rule that an entry breaks is the same by each ledger that there may be.
abbrev pub HeldRules : Type 0
HeldRules = (w : World) (first : Entry) (es : List Entry) (e : Entry) (c : Counts) (b l : Ledger)
    → IsHeldAfter w (first ∷ es) c b → IsLedgerAfter w (first ∷ es) l → rule_by c w b e ≡ rule_in w l e
