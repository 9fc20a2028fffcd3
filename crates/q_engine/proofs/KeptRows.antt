-- The row that a decision puts off is kept by the core.
use Rattle.std.proofs.Common.{◌≡◌, ◌==◌, ◌∙◌, Bool, None, Some, ap, if◌then◌else◌, sym, true, ℕ}
use Rattle.std.proofs.lemmas.Bool.{eq-eqb}
use Rattle.q_core.specs.Deciding.{IsSkipOf}
use Rattle.q_core.specs.Queries.{skipped_in}
use Rattle.q_core.specs.declared.decision.Decision.{Decision}
use Rattle.q_core.specs.declared.decision.Decision.TheVariants as decisions
use Rattle.q_core.specs.declared.state.Core.{Core}
use Rattle.q_engine.specs.KeptRows.{KeepsRow}

pub keeps_row : (old new : Core) (d : Decision) → IsSkipOf old d new → KeepsRow d new
keeps_row old new (decisions.Skip id site entry) h = h.number
keeps_row old new (decisions.Mark id position) h = tt
keeps_row old new (decisions.Log id failure) h = tt
keeps_row old new (decisions.Sync id) h = tt
keeps_row old new (decisions.Defer id due) h = tt
keeps_row old new (decisions.Back id) h = tt
keeps_row old new (decisions.Bounce id) h = tt
keeps_row old new (decisions.Remove id) h = tt
keeps_row old new (decisions.Corrupt id place) h = tt
keeps_row old new (decisions.Admit id place) h = tt
keeps_row old new (decisions.Preempt child parent transport need) h = tt
keeps_row old new (decisions.Start number id site) h = tt
keeps_row old new (decisions.Read id from max) h = tt
keeps_row old new decisions.LookActive h = tt
keeps_row old new decisions.LookIncoming h = tt
keeps_row old new (decisions.LookDeferred after until) h = tt

-- so its positions are told
pub row_told : (c : Core) (entry : ℕ) → c.skips ≡ entry → skipped_in c entry ≡ None → ⊥
row_told c entry same none =
    let here : (c.skips == entry) ≡ true = eq-eqb c.skips entry same in
    let told : skipped_in c entry ≡ Some c.skipped = ap (λ (b : Bool). if b then Some c.skipped else None) here in
    let bad : None ≡ Some c.skipped = sym none ∙ told in
    cc
