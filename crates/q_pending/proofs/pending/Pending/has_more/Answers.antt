use Rattle.std.proofs.Common.{◌≡◌, ◌∙◌, ℕ, Bool, true, false, nat_eq, not, refl, sym}
use Rattle.std.proofs.lemmas.Bool.{eqb-true}
use Rattle.q_pending.proofs.pending.Pending.has_more.Goals as goal

is_none : (n : ℕ) → not (nat_eq n 0) ≡ false → n ≡ 0
is_none n h = by (nat_eq n 0) refl h
  where
    by : (b : Bool) → nat_eq n 0 ≡ b → not b ≡ false → n ≡ 0
    by true e h = eqb-true n 0 e
    by false e h = absurd cc

pub returns-clause-none : goal.returns-clause-none
returns-clause-none g c none t = c.in_ok-fill.ensures.none t (sym c.len-2.ensures ∙ is_none c.len-2.result none)
