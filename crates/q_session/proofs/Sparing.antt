-- How many fewer answers `NotYet` are left of a link, step by step.
use Rattle.std.proofs.Common.{◌≡◌, Option, ℕ, refl, subst, sym}
use Rattle.q_link.proofs.Sparing.{spares_then}
use Rattle.q_link.specs.WaitsLeft.{Spares}
use Rattle.q_model.specs.declared.outcome.SiteState.{SiteState}
use Rattle.q_session.specs.Uses.{SparesPolled, SparesStep}
use Rattle.q_session.specs.declared.polled.Polled.{Polled}
use Rattle.q_session.specs.declared.polled.Polled.TheVariants.{Over}
use Rattle.q_session.specs.declared.steps.Step.{Step}
use Rattle.q_session.specs.declared.steps.Step.TheVariants.{Lost, Onward, Settles, Waits}

-- a step behind a reply, which never waits
pub spared_step : (s : Step) (old new : Option ℕ) → (s ≡ Waits → ⊥) → Spares 0 old new → SparesStep s old new
spared_step Onward old new never h = h
spared_step Waits old new never h = absurd (never refl)
spared_step Lost old new never h = tt
spared_step (Settles last) old new never h = h

-- a step behind sending all
pub step_behind : (s : Step) (old sent new : Option ℕ) → Spares 0 old sent → SparesStep s sent new → SparesStep s old new
step_behind Onward old sent new first h = spares_then 0 0 old sent new first h
step_behind Waits old sent new first h = spares_then 0 1 old sent new first h
step_behind Lost old sent new first h = tt
step_behind (Settles last) old sent new first h = spares_then 0 0 old sent new first h

-- a poll behind which the delivery is over
pub over_spares : (r : Polled) (site : SiteState) (old new : Option ℕ) → r ≡ Over site → SparesPolled r old new
over_spares r site old new is = subst (λ (p : Polled). SparesPolled p old new) (sym is) tt
