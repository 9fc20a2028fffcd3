-- What is said of a decision, by another name of it.
use Rattle.std.proofs.Common.{◌≡◌, sym, subst}
use Rattle.std.specs.Prelude.{OnOk, Result}
use Rattle.q_host.specs.declared.error.HostError.{HostError}
use Rattle.q_host.specs.View.{View}
use Rattle.q_core.specs.declared.decision.Decision.{Decision}
use Rattle.q_engine.specs.Steps.{CarriesOut}
use Rattle.q_engine.specs.declared.engine.Engine.{Engine}

pub arm_ok : {S : Type 0} (r : Result S HostError) (P : Type 0) (x d : Decision) (old new : Engine) (v w : View) → x ≡ d → OnOk r (P → CarriesOut d old new v w) → OnOk r (P → CarriesOut x old new v w)
arm_ok r P x d old new v w same h = subst (λ (y : Decision). OnOk r (P → CarriesOut y old new v w)) (sym same) h
