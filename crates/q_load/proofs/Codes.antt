-- The outcomes of replies have codes that a log can hold.
use Rattle.std.proofs.Common.{◌≡◌, ◌%◌, ◌∙◌, Bool, ap, false, if◌then◌else◌, refl, suc, true, zero, ℕ}
use Rattle.std.specs.List.{list_all}
use Rattle.std.specs.Prelude.{◌&&◌, ◌==◌, replicate}
use Rattle.q_core.specs.Hearing.{has_log_code}
use Rattle.q_load.specs.Due.{outcome_of}
use Rattle.q_model.specs.declared.outcome.Outcome.{Outcome}
use Rattle.q_model.specs.declared.outcome.Outcome.TheVariants as outcomes

code_by : (b : Bool) → has_log_code (if b then outcomes.Later 450 else outcomes.Ok) ≡ true
code_by true = refl
code_by false = refl

pub outcome_code : (reply : ℕ) → has_log_code (outcome_of reply) ≡ true
outcome_code reply = code_by (reply % 10 == 0)

pub have_codes : (n : ℕ) (o : Outcome) → has_log_code o ≡ true → list_all has_log_code (replicate n o) ≡ true
have_codes zero o h = refl
have_codes (suc n) o h = ap (λ (b : Bool). b && list_all has_log_code (replicate n o)) h ∙ have_codes n o h
