use Rattle.std.proofs.Common.{◌≡◌, List, subst, sym, true}
use Rattle.std.specs.List.{list_all}
use Rattle.q_core.specs.Hearing.{has_log_code}
use Rattle.q_load.specs.Due.{outcome_of}
use Rattle.q_model.specs.declared.outcome.Outcome.{Outcome}
use Rattle.q_load.proofs.Codes.{have_codes, outcome_code}
use Rattle.q_load.proofs.replies.reply.Goals as goal

pub returns-clause-form : goal.returns-clause-form
returns-clause-form c =
    subst (λ (os : List Outcome). list_all has_log_code os ≡ true) (sym c.in_ok-outcomes.ensures) (have_codes c.args.recipients (outcome_of c.args.reply) (outcome_code c.args.reply))
