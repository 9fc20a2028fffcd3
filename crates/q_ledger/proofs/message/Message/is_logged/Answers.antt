use Rattle.std.proofs.Common.{◌∙◌, ap, List, sym}
use Rattle.std.specs.List.{list_any}
use Rattle.std.specs.Prelude.{◌==◌}
use Rattle.q_ledger.proofs.CountLaws.{any_map}
use Rattle.q_ledger.specs.Kept.{firm_failure}
use Rattle.q_model.specs.declared.outcome.Failure.{Failure}
use Rattle.q_model.specs.Message.{is_logged, Logged, Message}
use Rattle.q_ledger.proofs.message.Message.is_logged.Goals as goal

pub returns-clause-is : goal.returns-clause-is
returns-clause-is c = c.has_position.ensures.is
    ∙ ap (λ (xs : List Failure). list_any (λ f. f.position == c.args.position) xs) c.deref.ensures.value
    ∙ sym (any_map (λ (f : Logged). f.failure.position == c.args.position) firm_failure c.self.inside.failures.items)
    ∙ ap (λ (m : Message). is_logged m c.args.position) c.self.view_is
