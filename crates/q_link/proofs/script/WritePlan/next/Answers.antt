use Rattle.std.proofs.Common.{◌≡◌, ◌<◌, ◌^◌, rules, true}
use Rattle.q_link.specs.Records.{counted}
use Rattle.q_link.specs.Scripts.{is_named}
use Rattle.q_link.specs.contracts.script.WritePlan.{the_view}
use Rattle.q_link.proofs.ScriptWaits.{next_spares, next_spends}
use Rattle.q_link.proofs.script.WritePlan.next.Goals as goal

pub returns-then-is_named-clause-spares : goal.returns-then-is_named-clause-spares
returns-then-is_named-clause-spares c = next_spares c.args.self.now (the_view (record c.self.inside { calls = c.saturating_add-self-inside.result })) (search rules) (search rules)

pub returns-then-is_named-2-clause-spares : goal.returns-then-is_named-2-clause-spares
returns-then-is_named-2-clause-spares c = next_spares c.args.self.now (the_view (record c.self.inside { calls = c.saturating_add-self-inside.result })) (search rules) (search rules)

pub returns-then-is_named-2-clause-spends : goal.returns-then-is_named-2-clause-spends
returns-then-is_named-2-clause-spends c = λ _. next_spends c.args.self.now (the_view (record c.self.inside { calls = c.saturating_add-self-inside.result })) (search rules) (search rules) (search rules)

pub returns-clause-spares : goal.returns-clause-spares
returns-clause-spares c = next_spares c.args.self.now (the_view (record c.self.inside { calls = c.saturating_add-self-inside.result })) (search rules) (search rules)
