use Rattle.std.proofs.Common.{ap, ◌∙◌}
use Rattle.q_transport.specs.Entries.{target_at}
use Rattle.q_transport.proofs.EntryLaws.{looked_up}
use Rattle.q_transport.proofs.entries.Entries.get.Goals as goal

pub returns : goal.returns
returns c = c.get.ensures.value ∙ looked_up c.args.pattern.now c.self.inside.targets.entries ∙ ap (λ entries. target_at entries c.args.pattern.now) c.self.view_is
