use Rattle.std.proofs.Common.{ap, ◌∙◌, inl, refl, Some}
use Rattle.q_model.specs.declared.entry.Entry.TheVariants as entries
use Rattle.q_core.specs.declared.decision.Decision.TheVariants as decisions
use Rattle.q_core.proofs.LastRuleLaws.{next_is_start}
use Rattle.q_core.proofs.ProcessDecisions.{decided_start}
use Rattle.q_core.proofs.state.Core.apply_start.Goals as goal

pub returns-clause-exact : goal.returns-clause-exact
returns-clause-exact c = λ w l a.
    let number = c.args.number in
    let id = c.args.id in
    let site = c.args.site in
    let k = next_is_start a (decisions.Start number id site) refl c.requires.decided in
    let positions = k.1.1.0 in
    let starts = k.1.2 ∙ ap (λ e. Some e) k.1.1.1 in
    inl (
      entries.Start number id site positions,
      (positions, refl),
      k.0 ∙ starts,
      c.start_delivery.ensures.exact positions w l a starts,
    )

pub start_delivery-requires-clause-there : goal.start_delivery-requires-clause-there
start_delivery-requires-clause-there c = (decided_start c.args.self.now c.args.number c.args.id c.args.site c.requires.decided).there

pub start_delivery-requires-clause-next : goal.start_delivery-requires-clause-next
start_delivery-requires-clause-next c = (decided_start c.args.self.now c.args.number c.args.id c.args.site c.requires.decided).next

pub start_delivery-requires-clause-process : goal.start_delivery-requires-clause-process
start_delivery-requires-clause-process c = (decided_start c.args.self.now c.args.number c.args.id c.args.site c.requires.decided).process
