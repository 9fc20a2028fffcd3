use Rattle.std.proofs.Common.{ap, ◌∙◌, inl, refl, Some}
use Rattle.q_model.specs.declared.entry.Entry.TheVariants as entries
use Rattle.q_core.specs.declared.decision.Decision.TheVariants as decisions
use Rattle.q_core.proofs.LastRuleLaws.{next_is_start}
use Rattle.q_core.proofs.PreemptKinds.{other_child, parent_there}
use Rattle.q_core.proofs.state.Core.apply_preempt.Goals as goal

pub preempt-requires-clause-other : goal.preempt-requires-clause-other
preempt-requires-clause-other c = other_child c.args.self.now c.args.child c.args.parent c.args.transport c.args.need c.stand_apart.ensures c.requires.decided

pub preempt-requires-clause-parent : goal.preempt-requires-clause-parent
preempt-requires-clause-parent c = parent_there c.args.self.now c.args.child c.args.parent c.args.transport c.args.need c.requires.decided

pub returns-clause-exact : goal.returns-clause-exact
returns-clause-exact c = λ w l a.
    let child = c.args.child in
    let parent = c.args.parent in
    let transport = c.args.transport in
    let need = c.args.need in
    let k = next_is_start a (decisions.Preempt child parent transport need) refl c.requires.decided in
    let preempts = k.1.2 ∙ ap (λ e. Some e) k.1.1 in
    inl (
      entries.Preempt child parent transport need,
      refl,
      k.0 ∙ preempts,
      c.preempt.ensures.exact w l a preempts,
    )
