use Rattle.std.proofs.Common.{ap, ◌∙◌, subst, sym, Some}
use Rattle.q_core.specs.Deciding.{IsApplied}
use Rattle.q_core.proofs.AskLaws.{look_active_applied, look_deferred_applied, look_incoming_applied, read_applied}
use Rattle.q_core.proofs.state.Core.apply.Goals as goal

pub returns-in-Read-clause-applied : goal.returns-in-Read-clause-applied
returns-in-Read-clause-applied c = λ w l a. subst (λ d. IsApplied w l c.args.self.now d c.args.self.now) (sym c.in-Read.is) (read_applied a c.in-Read.id c.in-Read.from c.in-Read.max (c.requires.decided ∙ ap (λ d. Some d) c.in-Read.is))

pub returns-in-LookActive-clause-applied : goal.returns-in-LookActive-clause-applied
returns-in-LookActive-clause-applied c = λ w l a. subst (λ d. IsApplied w l c.args.self.now d c.args.self.now) (sym c.in-LookActive.is) (look_active_applied a (c.requires.decided ∙ ap (λ d. Some d) c.in-LookActive.is))

pub returns-in-LookIncoming-clause-applied : goal.returns-in-LookIncoming-clause-applied
returns-in-LookIncoming-clause-applied c = λ w l a. subst (λ d. IsApplied w l c.args.self.now d c.args.self.now) (sym c.in-LookIncoming.is) (look_incoming_applied a (c.requires.decided ∙ ap (λ d. Some d) c.in-LookIncoming.is))

pub returns-in-LookDeferred-clause-applied : goal.returns-in-LookDeferred-clause-applied
returns-in-LookDeferred-clause-applied c = λ w l a. subst (λ d. IsApplied w l c.args.self.now d c.args.self.now) (sym c.in-LookDeferred.is) (look_deferred_applied a c.in-LookDeferred.after c.in-LookDeferred.until (c.requires.decided ∙ ap (λ d. Some d) c.in-LookDeferred.is))
