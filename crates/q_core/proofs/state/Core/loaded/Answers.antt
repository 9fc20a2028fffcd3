use Rattle.std.proofs.Common.{inr, refl, subst, sym}
use Rattle.q_model.specs.declared.entry.Entry.TheVariants as entries
use Rattle.q_core.specs.declared.state.Question.TheVariants.{Nothing}
use Rattle.q_core.proofs.AskLaws.{question_law}
use Rattle.q_core.proofs.AppliedLaws.{may_next}
use Rattle.q_core.proofs.WholeLaws.{inner_moment, whole_law}
use Rattle.q_core.specs.State.{State}
use Rattle.q_core.specs.Agrees.{Matches}
use Rattle.q_model.specs.Step.{after}
use Rattle.q_core.proofs.state.Core.loaded.Goals as goal

pub returns-clause-exact : goal.returns-clause-exact
returns-clause-exact c = λ w l a id from max asks next reads.
    let load = entries.Load id from c.args.cursor.position in
    let k : Matches w _ (after w l load) = subst (λ (s : State). Matches w s (after w l load)) (sym c.self.view_is) (c.apply_read.ensures.exact w l a id from max asks (may_next a load next).0 reads) in
    whole_law load a (inr next) refl (inner_moment w l load refl a.moment) (question_law Nothing k)
