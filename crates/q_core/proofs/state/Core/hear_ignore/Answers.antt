use Rattle.std.proofs.Common.{IsTrue, refl, subst, sym}
use Rattle.q_model.specs.declared.entry.Entry.TheVariants as entries
use Rattle.q_model.specs.declared.event.Trigger.TheVariants as triggers
use Rattle.q_model.specs.Step.{after}
use Rattle.q_core.proofs.StepLaws.{raw_law}
use Rattle.q_core.proofs.NoteLaws.{ignore_law, note_law}
use Rattle.q_core.proofs.TidyLaws.{tidy_law}
use Rattle.q_core.specs.State.{State}
use Rattle.q_core.specs.Agrees.{Agrees}
use Rattle.q_core.specs.Changes.{is_looked_at}
use Rattle.q_core.specs.View.{state_of}
use Rattle.q_core.proofs.state.Core.hear_ignore.Goals as goal

pub returns-clause-exact : goal.returns-clause-exact
unfolding after
returns-clause-exact c = λ w l b.
    let a : Agrees w (state_of c.self.inside) l = subst (λ (s : State). Agrees w s l) (sym c.self.view_is) b in
    let seen : IsTrue (is_looked_at (state_of c.self.inside)) = subst (λ (s : State). IsTrue (is_looked_at s)) (sym c.self.view_is) c.requires in
    tidy_law l refl refl (note_law (entries.Trigger triggers.A) (record { no_admit = λ id. refl; no_start_of = λ id t. refl; no_charge = λ id t. refl; no_start = refl }) (ignore_law (raw_law a.matches seen))) c.tidy.ensures
