use Rattle.std.proofs.Common.{refl, sym, subst}
use Rattle.q_model.specs.Leaving.{after_back}
use Rattle.q_model.specs.declared.entry.Entry.TheVariants as entries
use Rattle.q_model.specs.Step.{after}
use Rattle.q_core.proofs.BackLaws.{back_law}
use Rattle.q_core.proofs.NoteLaws.{note_law}
use Rattle.q_core.proofs.TidyLaws.{tidy_law}
use Rattle.q_core.proofs.StepLaws.{HoldsRaw, raw_law}
use Rattle.q_core.proofs.state.Core.back.Goals as goal

pub returns-clause-exact : goal.returns-clause-exact
unfolding after
returns-clause-exact c = λ id w l a may.
    tidy_law l refl refl
    (note_law (entries.Back id) (record { no_admit = λ id. refl; no_start_of = λ id t. refl; no_charge = λ id t. refl; no_start = refl })
    (subst (λ k. HoldsRaw w k (after_back l id)) (sym c.forget_mail.ensures) (back_law id (raw_law a.matches c.requires) a.consistent may)))
    c.tidy.ensures
