use Rattle.std.proofs.Common.{refl, sym, subst}
use Rattle.q_model.specs.declared.entry.Entry.TheVariants as entries
use Rattle.q_model.specs.Step.{after}
use Rattle.q_model.specs.Marking.{after_mark}
use Rattle.q_core.proofs.ClearLaws.{mark_left_law}
use Rattle.q_core.proofs.NoteLaws.{note_law}
use Rattle.q_core.proofs.TidyLaws.{tidy_law}
use Rattle.q_core.proofs.StepLaws.{HoldsRaw, raw_law}
use Rattle.q_core.proofs.state.Core.mark_left.Goals as goal

pub returns-clause-exact : goal.returns-clause-exact
unfolding after
returns-clause-exact c = λ none w l a id position left.
    tidy_law l refl refl
    (note_law (entries.Mark id position) (record { no_admit = λ id. refl; no_start_of = λ id t. refl; no_charge = λ id t. refl; no_start = refl })
    (subst (λ k. HoldsRaw w k (after_mark l id position)) (sym c.forget_active.ensures) (mark_left_law id position (raw_law a.matches c.requires) a.consistent none left)))
    c.tidy.ensures
