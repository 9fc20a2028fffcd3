use Rattle.std.proofs.Common.{refl, sym, ◌∙◌}
use Rattle.q_model.specs.declared.entry.Entry.TheVariants as entries
use Rattle.q_model.specs.Step.{after}
use Rattle.q_core.proofs.AgreesLaws.{same_admitted}
use Rattle.q_core.proofs.StepLaws.{raw_law}
use Rattle.q_core.proofs.NoteLaws.{note_law}
use Rattle.q_core.proofs.MarksLaws.{marks_law}
use Rattle.q_core.proofs.TidyLaws.{tidy_law}
use Rattle.q_core.proofs.state.Core.sync.Goals as goal

pub returns-clause-exact : goal.returns-clause-exact
unfolding after
returns-clause-exact c = λ w l a.
    tidy_law l refl refl
    (note_law (entries.Sync c.args.id) (record { no_admit = λ id. refl; no_start_of = λ id t. refl; no_charge = λ id t. refl; no_start = refl })
    (marks_law c.args.id (raw_law a.matches c.requires.seen) a.consistent (sym (same_admitted a.matches.parts c.args.id) ∙ c.requires.admitted) c.clear_marks.ensures))
    c.tidy.ensures
