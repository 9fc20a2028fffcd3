use Rattle.std.proofs.Common.{refl, sym, ◌∙◌}
use Rattle.q_model.specs.declared.entry.Entry.TheVariants as entries
use Rattle.q_model.specs.Step.{after}
use Rattle.q_core.proofs.AgreesLaws.{same_admitted}
use Rattle.q_core.proofs.GoneLaws.{removed_rows}
use Rattle.q_core.proofs.NoteLaws.{note_law}
use Rattle.q_core.proofs.RemoveLaws.{remove_law}
use Rattle.q_core.proofs.TidyLaws.{tidy_law}
use Rattle.q_core.proofs.StepLaws.{raw_law}
use Rattle.q_core.proofs.state.Core.remove.Goals as goal

pub returns-clause-exact : goal.returns-clause-exact
unfolding after
returns-clause-exact c = λ adm w l a may.
    tidy_law l refl refl
    (note_law (entries.Remove c.args.id) (record { no_admit = λ id. refl; no_start_of = λ id t. refl; no_charge = λ id t. refl; no_start = refl })
    (remove_law c.args.id (raw_law a.matches c.requires) a.consistent (sym (same_admitted a.matches.parts c.args.id) ∙ adm) may (c.remove_slot.ensures.exact (removed_rows a.matches.parts a.consistent c.args.id may))))
    c.tidy.ensures
