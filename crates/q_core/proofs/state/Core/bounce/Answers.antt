use Rattle.std.proofs.Common.{refl, sym, ◌∙◌}
use Rattle.q_model.specs.declared.entry.Entry.TheVariants as entries
use Rattle.q_model.specs.Step.{after}
use Rattle.q_core.proofs.AgreesLaws.{same_admitted}
use Rattle.q_core.proofs.BounceLaws.{bounce_law, bounce_rows}
use Rattle.q_core.proofs.NoteLaws.{note_law}
use Rattle.q_core.proofs.TidyLaws.{tidy_law}
use Rattle.q_core.proofs.StepLaws.{raw_law}
use Rattle.q_core.proofs.state.Core.bounce.Goals as goal

pub returns-clause-exact : goal.returns-clause-exact
unfolding after
returns-clause-exact c = λ adm w l a may.
    let rows = bounce_rows l c.args.id in
    tidy_law l rows.waiting rows.flights
    (note_law (entries.Bounce c.args.id) (record { no_admit = λ id. refl; no_start_of = λ id t. refl; no_charge = λ id t. refl; no_start = refl })
    (bounce_law c.args.id (raw_law a.matches c.requires) a.consistent (sym (same_admitted a.matches.parts c.args.id) ∙ adm) may c.note_bounce.ensures))
    c.tidy.ensures
