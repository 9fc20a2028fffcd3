use Rattle.std.proofs.Common.{refl, sym, subst}
use Rattle.q_model.specs.Leaving.{after_corrupt}
use Rattle.q_model.specs.declared.entry.Entry.TheVariants as entries
use Rattle.q_model.specs.Step.{after}
use Rattle.q_core.proofs.CorruptLaws.{corrupt_left_law, corrupt_rows}
use Rattle.q_core.proofs.NoteLaws.{note_law}
use Rattle.q_core.proofs.TidyLaws.{tidy_law}
use Rattle.q_core.proofs.StepLaws.{HoldsRaw, raw_law}
use Rattle.q_core.proofs.state.Core.corrupt_left.Goals as goal

pub returns-clause-exact : goal.returns-clause-exact
unfolding after
returns-clause-exact c = λ id shown w l a may.
    let rows = corrupt_rows l id in
    tidy_law l rows.waiting rows.flights
    (note_law (entries.Corrupt id) (record { no_admit = λ id. refl; no_start_of = λ id t. refl; no_charge = λ id t. refl; no_start = refl })
    (subst (λ k. HoldsRaw w k (after_corrupt l id)) (sym c.forget_looks.ensures) (corrupt_left_law id (raw_law a.matches c.requires) a.consistent shown may)))
    c.tidy.ensures
