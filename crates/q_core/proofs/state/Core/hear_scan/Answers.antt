use Rattle.std.proofs.Common.{refl, sym, subst}
use Rattle.q_model.specs.declared.entry.Entry.TheVariants as entries
use Rattle.q_model.specs.declared.event.Trigger.TheVariants as triggers
use Rattle.q_model.specs.Step.{after}
use Rattle.q_model.specs.Scans.{ask_scan}
use Rattle.q_core.proofs.StepLaws.{HoldsRaw, ask_law, ask_rows, raw_law}
use Rattle.q_core.proofs.NoteLaws.{note_law}
use Rattle.q_core.proofs.TidyLaws.{tidy_law}
use Rattle.q_core.proofs.state.Core.hear_scan.Goals as goal

pub returns-clause-exact : goal.returns-clause-exact
unfolding after
returns-clause-exact c = λ w l a.
    let asked : HoldsRaw w c.ask_scan.new.self (ask_scan l) =
    subst (λ k. HoldsRaw w k (ask_scan l)) (sym c.ask_scan.ensures) (ask_law (raw_law a.matches c.requires)) in
    let rows = ask_rows l in
    tidy_law l rows.waiting rows.flights (note_law (entries.Trigger triggers.D) (record { no_admit = λ id. refl; no_start_of = λ id t. refl; no_charge = λ id t. refl; no_start = refl }) asked) c.tidy.ensures
