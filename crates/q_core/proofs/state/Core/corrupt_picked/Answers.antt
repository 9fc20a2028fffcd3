use Rattle.std.proofs.Common.{◌≡◌, refl, sym, ap, subst, ◌∙◌}
use Rattle.q_core.specs.Picking.{found_name, from_deferred_in, passed_in, picked_in}
use Rattle.q_core.specs.declared.state.Core.{Core}
use Rattle.q_core.specs.declared.state.Seen.TheVariants.{Unknown}
use Rattle.q_model.specs.Leaving.{after_corrupt}
use Rattle.q_model.specs.declared.entry.Entry.TheVariants as entries
use Rattle.q_model.specs.Step.{after}
use Rattle.q_core.proofs.CorruptLaws.{corrupt_rows}
use Rattle.q_core.proofs.NoteLaws.{note_law}
use Rattle.q_core.proofs.TidyLaws.{tidy_law}
use Rattle.q_core.proofs.StepLaws.{HoldsRaw, raw_law}
use Rattle.q_core.proofs.CorruptNextLaws.{corrupt_picked_law}
use Rattle.q_core.proofs.state.Core.corrupt_picked.Goals as goal

pub returns-clause-exact : goal.returns-clause-exact
unfolding after
returns-clause-exact c = λ id k w l a may.
    let rows = corrupt_rows l id in
    let me = c.args.self.now in
    let blind : Core = record me { active = Unknown; incoming = Unknown; deferred = Unknown } in
    let passed : c.alternate.new.self ≡ passed_in (from_deferred_in me) (found_name (picked_in me)) blind =
    c.alternate.ensures
    ∙ ap (passed_in c.picks_deferred-from_deferred.result c.name.result) c.forget_looks.ensures
    ∙ ap (λ n. passed_in c.picks_deferred-from_deferred.result n blind) (c.name.ensures ∙ ap found_name c.picked-found.ensures)
    ∙ ap (λ b. passed_in b (found_name (picked_in me)) blind) c.picks_deferred-from_deferred.ensures in
    tidy_law l rows.waiting rows.flights
    (note_law (entries.Corrupt id) (record { no_admit = λ id. refl; no_start_of = λ id t. refl; no_charge = λ id t. refl; no_start = refl })
    (subst (λ k. HoldsRaw w k (after_corrupt l id)) (sym passed) (corrupt_picked_law id (raw_law a.matches c.requires) a.consistent c.requires k.incoming k.active k.hidden may)))
    c.tidy.ensures
