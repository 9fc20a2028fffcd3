use Rattle.std.proofs.Common.{◌≡◌, ◌<◌, false, length, sym, ap, subst, ◌∙◌}
use Rattle.q_core.specs.Picking.{IsEntered, found_name, found_slot, from_deferred_in, passed_in, picked_in}
use Rattle.q_model.specs.Admissions.{after_admit}
use Rattle.q_model.specs.declared.entry.Entry.TheVariants as entries
use Rattle.q_model.specs.Step.{after, noted}
use Rattle.q_core.proofs.EnterLaws.{admit_fits, admit_law, admit_rows}
use Rattle.q_core.specs.Held.{is_admitted_in}
use Rattle.q_core.proofs.TidyLaws.{tidy_law}
use Rattle.q_core.proofs.StepLaws.{HoldsRaw, raw_law}
use Rattle.q_core.proofs.state.Core.admit.Goals as goal

pub returns-clause-exact : goal.returns-clause-exact
unfolding after
returns-clause-exact c = λ id known w l a may.
    let rows = admit_rows l id in
    let entered = λ (is : c.picked-found.result ≡ picked_in c.args.self.now) (fits : (is_admitted_in c.args.self.now (found_slot (picked_in c.args.self.now)).id ≡ false) × (length c.args.self.now.admitted < c.args.self.now.params.active_limit)).
    subst (λ f. (is_admitted_in c.args.self.now (found_slot f).id ≡ false → length c.args.self.now.admitted < c.args.self.now.params.active_limit → IsEntered c.args.self.now c.enter.new.self f)) is c.enter.ensures.exact fits.0 fits.1 in
    let me = c.args.self.now in
    let passed : c.alternate.new.self ≡ passed_in (from_deferred_in me) (found_name (picked_in me)) c.enter.new.self =
    c.alternate.ensures
    ∙ ap (λ n. passed_in c.picks_deferred-from_deferred.result n c.enter.new.self) (c.name.ensures ∙ ap found_name c.picked-found.ensures)
    ∙ ap (λ b. passed_in b (found_name (picked_in me)) c.enter.new.self) c.picks_deferred-from_deferred.ensures in
    tidy_law l rows.waiting rows.flights
    (subst (λ k. HoldsRaw w k (noted (entries.Admit id) (after_admit l id))) (sym passed)
    (admit_law id (raw_law a.matches c.requires) a.consistent c.requires known may (entered c.picked-found.ensures (admit_fits id (raw_law a.matches c.requires) a.consistent c.requires known may))))
    c.tidy.ensures
