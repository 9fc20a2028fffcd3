use Rattle.std.proofs.Common.{◌≡◌, true, refl, sym, subst}
use Rattle.q_model.specs.Arrivals.{after_arrive}
use Rattle.q_model.specs.declared.entry.Entry.TheVariants as entries
use Rattle.q_model.specs.Step.{after}
use Rattle.q_core.proofs.ArriveLaws.{arrive_law}
use Rattle.q_core.proofs.NoteLaws.{note_law}
use Rattle.q_core.proofs.TidyLaws.{tidy_law}
use Rattle.q_core.proofs.StepLaws.{HoldsRaw, raw_law}
use Rattle.q_model.specs.Arrivals.{may_arrive}
use Rattle.q_model.specs.Step.{may as may_of}
use Rattle.q_core.specs.Agrees.{Matches}
use Rattle.q_core.proofs.state.Core.arrive.Goals as goal

pub returns-clause-exact : goal.returns-clause-exact
unfolding after
returns-clause-exact c = λ e k w l a may.
    let id = c.args.id in
    let sender = k.0 in
    let to = k.1 in
    let content = k.2 in
    let can : may_arrive l id ≡ true = subst (λ x. may_of w l x ≡ true) k.3 may in
    subst (λ x. Matches w c.tidy.new.self (after w l x)) (sym k.3) (
    tidy_law l refl refl
    (note_law (entries.Arrive id sender to content) (record { no_admit = λ id. refl; no_start_of = λ id t. refl; no_charge = λ id t. refl; no_start = refl })
    (subst (λ k. HoldsRaw w k (after_arrive l id sender to content)) (sym c.forget_incoming.ensures) (arrive_law id sender to content (raw_law a.matches c.requires) a.consistent can)))
    c.tidy.ensures)
