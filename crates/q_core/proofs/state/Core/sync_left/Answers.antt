use Rattle.std.proofs.Common.{◌≡◌, ◌∙◌, false, inl, inr, refl, Some, sym, true}
use Rattle.q_laws.proofs.Decided.{Says}
use Rattle.q_laws.proofs.Decisions.{next_decided}
use Rattle.q_model.specs.Ledger.{Ledger}
use Rattle.q_model.specs.Leftovers.{next_leftover}
use Rattle.q_model.specs.Memory.{is_admitted}
use Rattle.q_model.specs.declared.entry.Entry.TheVariants as entries
use Rattle.q_model.specs.declared.id.Id.{Id}
use Rattle.q_model.specs.Step.{after}
use Rattle.q_core.proofs.AgreesLaws.{same_admitted}
use Rattle.q_core.proofs.ClearLaws.{sync_left_law}
use Rattle.q_core.proofs.NoteLaws.{note_law}
use Rattle.q_core.proofs.TidyLaws.{tidy_law}
use Rattle.q_core.proofs.StepLaws.{raw_law}
use Rattle.q_core.proofs.state.Core.sync_left.Goals as goal

-- a leftover is synced where it is the next
left_first : (l : Ledger) (id : Id) → is_admitted l id ≡ false → Says l (entries.Sync id) → next_leftover l ≡ Some id
left_first l id gone (inl here) = let bad : true ≡ false = sym here ∙ gone in absurd cc
left_first l id gone (inr one) = one.3

pub returns-clause-exact : goal.returns-clause-exact
unfolding after
returns-clause-exact c = λ apart w l a decided.
    let entry = entries.Sync c.args.id in
    let gone = sym (same_admitted a.matches.parts c.args.id) ∙ apart in
    let both = next_decided w l entry a.consistent decided in
    tidy_law l refl refl
    (note_law entry (record { no_admit = λ id. refl; no_start_of = λ id t. refl; no_charge = λ id t. refl; no_start = refl })
    (sync_left_law c.args.id (raw_law a.matches c.requires) a.consistent gone both.0 (left_first l c.args.id gone both.1) c.note_synced.ensures))
    c.tidy.ensures
