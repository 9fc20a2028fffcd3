use Rattle.std.proofs.Common.{refl}
use Rattle.q_model.specs.declared.entry.Entry.TheVariants as entries
use Rattle.q_model.specs.declared.event.Trigger.TheVariants as triggers
use Rattle.q_model.specs.Step.{after}
use Rattle.q_core.proofs.StepLaws.{raw_law}
use Rattle.q_core.proofs.NoteLaws.{note_law, revive_law}
use Rattle.q_core.proofs.TidyLaws.{tidy_law}
use Rattle.q_core.proofs.UsedLaws.{tidied_used}
use Rattle.q_core.specs.Changes.{all_revived}
use Rattle.q_core.proofs.state.Core.hear_revival.Goals as goal

pub returns-clause-exact : goal.returns-clause-exact
unfolding after
returns-clause-exact c = λ w l a.
    tidy_law l refl refl (note_law (entries.Trigger triggers.F) (record { no_admit = λ id. refl; no_start_of = λ id t. refl; no_charge = λ id t. refl; no_start = refl }) (revive_law (raw_law a.matches c.requires) c.revive_all.ensures.revived))
    (tidied_used c.revive_all.new.self c.tidy.new.self (all_revived c.args.self.now) c.revive_all.ensures.used c.tidy.ensures)
