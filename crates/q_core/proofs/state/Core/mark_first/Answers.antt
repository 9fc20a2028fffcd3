use Rattle.std.proofs.Common.{refl}
use Rattle.q_model.specs.declared.entry.Entry.TheVariants as entries
use Rattle.q_model.specs.Step.{after}
use Rattle.q_core.proofs.MarkLaws.{mark_law}
use Rattle.q_core.proofs.NoteLaws.{note_law}
use Rattle.q_core.proofs.TidyLaws.{tidy_law}
use Rattle.q_core.proofs.StepLaws.{raw_law}
use Rattle.q_core.proofs.state.Core.mark_first.Goals as goal

pub returns-clause-exact : goal.returns-clause-exact
unfolding after
returns-clause-exact c = λ position w l a rule.
    tidy_law l refl refl
    (note_law (entries.Mark c.args.id position) (record { no_admit = λ id. refl; no_start_of = λ id t. refl; no_charge = λ id t. refl; no_start = refl })
    (mark_law c.args.id position (raw_law a.matches c.requires.seen) a.consistent rule c.note_mark.ensures c.settle_first.ensures.change c.settle_first.ensures.memory))
    c.tidy.ensures
