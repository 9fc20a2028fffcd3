use Rattle.std.proofs.Common.{refl}
use Rattle.q_model.specs.declared.entry.Entry.TheVariants as entries
use Rattle.q_model.specs.Step.{after}
use Rattle.q_core.proofs.LogLaws.{log_law}
use Rattle.q_core.proofs.NoteLaws.{note_law}
use Rattle.q_core.proofs.TidyLaws.{tidy_law}
use Rattle.q_core.proofs.StepLaws.{raw_law}
use Rattle.q_core.proofs.state.Core.log.Goals as goal

pub returns-clause-exact : goal.returns-clause-exact
unfolding after
returns-clause-exact c = λ failure w l a rule.
    tidy_law l refl refl
    (note_law (entries.Log c.args.id failure) (record { no_admit = λ id. refl; no_start_of = λ id t. refl; no_charge = λ id t. refl; no_start = refl })
    (log_law c.args.id failure (raw_law a.matches c.requires.seen) a.consistent rule c.note_log.ensures c.want_mark.ensures.change c.want_mark.ensures.memory))
    c.tidy.ensures
