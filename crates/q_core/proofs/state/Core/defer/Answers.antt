use Rattle.std.proofs.Common.{refl}
use Rattle.q_model.specs.declared.entry.Entry.TheVariants as entries
use Rattle.q_model.specs.Step.{after}
use Rattle.q_core.proofs.DeferLaws.{defer_law}
use Rattle.q_core.proofs.GoneLaws.{deferred_rows}
use Rattle.q_core.proofs.NoteLaws.{note_law}
use Rattle.q_core.proofs.TidyLaws.{tidy_law}
use Rattle.q_core.proofs.StepLaws.{raw_law}
use Rattle.q_core.proofs.state.Core.defer.Goals as goal

pub returns-clause-exact : goal.returns-clause-exact
unfolding after
returns-clause-exact c = λ due w l a may.
    tidy_law l refl refl
    (note_law (entries.Defer c.args.id due) (record { no_admit = λ id. refl; no_start_of = λ id t. refl; no_charge = λ id t. refl; no_start = refl })
    (defer_law c.args.id due (raw_law a.matches c.requires) a.consistent may (c.put_off.ensures.exact (deferred_rows a.matches.parts a.consistent c.args.id due may))))
    c.tidy.ensures
