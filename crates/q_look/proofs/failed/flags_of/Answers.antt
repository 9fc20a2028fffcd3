use Rattle.std.proofs.Common.{ap, sym, subst, arith, ◌≡◌, ◌+◌, ◌++◌, ◌∷◌, [], List, Bool, length, take, true, ◌∙◌}
use Rattle.std.proofs.lemmas.List.{take_more}
use Rattle.std.specs.Prelude.{slice_index_or, slice_set}
use Rattle.q_model.specs.declared.outcome.Failure.{Failure}
use Rattle.q_model.specs.declared.outcome.Why.TheVariants.{Refused}
use Rattle.q_model.specs.FailureLog.{failures_of}
use Rattle.q_logfile.specs.Flags.{AreFlags}
use Rattle.q_look.specs.Failures.{set_count}
use Rattle.q_logfile.proofs.FlagLaws.{flags_more}
use Rattle.q_look.proofs.FlagCounts.{failures_more}
use Rattle.q_look.proofs.failed.flags_of.Goals as goal

pub loop-failure-preserved : goal.loop-failure-preserved
loop-failure-preserved c =
    let fs = c.args.failures.now in
    let i = c.loop-failure.failure-index in
    let set = c.loop-failure.flags.set.items in
    let f : Failure = slice_index_or fs i (record { position = 0; why = Refused; code = 0 }) in
    let more : take (i + 1) fs ≡ take i fs ++ f ∷ [] = take_more fs i (record { position = 0; why = Refused; code = 0 }) (omega (arith, c.loop-failure-test.true)) in
    let flags = c.loop-failure.invariant.flags in
    record {
      flags = subst (λ (ts : List Bool). AreFlags c.args.recipients (take (i + 1) fs) ts) (sym c.note.ensures.set) (subst (λ (gs : List Failure). AreFlags c.args.recipients gs (slice_set set f.position true)) (sym more) (flags_more c.args.recipients (take i fs) f set flags));
      counted = c.note.ensures.counted;
      failures = ap set_count c.note.ensures.set ∙ failures_more c.args.recipients (take i fs) f set flags c.loop-failure.invariant.failures ∙ ap (λ (gs : List Failure). length (failures_of c.args.recipients gs)) (sym more);
    }
