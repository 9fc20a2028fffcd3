use Rattle.std.proofs.Common.{arith, ◌∙◌, ◌++◌, ap, length, ◌<◌, sym}
use Rattle.q_model.specs.FailureLog.{log_records}
use Rattle.q_logfile.specs.Codes.{are_log_codes}
use Rattle.q_logfile.proofs.ReadingLaws.{codes_read, records_all, records_more, records_stop}
use Rattle.q_logfile.proofs.reading.records.Goals as goal
use Rattle.q_logfile.proofs.reading.records.Goals.{in-None, in-Some+in_default}

pub loop-chunk-preserved : goal.loop-chunk-preserved
loop-chunk-preserved c =
    let before = c.loop-chunk.invariant in
    let step = c.in-Some.ensures.steps in
    record {
      size = step.0 ∙ before.size;
      read = ap (λ so_far. so_far ++ log_records c.next.new.self.rest.now) c.in_ok-push.ensures.ok
          ∙ records_more _ _ _ _ _ _ before.read step.1.0 (step.1.1 ∙ before.size) (sym c.failure.ensures ∙ c.in-Some-failure.is);
    }

pub returns-clause-read : goal.returns-clause-read
returns-clause-read c =
    let before = c.loop-chunk.invariant in
    elim c.match-next.branch [
      | in-None w ↦
          let short : length c.loop-chunk.chunk-iterator.rest.now < 8 = omega (arith, w.in-None.ensures.steps, before.size) in
          records_all _ _ _ before.read short
      | in-Some+in_default w ↦
          let step = w.in-Some.ensures.steps in
          records_stop _ _ _ _ _ before.read step.1.0 (step.1.1 ∙ before.size) (sym w.failure.ensures ∙ w.in_default.is)
    ]

pub returns-clause-lawful : goal.returns-clause-lawful
returns-clause-lawful c = ap are_log_codes (returns-clause-read c) ∙ codes_read c.args.bytes.now (λ i. omega (arith, c.type_inv.bytes i))
