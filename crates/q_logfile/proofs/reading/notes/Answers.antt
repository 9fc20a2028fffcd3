use Rattle.std.proofs.Common.{arith, ◌∙◌, ◌++◌, ap, length, ◌<◌, sym}
use Rattle.q_model.specs.FailureLog.{log_notes}
use Rattle.q_logfile.proofs.ReadingLaws.{notes_all, notes_more, notes_stop}
use Rattle.q_logfile.proofs.reading.notes.Goals as goal
use Rattle.q_logfile.proofs.reading.notes.Goals.{in-None, in-Some+in_default}

pub loop-chunk-preserved : goal.loop-chunk-preserved
loop-chunk-preserved c =
    let before = c.loop-chunk.invariant in
    let step = c.in-Some.ensures.steps in
    record {
      size = step.0 ∙ before.size;
      read = ap (λ so_far. so_far ++ log_notes c.next.new.self.rest.now) c.in_ok-push.ensures.ok
          ∙ notes_more _ _ _ _ _ _ before.read step.1.0 (step.1.1 ∙ before.size) (sym c.note.ensures ∙ c.in-Some-note.is);
    }

pub returns : goal.returns
returns c =
    let before = c.loop-chunk.invariant in
    elim c.match-next.branch [
      | in-None w ↦
          let short : length c.loop-chunk.chunk-iterator.rest.now < 8 = omega (arith, w.in-None.ensures.steps, before.size) in
          notes_all _ _ _ before.read short
      | in-Some+in_default w ↦
          let step = w.in-Some.ensures.steps in
          notes_stop _ _ _ _ _ before.read step.1.0 (step.1.1 ∙ before.size) (sym w.note.ensures ∙ w.in_default.is)
    ]
