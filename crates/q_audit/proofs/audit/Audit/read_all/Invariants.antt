use Rattle.std.proofs.Common.{◌≡◌, ◌≤◌, []}
use Rattle.q_audit.specs.Reading.{Reads}
use Rattle.q_audit.specs.TraceEnds.{HasRead}
use Rattle.q_model.specs.Settings.{World}
use Rattle.q_audit.proofs.audit.Audit.read_all.Given as goal

abbrev pub invariant-loop : goal.invariant-loop
invariant-loop g l =
    let left = g.S.Source.left in
    let faults = g.S.Source.faults in
    record {
      reads : (w : World) → Reads w l.fn.self [] → HasRead w (left l.fn.source) l.self l.reader (left l.source);
      later : faults l.fn.source ≤ faults l.source;
      faultless : faults l.source ≡ faults l.fn.source;
    }

-- each line is some of what the text may have
abbrev pub decreases-loop : goal.decreases-loop
decreases-loop g l = l.reader.budget
