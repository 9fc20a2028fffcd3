use Rattle.std.proofs.Common.{◌≡◌, ◌≤◌, false}
use Rattle.q_lines.specs.States.{text_left}
use Rattle.q_events.proofs.Leading.{Led}
use Rattle.q_events.proofs.events.Events.read_item.Given as goal

abbrev pub invariant-loop-content : goal.invariant-loop-content
invariant-loop-content g l =
    let left = g.S.Source.left in
    let faults = g.S.Source.faults in
    record {
      led : Led l.fn.self (text_left l.fn.self.buffered (left l.fn.source)) l.content.items l.self (text_left l.self.buffered (left l.source));
      going : l.self.ended ≡ false;
      budget : l.self.budget ≤ l.fn.self.budget;
      later : faults l.fn.source ≤ faults l.source;
      faultless : faults l.source ≡ faults l.fn.source;
    }

abbrev pub decreases-loop-content : goal.decreases-loop-content
decreases-loop-content g l = l.self.budget
