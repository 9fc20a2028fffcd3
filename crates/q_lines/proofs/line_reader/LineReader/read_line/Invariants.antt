use Rattle.std.proofs.Common.{◌≤◌, ◌≡◌, ◌+◌, length}
use Rattle.q_lines.specs.States.{text_left}
use Rattle.q_lines.proofs.LineParts.{PartTaken}
use Rattle.q_lines.proofs.line_reader.LineReader.read_line.Given as goal

abbrev pub invariant-loop-byte : goal.invariant-loop-byte
invariant-loop-byte g l =
    let left = g.S.Source.left in
    let faults = g.S.Source.faults in
    record {
      part : PartTaken l.fn.self.budget (text_left l.fn.self.buffered (left l.fn.source)) l.self.budget l.line.items (text_left l.self.buffered (left l.source));
      spent : length l.line.items + l.self.budget ≡ l.fn.self.budget;
      short : length l.line.items ≤ 16777216;
      later : faults l.fn.source ≤ faults l.source;
      faultless : faults l.source ≡ faults l.fn.source;
    }

abbrev pub decreases-loop-byte : goal.decreases-loop-byte
decreases-loop-byte g l = l.self.budget
