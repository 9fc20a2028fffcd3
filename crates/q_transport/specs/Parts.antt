-- The parts of a line without where they lie in memory.
use Rattle.q_transport.specs.TableLines.{Parts}
use Rattle.q_transport.specs.declared.line.TableLine.{TableLine}

abbrev pub seen : TableLine → Parts
seen l = record { pattern = l.pattern.now; transport = l.transport; hop = l.hop }
