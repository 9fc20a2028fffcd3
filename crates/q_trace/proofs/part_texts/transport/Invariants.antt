use Rattle.q_transport.specs.Routing.{table_of}
use Rattle.q_trace.proofs.TransportReads.{IsNoneBelow}
use Rattle.q_trace.proofs.part_texts.transport.Given as goal

abbrev pub invariant-loop-number : goal.invariant-loop-number
invariant-loop-number l = IsNoneBelow (table_of l.table) l.text l.number
