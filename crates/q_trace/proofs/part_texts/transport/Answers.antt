use Rattle.std.proofs.Common.{arith, sym}
use Rattle.q_transport.specs.Routing.{table_of}
use Rattle.q_trace.proofs.TransportReads.{found, none_found}
use Rattle.q_trace.proofs.part_texts.transport.Goals as goal

pub returns-then-is_name : goal.returns-then-is_name
returns-then-is_name c =
    found (table_of c.args.table.now) c.args.text.now c.loop-number.number (omega (arith, c.transports-number-end.ensures.exact)) c.loop-number.invariant (sym c.if-is_name.ensures.exact) c.if-is_name.ensures.form

pub returns : goal.returns
returns c =
    none_found (table_of c.args.table.now) c.args.text.now c.loop-number.number (omega (arith, c.transports-number-end.ensures.exact)) c.loop-number.invariant
