use Rattle.std.proofs.Common.{arith}
use Rattle.q_record.proofs.reading.get.Goals as goal
use Rattle.q_record.proofs.ReadingLaws.{found_read}

pub returns-clause-found : goal.returns-clause-found
returns-clause-found c =
    found_read c.args.at c.in_ok-length.length c.args.bytes.now c.split_at.result.1.now c.body_length.result (λ i. omega (arith, c.type_inv.bytes i)) c.split_at.ensures.back c.in-len1-up.len_at_least
    c.body_length.ensures c.in_ok-length.was c.if-behind-length.false
