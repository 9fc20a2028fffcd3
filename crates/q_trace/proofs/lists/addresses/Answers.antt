use Rattle.std.proofs.Common.{arith}
use Rattle.q_trace.proofs.ListLengths.{as_listed, few, too_many}
use Rattle.q_trace.proofs.lists.addresses.Goals as goal

pub returns-then-spaces : goal.returns-then-spaces
returns-then-spaces c = too_many c.args.text.now c.spaces.result c.spaces.ensures (omega arith)

pub returns : goal.returns
returns c =
    let list = c.in_ok-read_addresses.field-0 in
    rw (c.ok_or.ensures.value, few c.args.text.now c.spaces.result list c.spaces.ensures (omega arith) c.in_ok-read_addresses.ensures) (as_listed list)
