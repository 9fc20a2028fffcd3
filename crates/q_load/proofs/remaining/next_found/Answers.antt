use Rattle.std.proofs.Common.{refl}
use Rattle.q_load.proofs.Unfailing.{host_memory}
use Rattle.q_load.proofs.remaining.next_found.Goals as goal

pub want_of_memory-requires : goal.want_of_memory-requires
want_of_memory-requires c = host_memory c.in-Err.error c.next.result c.in-Err.is c.next.ensures.cause
