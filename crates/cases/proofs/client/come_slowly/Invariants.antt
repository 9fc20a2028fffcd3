use Rattle.std.proofs.Common.{◌<◌, length}
use Rattle.cases.proofs.client.come_slowly.Given as goal

abbrev pub invariant-loop-byte : goal.invariant-loop-byte
invariant-loop-byte l = 0 < length l.door.hops.scripts
