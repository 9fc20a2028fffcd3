use Rattle.std.proofs.Common.{◌<◌, length}
use Rattle.cases.proofs.client.add_script.Given as goal

abbrev pub invariant-loop-act : goal.invariant-loop-act
invariant-loop-act l = 0 < length l.door.hops.scripts
