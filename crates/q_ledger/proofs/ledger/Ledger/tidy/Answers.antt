use Rattle.std.proofs.Common.{sym, subst}
use Rattle.q_ledger.proofs.TakenLaws.{tidy_takes}
use Rattle.q_ledger.specs.Taking.{IsTaken}
use Rattle.q_ledger.specs.Worlds.{world_of}
use Rattle.q_ledger.proofs.ledger.Ledger.tidy.Goals as goal

pub returns : goal.returns
returns c = λ k b e h may woken changed.
    let w = world_of c.args.world.now in
    subst (IsTaken w b e) (sym c.tidy_after.ensures) (tidy_takes w k b e c.args.woken.now c.args.self.now h may woken changed)
