use Rattle.std.proofs.Common.{◌-◌, ◌≤◌, arith, length}
use Rattle.std.specs.Option.{option_copied}
use Rattle.q_model.specs.Choice.{started_before}
use Rattle.q_ledger.proofs.LeastLaws.{passing_back}
use Rattle.q_ledger.specs.Spaces.{is_startable_of}
use Rattle.q_ledger.specs.Worlds.{world_of}
use Rattle.q_ledger.proofs.ledger.Ledger.next_among.Goals as goal

pub loop-i-preserved : goal.loop-i-preserved
loop-i-preserved c =
    let l = c.args.self.now.ledger in
    let rows = c.args.rows.now in
    let within : c.loop-i.i - 1 ≤ length rows = omega (arith, c.loop-i.invariant.1) in (
      passing_back (started_before l) (is_startable_of (world_of c.args.world.now) l c.args.transport c.args.id) rows c.loop-i.i c.index-rows-i.result (option_copied c.loop-i.next) (option_copied c.sooner_startable-next.result)
          c.loop-i-test.true c.loop-i.invariant.1 c.index-rows-i.is c.loop-i.invariant.0 c.sooner_startable-next.ensures,
      within,
    )
