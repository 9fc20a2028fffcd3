use Rattle.std.proofs.Common.{◌≡◌, ◌∙◌, [], ap, arith, rules, sym}
use Rattle.q_model.specs.Batches.{rows_from}
use Rattle.q_ledger.proofs.LoadLaws.{load_more}
use Rattle.q_ledger.proofs.PlaceLaws.{between_same, none_between}
use Rattle.q_ledger.specs.Grouping.{with_pending}
use Rattle.q_ledger.specs.Pending.{is_open}
use Rattle.q_ledger.specs.Worlds.{world_of}
use Rattle.q_ledger.proofs.batches.load_rows.Goals as goal

pub loop-position-init : goal.loop-position-init
loop-position-init c = let empty : c.new-rows.result.items ≡ [] = search rules in record {
  near = omega arith;
  rows = empty ∙ sym (ap (rows_from (world_of c.args.world.now) c.args.message.now []) (none_between (is_open c.args.message.now) c.args.from c.args.from c.args.message.now.recipients (omega arith)));
}

pub loop-position-preserved : goal.loop-position-preserved
loop-position-preserved c = record {
  near = omega (arith, c.loop-position-test.true);
  rows = c.in_ok-join_pending.ensures
      ∙ ap (with_pending (world_of c.args.world.now) c.args.message.now c.loop-position.position) c.loop-position.invariant.rows
      ∙ load_more (world_of c.args.world.now) c.args.message.now c.args.from c.loop-position.position c.loop-position.auto.position;
}

pub returns : goal.returns
returns c = c.loop-position.invariant.rows
    ∙ ap (rows_from (world_of c.args.world.now) c.args.message.now [])
    (between_same (is_open c.args.message.now) c.args.from c.args.to c.loop-position.position c.args.message.now.recipients c.loop-position.invariant.near c.loop-position-test.false)
