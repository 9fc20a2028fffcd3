use Rattle.q_check.specs.QueueTexts.{IsFileText}
use Rattle.q_check.proofs.TextLists.{texts-more}
use Rattle.q_check.proofs.queues.add_names.Goals as goal

pub loop-name-preserved : goal.loop-name-preserved
loop-name-preserved c =
    let line = c.in_ok-add_name.ensures in
    record {
      adds = texts-more (IsFileText c.args.look c.args.area) c.args.names.now c.loop-name.name-index c.name-item.result c.args.text.now.items c.loop-name.text.items c.add_name.new.text.items line.0
          c.loop-name-test.true c.name-item.is line.1 line.2 c.loop-name.invariant.adds;
    }
