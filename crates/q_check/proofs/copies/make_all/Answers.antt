use Rattle.q_check.proofs.CopyLaws.{names-more, names-none}
use Rattle.q_check.proofs.copies.make_all.Goals as goal

pub loop-name-init : goal.loop-name-init
loop-name-init g c = record { adds = λ t. names-none c.args.area (g.M.Host.view c.args.copy.now).files }

pub loop-name-preserved : goal.loop-name-preserved
loop-name-preserved g c =
    let view = g.M.Host.view in
    record {
      adds = λ t. names-more c.args.area c.args.names.now c.loop-name.name-index c.name-item.result (view c.args.copy.now).files (view c.loop-name.copy).files (view c.make.new.copy).files
          c.loop-name-test.true c.name-item.is (c.in_ok-make.ensures t) (c.loop-name.invariant.adds t);
    }
