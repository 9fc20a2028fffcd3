use Rattle.std.proofs.Common.{◌∙◌, ap, sym}
use Rattle.std.specs.Prelude.{is_none}
use Rattle.q_restart.proofs.BootNames.{none-is, other-here, other-none}
use Rattle.q_restart.proofs.judging.boot_damage.Goals as goal

pub returns-then-is_none-clause-is : goal.returns-then-is_none-clause-is
returns-then-is_none-clause-is c = other-here c.args.names.now c.loop-name.name-index c.name-item.result c.loop-name-test.true c.name-item.is c.loop-name.invariant.none
    (ap is_none (sym c.generation_of.ensures.spelt) ∙ none-is c.generation_of.result c.is_none.result c.is_none.ensures ∙ c.if-is_none.true)

pub loop-name-preserved : goal.loop-name-preserved
loop-name-preserved c = record {
  none = other-none c.args.names.now c.loop-name.name-index c.name-item.result c.loop-name-test.true c.name-item.is c.loop-name.invariant.none
      (ap is_none (sym c.generation_of.ensures.spelt) ∙ none-is c.generation_of.result c.is_none.result c.is_none.ensures ∙ c.if-is_none.false);
}
