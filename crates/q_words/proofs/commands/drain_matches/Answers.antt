use Rattle.std.proofs.Common.{arith, refl}
use Rattle.std.specs.Prelude.{codes}
use Rattle.std.proofs.lemmas.Result.{IfOk-weaker}
use Rattle.q_words.proofs.GivenLaws.{default_number, own_name, TakesNumber}
use Rattle.q_words.specs.Commands.{drain_app, rests_rule}
use Rattle.q_words.proofs.commands.drain_matches.Goals as goal

takes_rests : TakesNumber drain_app.top.rules 0 (rests_rule 110) 0 1000000000
takes_rests = record {
  below = omega arith;
  is = λ e. refl;
  set = refl;
  one_value = refl;
  parser = refl;
  named = λ is. absurd cc;
  own = own_name (codes "rests") refl refl;
  unique = λ j e low same. omega (arith, low);
}

pub returns-clause-rests : goal.returns-clause-rests
returns-clause-rests c = IfOk-weaker c.try_get_matches_from.result _ _
    (λ m parsed. default_number c.in_ok-command.command m parsed drain_app c.in_ok-command.ensures refl refl refl 0 (rests_rule 110) 0 1000000000 takes_rests (omega arith))
    c.try_get_matches_from.ensures.parsed
