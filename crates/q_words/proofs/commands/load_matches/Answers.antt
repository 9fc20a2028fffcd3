use Rattle.std.proofs.Common.{arith, refl}
use Rattle.std.specs.Prelude.{codes}
use Rattle.std.proofs.lemmas.Result.{IfOk-weaker}
use Rattle.q_words.proofs.GivenLaws.{own_name, required_number, TakesNumber}
use Rattle.q_words.specs.Commands.{load_app, mails_rule}
use Rattle.q_words.proofs.commands.load_matches.Goals as goal

takes_mails : TakesNumber load_app.top.rules 0 mails_rule 1 2000
takes_mails = record {
  below = omega arith;
  is = λ e. refl;
  set = refl;
  one_value = refl;
  parser = refl;
  named = λ is. absurd cc;
  own = own_name (codes "mails") refl refl;
  unique = λ j e low same. omega (arith, low);
}

pub returns-clause-mails : goal.returns-clause-mails
returns-clause-mails c = IfOk-weaker c.try_get_matches_from.result _ _
    (λ m parsed. required_number c.in_ok-command.command m parsed load_app c.in_ok-command.ensures refl refl refl 0 mails_rule 1 2000 takes_mails refl refl)
    c.try_get_matches_from.ensures.parsed
