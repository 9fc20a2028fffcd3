use Rattle.std.proofs.Common.{◌≡◌, ◌<◌, ℕ, true, zero, suc, arith, refl}
use Rattle.std.specs.List.{slice_index_or}
use Rattle.std.specs.Prelude.{bytes_eq, codes, length}
use Rattle.std.proofs.lemmas.Result.{IfOk-weaker}
use Rattle.clap.specs.Words.{Rule}
use Rattle.q_words.proofs.GivenLaws.{default_number, own_name, TakesNumber}
use Rattle.q_words.specs.Commands.{count_rule, listen_app, port_rule, rests_rule}
use Rattle.q_words.proofs.commands.listen_matches.Goals as goal

takes_port : TakesNumber listen_app.top.rules 0 port_rule 1 65535
takes_port = record {
  below = omega arith;
  is = λ e. refl;
  set = refl;
  one_value = refl;
  parser = refl;
  named = λ is. absurd cc;
  own = own_name (codes "port") refl refl;
  unique = λ j e low same. only j e low same;
}
  where
    only : (j : ℕ) (e : Rule) → j < length listen_app.top.rules → bytes_eq (slice_index_or listen_app.top.rules j e).id (codes "port") ≡ true → j ≡ 0
    only zero e low same = refl
    only (suc zero) e low same = absurd cc
    only (suc (suc zero)) e low same = absurd cc
    only (suc (suc (suc n))) e low same = absurd (omega (arith, low))

takes_count : TakesNumber listen_app.top.rules 1 count_rule 1 1000000
takes_count = record {
  below = omega arith;
  is = λ e. refl;
  set = refl;
  one_value = refl;
  parser = refl;
  named = λ is. absurd cc;
  own = own_name (codes "count") refl refl;
  unique = λ j e low same. only j e low same;
}
  where
    only : (j : ℕ) (e : Rule) → j < length listen_app.top.rules → bytes_eq (slice_index_or listen_app.top.rules j e).id (codes "count") ≡ true → j ≡ 1
    only zero e low same = absurd cc
    only (suc zero) e low same = refl
    only (suc (suc zero)) e low same = absurd cc
    only (suc (suc (suc n))) e low same = absurd (omega (arith, low))

takes_rests : TakesNumber listen_app.top.rules 2 (rests_rule 114) 0 1000000000
takes_rests = record {
  below = omega arith;
  is = λ e. refl;
  set = refl;
  one_value = refl;
  parser = refl;
  named = λ is. absurd cc;
  own = own_name (codes "rests") refl refl;
  unique = λ j e low same. only j e low same;
}
  where
    only : (j : ℕ) (e : Rule) → j < length listen_app.top.rules → bytes_eq (slice_index_or listen_app.top.rules j e).id (codes "rests") ≡ true → j ≡ 2
    only zero e low same = absurd cc
    only (suc zero) e low same = absurd cc
    only (suc (suc zero)) e low same = refl
    only (suc (suc (suc n))) e low same = absurd (omega (arith, low))

pub returns-clause-port : goal.returns-clause-port
returns-clause-port c = IfOk-weaker c.try_get_matches_from.result _ _
    (λ m parsed. default_number c.in_ok-command.command m parsed listen_app c.in_ok-command.ensures refl refl refl 0 port_rule 1 65535 takes_port (omega arith))
    c.try_get_matches_from.ensures.parsed

pub returns-clause-count : goal.returns-clause-count
returns-clause-count c = IfOk-weaker c.try_get_matches_from.result _ _
    (λ m parsed. default_number c.in_ok-command.command m parsed listen_app c.in_ok-command.ensures refl refl refl 1 count_rule 1 1000000 takes_count (omega arith))
    c.try_get_matches_from.ensures.parsed

pub returns-clause-rests : goal.returns-clause-rests
returns-clause-rests c = IfOk-weaker c.try_get_matches_from.result _ _
    (λ m parsed. default_number c.in_ok-command.command m parsed listen_app c.in_ok-command.ensures refl refl refl 2 (rests_rule 114) 0 1000000000 takes_rests (omega arith))
    c.try_get_matches_from.ensures.parsed
