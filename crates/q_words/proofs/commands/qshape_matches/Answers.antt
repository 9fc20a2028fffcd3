use Rattle.std.proofs.Common.{◌≡◌, ◌<◌, ℕ, true, zero, suc, arith, refl}
use Rattle.std.specs.List.{slice_index_or}
use Rattle.std.specs.Prelude.{bytes_eq, codes, length}
use Rattle.std.proofs.lemmas.Result.{IfOk-weaker}
use Rattle.clap.specs.Words.{Rule}
use Rattle.q_words.proofs.GivenLaws.{default_number, own_name, TakesNumber}
use Rattle.q_words.specs.Commands.{buckets_rule, minutes_rule, qshape_app}
use Rattle.q_words.proofs.commands.qshape_matches.Goals as goal

takes_buckets : TakesNumber qshape_app.top.rules 2 buckets_rule 2 20
takes_buckets = record {
  below = omega arith;
  is = λ e. refl;
  set = refl;
  one_value = refl;
  parser = refl;
  named = λ is. absurd cc;
  own = own_name (codes "buckets") refl refl;
  unique = λ j e low same. only j e low same;
}
  where
    only : (j : ℕ) (e : Rule) → j < length qshape_app.top.rules → bytes_eq (slice_index_or qshape_app.top.rules j e).id (codes "buckets") ≡ true → j ≡ 2
    only zero e low same = absurd cc
    only (suc zero) e low same = absurd cc
    only (suc (suc zero)) e low same = refl
    only (suc (suc (suc zero))) e low same = absurd cc
    only (suc (suc (suc (suc zero)))) e low same = absurd cc
    only (suc (suc (suc (suc (suc n))))) e low same = absurd (omega (arith, low))

takes_minutes : TakesNumber qshape_app.top.rules 3 minutes_rule 1 10000
takes_minutes = record {
  below = omega arith;
  is = λ e. refl;
  set = refl;
  one_value = refl;
  parser = refl;
  named = λ is. absurd cc;
  own = own_name (codes "minutes") refl refl;
  unique = λ j e low same. only j e low same;
}
  where
    only : (j : ℕ) (e : Rule) → j < length qshape_app.top.rules → bytes_eq (slice_index_or qshape_app.top.rules j e).id (codes "minutes") ≡ true → j ≡ 3
    only zero e low same = absurd cc
    only (suc zero) e low same = absurd cc
    only (suc (suc zero)) e low same = absurd cc
    only (suc (suc (suc zero))) e low same = refl
    only (suc (suc (suc (suc zero)))) e low same = absurd cc
    only (suc (suc (suc (suc (suc n))))) e low same = absurd (omega (arith, low))

pub returns-clause-buckets : goal.returns-clause-buckets
returns-clause-buckets c = IfOk-weaker c.try_get_matches_from.result _ _
    (λ m parsed. default_number c.in_ok-command.command m parsed qshape_app c.in_ok-command.ensures refl refl refl 2 buckets_rule 2 20 takes_buckets (omega arith))
    c.try_get_matches_from.ensures.parsed

pub returns-clause-minutes : goal.returns-clause-minutes
returns-clause-minutes c = IfOk-weaker c.try_get_matches_from.result _ _
    (λ m parsed. default_number c.in_ok-command.command m parsed qshape_app c.in_ok-command.ensures refl refl refl 3 minutes_rule 1 10000 takes_minutes (omega arith))
    c.try_get_matches_from.ensures.parsed
