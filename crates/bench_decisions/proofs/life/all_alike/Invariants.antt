use Rattle.std.proofs.Common.{◌≡◌, true}
use Rattle.std.specs.List.{list_all}
use Rattle.q_core.specs.Hearing.{has_log_code}
use Rattle.bench_decisions.proofs.life.all_alike.Given as goal

abbrev pub invariant-loop : goal.invariant-loop
invariant-loop l = list_all has_log_code l.outcomes ≡ true
