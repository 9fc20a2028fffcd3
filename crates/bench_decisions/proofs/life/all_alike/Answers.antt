use Rattle.std.proofs.Common.{◌≡◌, ◌∙◌, ◌∷◌, [], ap, refl, true}
use Rattle.std.proofs.lemmas.Bool.{and_from}
use Rattle.std.proofs.lemmas.List.Folds.{list_all-append}
use Rattle.std.specs.List.{list_all}
use Rattle.q_core.specs.Hearing.{has_log_code}
use Rattle.bench_decisions.proofs.life.all_alike.Goals as goal

pub loop-preserved : goal.loop-preserved
loop-preserved c =
    ap (list_all has_log_code) c.in_ok-push.ensures.ok
    ∙ list_all-append has_log_code c.loop.outcomes (c.args.outcome ∷ [])
    ∙ and_from (list_all has_log_code c.loop.outcomes) (list_all has_log_code (c.args.outcome ∷ [])) c.loop.invariant (and_from (has_log_code c.args.outcome) true c.requires refl)
