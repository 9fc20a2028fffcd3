use Rattle.std.proofs.Common.{◌≡◌, List, map, Some}
use Rattle.std.specs.Prelude.{is_none, string_bytes}
use Rattle.clap.specs.Words.{fault_of, matches_of, Row}
use Rattle.q_words.specs.declared.tool.Target.{Target}
use Rattle.q_words.specs.Commands.{id_app, is_fault}
use Rattle.q_words.specs.Tools.{IsTarget, target_in}
use Rattle.q_words.proofs.AnswerLaws.{answer-err, answer-ok, is-fault, no-fault}
use Rattle.q_words.proofs.tools.read_target.Goals as goal

pub returns-in-Ok : goal.returns-in-Ok
returns-in-Ok c =
    let ws = map string_bytes c.args.words.now in
    let app = id_app c.args.name.now in
    answer-ok (is_fault app ws) _ (matches_of app ws) (λ rows. is_none (target_in rows)) (λ (rows : List Row) (target : Target). target_in rows ≡ Some target) c.some_target.result (no-fault (fault_of app ws) c.in-Ok.ensures.refused) c.in-Ok.ensures.found c.some_target.ensures

pub returns-in-Err : goal.returns-in-Err
returns-in-Err c =
    let ws = map string_bytes c.args.words.now in
    let app = id_app c.args.name.now in
    answer-err (is_fault app ws) (is_none (target_in (matches_of app ws))) (IsTarget c.args.name.now ws) c.refused.result (λ u. is-fault (fault_of app ws) c.in-Err.error c.in-Err.ensures.refused (c.refused.ensures u))
