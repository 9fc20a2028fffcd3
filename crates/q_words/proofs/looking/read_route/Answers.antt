use Rattle.std.proofs.Common.{◌≡◌, List, map, Some}
use Rattle.std.specs.Prelude.{is_none, string_bytes}
use Rattle.clap.specs.Words.{fault_of, matches_of, Row, Text}
use Rattle.q_words.specs.Commands.{is_fault, route_app}
use Rattle.q_words.specs.Looks.{addresses_in, IsRoute}
use Rattle.q_words.proofs.AnswerLaws.{answer-err, answer-ok, is-fault, no-fault}
use Rattle.q_words.proofs.looking.read_route.Goals as goal

pub returns-in-Ok : goal.returns-in-Ok
returns-in-Ok c = let ws = map string_bytes c.args.words.now in
    answer-ok (is_fault route_app ws) _ (matches_of route_app ws) (λ rows. is_none (addresses_in rows)) (λ (rows : List Row) (list : List Text). addresses_in rows ≡ Some list) c.route_in.result (no-fault (fault_of route_app ws) c.in-Ok.ensures.refused) c.in-Ok.ensures.found c.route_in.ensures

pub returns-in-Err : goal.returns-in-Err
returns-in-Err c = let ws = map string_bytes c.args.words.now in
    answer-err (is_fault route_app ws) (is_none (addresses_in (matches_of route_app ws))) (IsRoute ws) c.refused.result (λ u. is-fault (fault_of route_app ws) c.in-Err.error c.in-Err.ensures.refused (c.refused.ensures u))
