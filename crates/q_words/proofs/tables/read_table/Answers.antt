use Rattle.std.proofs.Common.{map}
use Rattle.std.specs.Prelude.{string_bytes}
use Rattle.clap.specs.Words.{fault_of, matches_of}
use Rattle.q_words.specs.Commands.{is_fault, qshape_app}
use Rattle.q_words.specs.Requests.{IsTableRequest}
use Rattle.q_words.specs.Usages.{has_no_queue}
use Rattle.q_words.proofs.AnswerLaws.{answer-err, answer-ok, is-fault, no-fault}
use Rattle.q_words.proofs.tables.read_table.Goals as goal

pub returns-in-Ok : goal.returns-in-Ok
returns-in-Ok c = let ws = map string_bytes c.args.words.now in
    answer-ok (is_fault qshape_app ws) _ (matches_of qshape_app ws) has_no_queue IsTableRequest c.table_in.result (no-fault (fault_of qshape_app ws) c.in-Ok.ensures.refused) c.in-Ok.ensures.found c.table_in.ensures

pub returns-in-Err : goal.returns-in-Err
returns-in-Err c = let ws = map string_bytes c.args.words.now in
    answer-err (is_fault qshape_app ws) (has_no_queue (matches_of qshape_app ws)) (IsTableRequest (matches_of qshape_app ws)) c.refused.result (λ u. is-fault (fault_of qshape_app ws) c.in-Err.error c.in-Err.ensures.refused (c.refused.ensures u))
