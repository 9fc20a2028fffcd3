use Rattle.std.proofs.Common.{map}
use Rattle.std.specs.Prelude.{string_bytes}
use Rattle.clap.specs.Words.{fault_of, matches_of}
use Rattle.q_words.specs.Commands.{is_fault, submit_app}
use Rattle.q_words.specs.Requests.{IsSubmit}
use Rattle.q_words.specs.Usages.{has_no_address}
use Rattle.q_words.proofs.AnswerLaws.{answer-err, answer-ok, is-fault, no-fault}
use Rattle.q_words.proofs.submission.read_submission.Goals as goal

pub returns-in-Ok : goal.returns-in-Ok
returns-in-Ok c = let ws = map string_bytes c.args.words.now in
    answer-ok (is_fault submit_app ws) _ (matches_of submit_app ws) has_no_address IsSubmit c.submission_in.result (no-fault (fault_of submit_app ws) c.in-Ok.ensures.refused) c.in-Ok.ensures.found c.submission_in.ensures

pub returns-in-Err : goal.returns-in-Err
returns-in-Err c = let ws = map string_bytes c.args.words.now in
    answer-err (is_fault submit_app ws) (has_no_address (matches_of submit_app ws)) (IsSubmit (matches_of submit_app ws)) c.refused.result (λ u. is-fault (fault_of submit_app ws) c.in-Err.error c.in-Err.ensures.refused (c.refused.ensures u))
