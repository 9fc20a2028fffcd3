use Rattle.std.proofs.Common.{◌≡◌, List, map, Some}
use Rattle.std.specs.Prelude.{is_none, string_bytes}
use Rattle.clap.specs.Words.{fault_of, matches_of, Row, Text}
use Rattle.q_words.specs.Commands.{domain_app, is_fault}
use Rattle.q_words.specs.Tools.{domain_in, IsDomain}
use Rattle.q_words.proofs.AnswerLaws.{answer-err, answer-ok, is-fault, no-fault}
use Rattle.q_words.proofs.tools.read_domain.Goals as goal

pub returns-in-Ok : goal.returns-in-Ok
returns-in-Ok c = let ws = map string_bytes c.args.words.now in
    answer-ok (is_fault domain_app ws) _ (matches_of domain_app ws) (λ rows. is_none (domain_in rows)) (λ (rows : List Row) (domain : Text). domain_in rows ≡ Some domain) c.some_domain.result (no-fault (fault_of domain_app ws) c.in-Ok.ensures.refused) c.in-Ok.ensures.found c.some_domain.ensures

pub returns-in-Err : goal.returns-in-Err
returns-in-Err c = let ws = map string_bytes c.args.words.now in
    answer-err (is_fault domain_app ws) (is_none (domain_in (matches_of domain_app ws))) (IsDomain ws) c.refused.result (λ u. is-fault (fault_of domain_app ws) c.in-Err.error c.in-Err.ensures.refused (c.refused.ensures u))
