use Rattle.std.proofs.Common.{◌≡◌, List, map, Some}
use Rattle.std.specs.Prelude.{codes, is_none, string_bytes}
use Rattle.clap.specs.Words.{App, fault_of, matches_of, Row}
use Rattle.q_words.specs.declared.tool.Chosen.{Chosen}
use Rattle.q_words.specs.Commands.{id_app, is_fault}
use Rattle.q_words.specs.Tools.{chosen_in, IsChosen}
use Rattle.q_words.proofs.AnswerLaws.{answer-err, answer-ok, is-fault, no-fault}
use Rattle.q_words.proofs.tools.read_chosen.Goals as goal

abbrev app : App
app = id_app (codes "expire")

pub returns-in-Ok : goal.returns-in-Ok
returns-in-Ok c = let ws = map string_bytes c.args.words.now in
    answer-ok (is_fault app ws) _ (matches_of app ws) (λ rows. is_none (chosen_in rows)) (λ (rows : List Row) (chosen : Chosen). chosen_in rows ≡ Some chosen) c.some_chosen.result (no-fault (fault_of app ws) c.in-Ok.ensures.refused) c.in-Ok.ensures.found c.some_chosen.ensures

pub returns-in-Err : goal.returns-in-Err
returns-in-Err c = let ws = map string_bytes c.args.words.now in
    answer-err (is_fault app ws) (is_none (chosen_in (matches_of app ws))) (IsChosen ws) c.refused.result (λ u. is-fault (fault_of app ws) c.in-Err.error c.in-Err.ensures.refused (c.refused.ensures u))
