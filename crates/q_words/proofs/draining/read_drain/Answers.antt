use Rattle.std.proofs.Common.{map, subst}
use Rattle.std.specs.Prelude.{string_bytes}
use Rattle.clap.specs.Words.{fault_of}
use Rattle.q_words.specs.Commands.{drain_app}
use Rattle.q_words.specs.Requests.{IsDrain}
use Rattle.q_words.proofs.AnswerLaws.{is-fault, no-fault}
use Rattle.q_words.proofs.draining.read_drain.Goals as goal

pub returns-in-Ok : goal.returns-in-Ok
returns-in-Ok c = let ws = map string_bytes c.args.words.now in (
  no-fault (fault_of drain_app ws) c.in-Ok.ensures.refused,
  subst (λ rows. IsDrain rows c.drain_in.result) c.in-Ok.ensures.found c.drain_in.ensures,
)

pub returns-in-Err : goal.returns-in-Err
returns-in-Err c = let ws = map string_bytes c.args.words.now in
    λ u. is-fault (fault_of drain_app ws) c.in-Err.error c.in-Err.ensures.refused (c.refused.ensures u)
