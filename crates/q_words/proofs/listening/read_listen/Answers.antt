use Rattle.std.proofs.Common.{map, subst}
use Rattle.std.specs.Prelude.{string_bytes}
use Rattle.clap.specs.Words.{fault_of}
use Rattle.q_words.specs.Commands.{listen_app}
use Rattle.q_words.specs.Requests.{IsListen}
use Rattle.q_words.proofs.AnswerLaws.{is-fault, no-fault}
use Rattle.q_words.proofs.listening.read_listen.Goals as goal

pub returns-in-Ok : goal.returns-in-Ok
returns-in-Ok c = let ws = map string_bytes c.args.words.now in (
  no-fault (fault_of listen_app ws) c.in-Ok.ensures.refused,
  subst (λ rows. IsListen rows c.listening_in.result) c.in-Ok.ensures.found c.listening_in.ensures,
)

pub returns-in-Err : goal.returns-in-Err
returns-in-Err c = let ws = map string_bytes c.args.words.now in
    λ u. is-fault (fault_of listen_app ws) c.in-Err.error c.in-Err.ensures.refused (c.refused.ensures u)
