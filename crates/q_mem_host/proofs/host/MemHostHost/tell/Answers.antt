use Rattle.std.proofs.Common.{length}
use Rattle.q_host.specs.Calls.{Tells}
use Rattle.q_mem_host.proofs.Outcomes.{at_history}
use Rattle.q_mem_host.proofs.Results.{on_ok}
use Rattle.q_mem_host.proofs.Effects.{told_all}
use Rattle.q_mem_host.proofs.host.MemHostHost.tell.Goals as goal

pub returns-clause-ok : goal.returns-clause-ok
returns-clause-ok c = on_ok c.say.result (λ e. at_history (Tells c.args.bytes.now (length c.args.bytes.now)) c.args.self.now.history _ _ e (told_all c.args.self.now.history c.args.bytes.now)) c.say.ensures.done
