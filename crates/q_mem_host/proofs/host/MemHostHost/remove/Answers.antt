use Rattle.q_host.specs.Files.{without_file}
use Rattle.q_host.specs.Calls.{Changes}
use Rattle.q_mem_host.proofs.Outcomes.{at_history}
use Rattle.q_mem_host.proofs.Results.{on_ok}
use Rattle.q_mem_host.proofs.Effects.{removed}
use Rattle.q_mem_host.proofs.host.MemHostHost.remove.Goals as goal

pub returns-clause-ok : goal.returns-clause-ok
returns-clause-ok c = on_ok c.discard.result (λ e. at_history (Changes (λ f. without_file f c.args.area c.args.name)) c.args.self.now.history _ _ e (removed c.args.self.now.history c.args.area c.args.name)) c.discard.ensures.done
