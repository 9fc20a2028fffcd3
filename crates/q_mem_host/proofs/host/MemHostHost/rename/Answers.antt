use Rattle.q_host.specs.Files.{moved}
use Rattle.q_host.specs.Calls.{Changes}
use Rattle.q_mem_host.proofs.Outcomes.{at_history}
use Rattle.q_mem_host.proofs.Results.{on_ok}
use Rattle.q_mem_host.proofs.Effects.{renamed}
use Rattle.q_mem_host.proofs.host.MemHostHost.rename.Goals as goal

pub returns-clause-ok : goal.returns-clause-ok
returns-clause-ok c = on_ok c.relocate.result (λ e. at_history (Changes (λ f. moved f c.args.area c.args.name c.args.to c.args.new)) c.args.self.now.history _ _ e (renamed c.args.self.now.history c.args.area c.args.name c.args.to c.args.new c.requires.differ)) c.relocate.ensures.done
