use Rattle.std.proofs.Common.{[]}
use Rattle.q_host.specs.Files.{with_file}
use Rattle.q_host.specs.Calls.{Changes}
use Rattle.q_mem_host.proofs.Outcomes.{at_history}
use Rattle.q_mem_host.proofs.Results.{on_ok}
use Rattle.q_mem_host.proofs.Effects.{made}
use Rattle.q_mem_host.proofs.host.MemHostHost.create.Goals as goal

pub returns-clause-ok : goal.returns-clause-ok
returns-clause-ok c = on_ok c.make.result (λ e. at_history (Changes (λ f. with_file f c.args.area c.args.name [])) c.args.self.now.history _ _ e (made c.args.self.now.history c.args.area c.args.name)) c.make.ensures.done
