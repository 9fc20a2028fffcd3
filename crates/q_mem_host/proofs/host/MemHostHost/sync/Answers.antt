use Rattle.q_host.specs.Calls.{Syncs}
use Rattle.q_mem_host.proofs.Outcomes.{at_history, synced_now}
use Rattle.q_mem_host.proofs.Results.{on_ok}
use Rattle.q_mem_host.proofs.host.MemHostHost.sync.Goals as goal

pub returns-clause-ok : goal.returns-clause-ok
returns-clause-ok c = on_ok c.sync_file.result (λ e. at_history (Syncs c.args.area c.args.name) c.args.self.now.history _ _ e (synced_now c.args.self.now.history c.args.area c.args.name c.requires)) c.sync_file.ensures.done
