use Rattle.std.proofs.Common.{length}
use Rattle.q_host.specs.Calls.{Writes}
use Rattle.q_mem_host.proofs.Outcomes.{at_history, wrote_now, wrote_nothing}
use Rattle.q_mem_host.proofs.Results.{on_ok, on_err}
use Rattle.q_mem_host.proofs.host.MemHostHost.write_at.Goals as goal

pub returns-clause-ok : goal.returns-clause-ok
returns-clause-ok c = on_ok c.overwrite.result (λ e. at_history (Writes c.args.area c.args.name c.args.at c.args.bytes.now (length c.args.bytes.now)) c.args.self.now.history _ _ e
    (wrote_now c.args.self.now.history c.args.area c.args.name c.args.at c.args.bytes.now c.requires)) c.overwrite.ensures.done

pub returns-clause-err : goal.returns-clause-err
returns-clause-err c = on_err c.overwrite.result (λ e.
    let w = wrote_nothing c.args.self.now.history c.args.area c.args.name c.args.at c.args.bytes.now c.requires in
    (w.0, w.1, at_history (Writes c.args.area c.args.name c.args.at c.args.bytes.now w.0) c.args.self.now.history _ _ e w.2)) c.overwrite.ensures.planned.nothing
