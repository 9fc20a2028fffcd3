use Rattle.std.proofs.Common.{◌∙◌}
use Rattle.q_host.specs.View.{now}
use Rattle.q_logfile.proofs.WritingLaws.{left_records, stored_records}
use Rattle.q_logfile.proofs.writing.store_log.Goals as goal

pub returns-clause-again : goal.returns-clause-again
returns-clause-again g c t =
    stored_records _ c.args.area c.args.name c.args.failures.now c.in_ok-log.ensures.lawful c.deref.result.now (c.deref.ensures.value ∙ c.in_ok-log.ensures.written)
    (now (g.H.Host.view c.args.host.now)) (now (g.H.Host.view c.store_file.new.host)) (c.in_ok-store_file.ensures.ok t).reads

pub returns-clause-left : goal.returns-clause-left
returns-clause-left g c t =
    left_records _ c.args.area c.args.name c.args.failures.now c.in_ok-log.ensures.lawful c.deref.result.now (c.deref.ensures.value ∙ c.in_ok-log.ensures.written)
    (g.H.Host.view c.args.host.now) (g.H.Host.view c.store_file.new.host) (c.in_ok-store_file.ensures.ok t)
