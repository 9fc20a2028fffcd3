use Rattle.q_audit.proofs.TextLaws.{lawful_told}
use Rattle.q_transport.specs.Routing.{table_of}
use Rattle.q_audit.proofs.report.lawful.Goals as goal

pub returns : goal.returns
returns c =
    lawful_told c.new-text.result.items c.tell_count.new.text.items c.tell_jobs.new.text.items (table_of c.args.table.now) c.args.count c.args.jobs.now
    c.new-text.ensures.items c.in_ok-tell_count.ensures c.in_ok-tell_jobs.ensures
