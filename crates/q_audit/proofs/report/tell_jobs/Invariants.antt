use Rattle.std.proofs.Common.{◌≡◌, ◌++◌, take}
use Rattle.std.specs.Prelude.{flat_map}
use Rattle.q_audit.specs.ReportTexts.{job_line}
use Rattle.q_audit.specs.Tallied.{delay_of}
use Rattle.q_transport.specs.Routing.{table_of}
use Rattle.q_audit.proofs.report.tell_jobs.Given as goal

abbrev pub invariant-loop-job : goal.invariant-loop-job
invariant-loop-job l = l.text.items
    ≡ l.initial.text.items ++ flat_map (λ j. job_line (table_of l.table) (delay_of j)) (take l.job-index l.jobs)
