use Rattle.std.proofs.Common.{refl}
use Rattle.q_load.specs.Lives.{behind_all}
use Rattle.q_load.specs.Loads.{begun, behind, first}
use Rattle.q_load.proofs.Bounds.{first_unended}
use Rattle.q_load.proofs.Hearing.{sums_up}
use Rattle.q_load.proofs.Places.{ok_weaker}
use Rattle.q_load.proofs.Taken.{first_taken}
use Rattle.q_mem_host.specs.Left.{view_of}
use Rattle.q_load.proofs.loading.run.Goals as goal

pub hear-requires-clause-accepted : goal.hear-requires-clause-accepted
hear-requires-clause-accepted c = (begun, c.in_ok-begun.ensures.begins, refl)

pub hear_all-requires-clause-stands : goal.hear_all-requires-clause-stands
hear_all-requires-clause-stands c =
    (behind begun first, c.in_ok-timed.ensures.hears begun c.in_ok-begun.ensures.begins, first_unended, first_taken)

pub returns : goal.returns
returns c = ok_weaker c.conclude.result (λ s h.
    let timed = c.in_ok-timed.ensures.hears begun c.in_ok-begun.ensures.begins in
    let all = c.in_ok-heard.ensures.hears (behind begun first) timed in
    sums_up c.args.mails c.in_ok-heard.heard (view_of c.hear_all.new.host) s all (h (behind_all (behind begun first) all.heard) all.stands)) c.conclude.ensures
