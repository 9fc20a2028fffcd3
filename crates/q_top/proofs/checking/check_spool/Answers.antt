use Rattle.q_top.proofs.SpoolLooks.{only_looks, check_cause, check_named, check_readable}
use Rattle.q_top.proofs.Told.{if_ok_of, on_err_of, on_ok_of}
use Rattle.q_top.proofs.checking.check_spool.Goals as goal

pub returns-clause-checks : goal.returns-clause-checks
returns-clause-checks g c t =
    let r = c.tell_check.result in
    record {
      result = r;
      is = c.check_status.ensures.exact;
      says = record {
        only = c.tell_check.ensures.only t;
        found = if_ok_of r (λ x f. f t) c.tell_check.ensures.found;
        told = on_ok_of r (λ f. f t) c.tell_check.ensures.told;
        front = on_err_of r (λ f. f t) c.tell_check.ensures.front;
      };
    }

pub returns-clause-serves : goal.returns-clause-serves
returns-clause-serves g c t b h orderly = only_looks b (g.H.Host.view c.args.host.now) (g.H.Host.view c.tell_check.new.host) h (c.tell_check.ensures.only t)

pub returns-clause-readable : goal.returns-clause-readable
returns-clause-readable g c = rw c.check_status.ensures.exact (check_readable c.tell_check.result)

pub returns-clause-named : goal.returns-clause-named
returns-clause-named g c text = rw c.check_status.ensures.exact (check_named (λ r. ⊥) text c.tell_check.result c.tell_check.ensures.named)

pub returns-clause-host : goal.returns-clause-host
returns-clause-host g c = rw c.check_status.ensures.exact (check_cause (g.H.Host.faults c.args.host.now) (g.H.Host.faults c.tell_check.new.host) c.tell_check.result c.tell_check.ensures.cause)
