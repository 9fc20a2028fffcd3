use Rattle.std.proofs.Common.{◌≡◌, refl}
use Rattle.q_words.specs.declared.request.Request.TheVariants.{Show}
use Rattle.q_top.proofs.SpoolLooks.{only_looks, show_cause, show_named, show_readable}
use Rattle.q_top.proofs.Told.{if_ok_of, on_err_of, on_ok_of}
use Rattle.q_top.proofs.showing.show_message.Goals as goal

pub returns-clause-shows : goal.returns-clause-shows
returns-clause-shows g c t =
    let r = c.tell_message.result in
    record {
      result = r;
      is = c.show_status.ensures.exact;
      says = record {
        only = c.tell_message.ensures.only t;
        found = if_ok_of r (λ x f. f t) c.tell_message.ensures.found;
        told = on_ok_of r (λ f. f t) c.tell_message.ensures.told;
        front = on_err_of r (λ f. f t) c.tell_message.ensures.front;
      };
    }

pub returns-clause-serves : goal.returns-clause-serves
returns-clause-serves g c t b h orderly = only_looks b (g.H.Host.view c.args.host.now) (g.H.Host.view c.tell_message.new.host) h (c.tell_message.ensures.only t)

pub returns-clause-readable : goal.returns-clause-readable
returns-clause-readable g c = rw c.show_status.ensures.exact (show_readable c.tell_message.result)

pub returns-clause-named : goal.returns-clause-named
returns-clause-named g c text = rw c.show_status.ensures.exact (show_named (λ r. r ≡ Show c.args.id) text c.args.id refl c.tell_message.result)

pub returns-clause-host : goal.returns-clause-host
returns-clause-host g c = rw c.show_status.ensures.exact (show_cause (g.H.Host.faults c.args.host.now) (g.H.Host.faults c.tell_message.new.host) c.tell_message.result c.tell_message.ensures.cause)
