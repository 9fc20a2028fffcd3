use Rattle.std.proofs.Common.{◌∙◌}
use Rattle.q_check.proofs.CheckTexts.{one_check}
use Rattle.q_check.proofs.ToldLaws.{err_has, quiet-front, quiet-more, quiet-none, quiet-only, quiet-told}
use Rattle.q_check.proofs.checking.tell_check.Goals as goal

pub returns-in_err-found-clause-front : goal.returns-in_err-found-clause-front
returns-in_err-found-clause-front g c =
    let view = g.H.Host.view in
    err_has c.from_residual.result (λ t text is. quiet-none (view c.args.host.now) (view c.add_all.new.host) (g.met.H.Host.only_now c.args.host.now) (c.in_err-found.ensures.stays t) text)

pub returns-in_err-found-clause-only : goal.returns-in_err-found-clause-only
returns-in_err-found-clause-only g c t =
    let view = g.H.Host.view in
    quiet-only (view c.args.host.now) (view c.add_all.new.host) (g.met.H.Host.only_now c.args.host.now) (c.in_err-found.ensures.stays t)

pub returns-in_err-tell_text-clause-front : goal.returns-in_err-tell_text-clause-front
returns-in_err-tell_text-clause-front g c =
    let view = g.H.Host.view in
    let u = view c.args.host.now in
    let gathered = c.as_slice.result.now in
    err_has c.from_residual-in_err-tell_text.result (λ t text is.
    quiet-front u (view c.add_all.new.host) (g.met.H.Host.only_now c.args.host.now) (c.in_ok-found.ensures.stays t) (view c.tell_text.new.host) gathered text
    (c.as_slice.ensures.value ∙ one_check u.files c.add_all.new.text.items text (c.in_ok-found.ensures.text t) is) (c.in_err-tell_text.ensures.front t))

pub returns-in_err-tell_text-clause-only : goal.returns-in_err-tell_text-clause-only
returns-in_err-tell_text-clause-only g c t =
    let view = g.H.Host.view in
    quiet-more (view c.args.host.now) (view c.add_all.new.host) (g.met.H.Host.only_now c.args.host.now) (c.in_ok-found.ensures.stays t) (view c.tell_text.new.host) (c.tell_text.ensures.only t)

pub returns-clause-told : goal.returns-clause-told
returns-clause-told g c t =
    let view = g.H.Host.view in (
      c.add_all.new.text.items,
      c.in_ok-found.ensures.text t,
      quiet-told (view c.args.host.now) (view c.add_all.new.host) (g.met.H.Host.only_now c.args.host.now) (c.in_ok-found.ensures.stays t) (view c.tell_text.new.host) c.as_slice.result.now c.add_all.new.text.items
          c.as_slice.ensures.value (c.in_ok-tell_text.ensures.told t),
    )

pub returns-clause-only : goal.returns-clause-only
returns-clause-only g c t =
    let view = g.H.Host.view in
    quiet-more (view c.args.host.now) (view c.add_all.new.host) (g.met.H.Host.only_now c.args.host.now) (c.in_ok-found.ensures.stays t) (view c.tell_text.new.host) (c.tell_text.ensures.only t)
