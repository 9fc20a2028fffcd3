use Rattle.std.proofs.Common.{◌∙◌, [], List, subst, ℕ}
use Rattle.std.proofs.lemmas.Result.{on_err_weaker, on_ok_weaker}
use Rattle.q_telling.proofs.TellingLaws.{front_none, front_on, only_none, only_on, tells_none, tells_on}
use Rattle.q_telling.specs.Telling.{TellsFront, TellsMore}
use Rattle.q_views.specs.Metrics.{status_text}
use Rattle.q_views.proofs.status.tell_status.Goals as goal

pub returns-clause-told : goal.returns-clause-told
returns-clause-told g c = on_ok_weaker c.tell_text.result (λ told t b stands.
    let u = g.H.Host.view c.args.host.now in
    let v = g.H.Host.view c.status_text.new.host in
    let x = g.H.Host.view c.tell_text.new.host in
    let none = tells_none u v (g.met.H.Host.only_now c.args.host.now) (c.in-Ok.ensures.stays t) in
    subst (λ (text : List ℕ). TellsMore text (g.H.Host.view c.args.host.now) (g.H.Host.view c.tell_text.new.host)) (c.as_slice.ensures.value ∙ c.in-Ok.ensures.text t b stands)
    (tells_on [] c.as_slice.result.now u v x none (told t)))
    c.tell_text.ensures.told

pub returns-clause-front : goal.returns-clause-front
returns-clause-front g c = on_err_weaker c.tell_text.result (λ front t b stands.
    let u = g.H.Host.view c.args.host.now in
    let v = g.H.Host.view c.status_text.new.host in
    let x = g.H.Host.view c.tell_text.new.host in
    let none = tells_none u v (g.met.H.Host.only_now c.args.host.now) (c.in-Ok.ensures.stays t) in
    subst (λ (text : List ℕ). TellsFront text (g.H.Host.view c.args.host.now) (g.H.Host.view c.tell_text.new.host)) (c.as_slice.ensures.value ∙ c.in-Ok.ensures.text t b stands)
    (front_on [] c.as_slice.result.now u v x none (front t)))
    c.tell_text.ensures.front

pub returns-in-Err-clause-front : goal.returns-in-Err-clause-front
returns-in-Err-clause-front g c t b stands =
    let u = g.H.Host.view c.args.host.now in
    let v = g.H.Host.view c.status_text.new.host in
    front_none (status_text b) u v (tells_none u v (g.met.H.Host.only_now c.args.host.now) (c.in-Err.ensures.stays t))

pub returns-in-Err-clause-only : goal.returns-in-Err-clause-only
returns-in-Err-clause-only g c t =
    only_none (g.H.Host.view c.args.host.now) (g.H.Host.view c.status_text.new.host) (g.met.H.Host.only_now c.args.host.now) (c.in-Err.ensures.stays t)

pub returns-clause-only : goal.returns-clause-only
returns-clause-only g c t =
    let u = g.H.Host.view c.args.host.now in
    let v = g.H.Host.view c.status_text.new.host in
    only_on u v (g.H.Host.view c.tell_text.new.host) (only_none u v (g.met.H.Host.only_now c.args.host.now) (c.in-Ok.ensures.stays t)) (c.tell_text.ensures.only t)
