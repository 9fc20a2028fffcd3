use Rattle.std.proofs.Common.{◌∙◌, refl}
use Rattle.std.proofs.lemmas.Result.{on_err_weaker, on_ok_weaker}
use Rattle.q_listing.proofs.ToldLaws.{err_has}
use Rattle.q_telling.proofs.TellingLaws.{only_none, only_on, tells_none}
use Rattle.q_show.proofs.ShownLaws.{message_begins, message_stops, message_told, message_waits}
use Rattle.q_show.proofs.show.tell_found.Goals as goal

pub returns-clause-told : goal.returns-clause-told
returns-clause-told g c = on_ok_weaker c.tell_content.result (λ tell t m is.
    let u = g.H.Host.view c.args.host.now in
    let v = g.H.Host.view c.lines_of.new.host in
    let w = g.H.Host.view c.tell_text.new.host in
    let z = g.H.Host.view c.tell_content.new.host in
    let quiet = tells_none u v (g.met.H.Host.only_now c.args.host.now) (c.in-Ok.ensures.stays t) in
    message_told m c.args.found.now u v is quiet w c.as_slice.result.now (c.as_slice.ensures.value ∙ c.in-Ok.ensures.lines t m is) (c.in_ok-tell_text.ensures.told t) z c.args.found.now.head.content_len refl (tell t))
    c.tell_content.ensures.told

pub returns-clause-front : goal.returns-clause-front
returns-clause-front g c = on_err_weaker c.tell_content.result (λ tell t m is.
    let u = g.H.Host.view c.args.host.now in
    let v = g.H.Host.view c.lines_of.new.host in
    let w = g.H.Host.view c.tell_text.new.host in
    let z = g.H.Host.view c.tell_content.new.host in
    let quiet = tells_none u v (g.met.H.Host.only_now c.args.host.now) (c.in-Ok.ensures.stays t) in
    message_stops m c.args.found.now u v is quiet w c.as_slice.result.now (c.as_slice.ensures.value ∙ c.in-Ok.ensures.lines t m is) (c.in_ok-tell_text.ensures.told t) z c.args.found.now.head.content_len refl (tell t))
    c.tell_content.ensures.front

pub returns-in_err-tell_text-clause-front : goal.returns-in_err-tell_text-clause-front
returns-in_err-tell_text-clause-front g c =
    let u = g.H.Host.view c.args.host.now in
    let v = g.H.Host.view c.lines_of.new.host in
    let w = g.H.Host.view c.tell_text.new.host in
    err_has c.from_residual.result (λ t m is.
    let quiet = tells_none u v (g.met.H.Host.only_now c.args.host.now) (c.in-Ok.ensures.stays t) in
    message_begins m c.args.found.now u v is quiet w c.as_slice.result.now (c.as_slice.ensures.value ∙ c.in-Ok.ensures.lines t m is) (c.in_err-tell_text.ensures.front t))

pub returns-in-Err-clause-front : goal.returns-in-Err-clause-front
returns-in-Err-clause-front g c t m is =
    let u = g.H.Host.view c.args.host.now in
    let v = g.H.Host.view c.lines_of.new.host in
    message_waits m c.args.found.now u v is (tells_none u v (g.met.H.Host.only_now c.args.host.now) (c.in-Err.ensures.stays t))

pub returns-in-Err-clause-only : goal.returns-in-Err-clause-only
returns-in-Err-clause-only g c t =
    only_none (g.H.Host.view c.args.host.now) (g.H.Host.view c.lines_of.new.host) (g.met.H.Host.only_now c.args.host.now) (c.in-Err.ensures.stays t)

pub returns-in_err-tell_text-clause-only : goal.returns-in_err-tell_text-clause-only
returns-in_err-tell_text-clause-only g c t =
    let u = g.H.Host.view c.args.host.now in
    let v = g.H.Host.view c.lines_of.new.host in
    only_on u v (g.H.Host.view c.tell_text.new.host) (only_none u v (g.met.H.Host.only_now c.args.host.now) (c.in-Ok.ensures.stays t)) (c.in_err-tell_text.ensures.only t)

pub returns-clause-only : goal.returns-clause-only
returns-clause-only g c t =
    let u = g.H.Host.view c.args.host.now in
    let v = g.H.Host.view c.lines_of.new.host in
    let w = g.H.Host.view c.tell_text.new.host in
    only_on u w (g.H.Host.view c.tell_content.new.host) (only_on u v w (only_none u v (g.met.H.Host.only_now c.args.host.now) (c.in-Ok.ensures.stays t)) (c.in_ok-tell_text.ensures.only t)) (c.tell_content.ensures.only t)
