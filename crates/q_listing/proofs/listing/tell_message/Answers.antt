use Rattle.q_telling.proofs.TellingLaws.{only_on}
use Rattle.std.proofs.lemmas.Result.{IfOk-weaker, on_err_weaker}
use Rattle.q_listing.proofs.MessageLaws.{found_behind, head_stops, message_stops, message_told}
use Rattle.q_listing.proofs.ToldLaws.{err_has}
use Rattle.q_listing.proofs.listing.tell_message.Goals as goal

pub returns-in_err-tell_head-clause-front : goal.returns-in_err-tell_head-clause-front
returns-in_err-tell_head-clause-front g c =
    let u = g.H.Host.view c.args.host.now in
    let v = g.H.Host.view c.tell_head.new.host in
    err_has c.from_residual.result (λ t m is. head_stops m c.args.found.now u v v is (c.in_err-tell_head.ensures.front t))

pub returns-clause-told : goal.returns-clause-told
returns-clause-told g c =
    let u = g.H.Host.view c.args.host.now in
    let v = g.H.Host.view c.tell_head.new.host in
    let w = g.H.Host.view c.tell_recipients.new.host in
    let found = c.args.found.now in
    IfOk-weaker c.tell_recipients.result _ _ (λ n told t m is.
    let head = c.in_ok-tell_head.ensures.told t in
    message_told m found u v w is head n (told t m (found_behind m found u v w is head))) c.tell_recipients.ensures.told

pub returns-clause-front : goal.returns-clause-front
returns-clause-front g c =
    let u = g.H.Host.view c.args.host.now in
    let v = g.H.Host.view c.tell_head.new.host in
    let w = g.H.Host.view c.tell_recipients.new.host in
    let found = c.args.found.now in
    on_err_weaker c.tell_recipients.result (λ part t m is.
    let head = c.in_ok-tell_head.ensures.told t in
    message_stops m found u v w is head (part t m (found_behind m found u v w is head))) c.tell_recipients.ensures.front

pub returns-clause-only : goal.returns-clause-only
returns-clause-only g c t =
    only_on (g.H.Host.view c.args.host.now) (g.H.Host.view c.tell_head.new.host) (g.H.Host.view c.tell_recipients.new.host) (c.tell_head.ensures.only t) (c.tell_recipients.ensures.only t)
