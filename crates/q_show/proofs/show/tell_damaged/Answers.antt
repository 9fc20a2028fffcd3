use Rattle.std.proofs.Common.{arith}
use Rattle.std.proofs.lemmas.Result.{on_err_weaker, on_ok_weaker}
use Rattle.q_listing.proofs.ToldLaws.{err_has}
use Rattle.q_telling.proofs.TellingLaws.{only_none, only_on, tells_none}
use Rattle.q_show.proofs.ShownLaws.{damage_begins, damage_stops, damage_told, damage_waits}
use Rattle.q_show.proofs.show.tell_damaged.Goals as goal

pub returns-clause-told : goal.returns-clause-told
returns-clause-told g c = on_ok_weaker c.tell_bytes.result (λ tell t file here is.
    let u = g.H.Host.view c.args.host.now in
    let v = g.H.Host.view c.sound_size.new.host in
    let w = g.H.Host.view c.tell_lines.new.host in
    let z = g.H.Host.view c.tell_bytes.new.host in
    let quiet = tells_none u v (g.met.H.Host.only_now c.args.host.now) (c.in-Ok.ensures.stays t) in
    damage_told c.args.damage.now.place c.args.damage.now.id c.args.damage.now.fault file c.args.damage.now.spot u v is here quiet w (c.in_ok-tell_lines.ensures.told t) z c.in-Ok.size (c.in-Ok.ensures.size t file here) (tell t (omega arith)))
    c.tell_bytes.ensures.told

pub returns-clause-front : goal.returns-clause-front
returns-clause-front g c = on_err_weaker c.tell_bytes.result (λ tell t file here is.
    let u = g.H.Host.view c.args.host.now in
    let v = g.H.Host.view c.sound_size.new.host in
    let w = g.H.Host.view c.tell_lines.new.host in
    let z = g.H.Host.view c.tell_bytes.new.host in
    let quiet = tells_none u v (g.met.H.Host.only_now c.args.host.now) (c.in-Ok.ensures.stays t) in
    damage_stops c.args.damage.now.place c.args.damage.now.id c.args.damage.now.fault file c.args.damage.now.spot u v is here quiet w (c.in_ok-tell_lines.ensures.told t) z c.in-Ok.size (c.in-Ok.ensures.size t file here) (tell t (omega arith)))
    c.tell_bytes.ensures.front

pub returns-in_err-tell_lines-clause-front : goal.returns-in_err-tell_lines-clause-front
returns-in_err-tell_lines-clause-front g c =
    let u = g.H.Host.view c.args.host.now in
    let v = g.H.Host.view c.sound_size.new.host in
    let w = g.H.Host.view c.tell_lines.new.host in
    err_has c.from_residual.result (λ t file here is.
    let quiet = tells_none u v (g.met.H.Host.only_now c.args.host.now) (c.in-Ok.ensures.stays t) in
    damage_begins c.args.damage.now.place c.args.damage.now.id c.args.damage.now.fault file c.args.damage.now.spot u v is here quiet w (c.in_err-tell_lines.ensures.front t))

pub returns-in-Err-clause-front : goal.returns-in-Err-clause-front
returns-in-Err-clause-front g c t file here is =
    let u = g.H.Host.view c.args.host.now in
    let v = g.H.Host.view c.sound_size.new.host in
    damage_waits c.args.damage.now.place c.args.damage.now.id c.args.damage.now.fault file c.args.damage.now.spot u v is here (tells_none u v (g.met.H.Host.only_now c.args.host.now) (c.in-Err.ensures.stays t))

pub returns-in-Err-clause-only : goal.returns-in-Err-clause-only
returns-in-Err-clause-only g c t =
    only_none (g.H.Host.view c.args.host.now) (g.H.Host.view c.sound_size.new.host) (g.met.H.Host.only_now c.args.host.now) (c.in-Err.ensures.stays t)

pub returns-in_err-tell_lines-clause-only : goal.returns-in_err-tell_lines-clause-only
returns-in_err-tell_lines-clause-only g c t =
    let u = g.H.Host.view c.args.host.now in
    let v = g.H.Host.view c.sound_size.new.host in
    only_on u v (g.H.Host.view c.tell_lines.new.host) (only_none u v (g.met.H.Host.only_now c.args.host.now) (c.in-Ok.ensures.stays t)) (c.in_err-tell_lines.ensures.only t)

pub returns-clause-only : goal.returns-clause-only
returns-clause-only g c t =
    let u = g.H.Host.view c.args.host.now in
    let v = g.H.Host.view c.sound_size.new.host in
    let w = g.H.Host.view c.tell_lines.new.host in
    only_on u w (g.H.Host.view c.tell_bytes.new.host) (only_on u v w (only_none u v (g.met.H.Host.only_now c.args.host.now) (c.in-Ok.ensures.stays t)) (c.in_ok-tell_lines.ensures.only t)) (c.tell_bytes.ensures.only t)
