use Rattle.q_host.proofs.Stays.{stays_here}
use Rattle.std.proofs.lemmas.Result.{on_err_weaker, on_ok_weaker}
use Rattle.q_walk.specs.Listed.{all_queues, listed}
use Rattle.q_telling.proofs.TellingLaws.{front_none, only_none}
use Rattle.q_listing.proofs.ToldLaws.{err_has, none_told}
use Rattle.q_views.specs.JsonLines.{json_text}
use Rattle.q_views.proofs.json.tell_json.Goals as goal

pub returns-in_err-walk-clause-front : goal.returns-in_err-walk-clause-front
returns-in_err-walk-clause-front g c =
    let host = c.args.host.now in
    let u = g.H.Host.view host in
    err_has c.from_residual.result (λ t b stands. front_none (json_text u.files b) u u (none_told u (g.met.H.Host.only_now host)))

pub returns-clause-told : goal.returns-clause-told
returns-clause-told g c =
    let u = g.H.Host.view c.args.host.now in
    on_ok_weaker c.tell_lines.result (λ told t b stands. told t b (listed all_queues b) stands (c.in_ok-walk.ensures u.files b stands)) c.tell_lines.ensures.told

pub returns-clause-front : goal.returns-clause-front
returns-clause-front g c =
    let u = g.H.Host.view c.args.host.now in
    on_err_weaker c.tell_lines.result (λ part t b stands. part t b (listed all_queues b) stands (c.in_ok-walk.ensures u.files b stands)) c.tell_lines.ensures.front

pub returns-in_err-walk-clause-only : goal.returns-in_err-walk-clause-only
returns-in_err-walk-clause-only g c t =
    let u = g.H.Host.view c.args.host.now in
    only_none u u (g.met.H.Host.only_now c.args.host.now) (stays_here u)
