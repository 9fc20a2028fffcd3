use Rattle.q_host.proofs.Stays.{stays_here}
use Rattle.std.specs.Prelude.{IfSome}
use Rattle.std.proofs.Common.{◌<◌, arith, subst, sym, Option}
use Rattle.q_model.specs.FilesStand.{Stands}
use Rattle.q_model.specs.SpoolFiles.{Files}
use Rattle.q_telling.proofs.TellingLaws.{only_none, only_on, tells_none}
use Rattle.q_walk.specs.declared.walk.Found.{Found}
use Rattle.q_walk.specs.Walks.{GivesNext, IsAhead, walk_left}
use Rattle.q_listing.proofs.ToldLaws.{err_has, told_begins, told_waits}
use Rattle.q_views.specs.JsonLines.{json_line_in}
use Rattle.q_views.proofs.LineLaws.{IsAny, lines_end, lines_more, lines_stop}
use Rattle.q_views.proofs.json.tell_lines.Goals as goal

pub loop-found-init : goal.loop-found-init
loop-found-init g c =
    let host = c.args.host.now in
    let u = g.H.Host.view host in
    record {
      told = λ t b ms stands ahead. told_begins (json_line_in u.files) ms (IsAhead u.files b c.args.walk.now) IsAny u (g.met.H.Host.only_now host) ahead tt;
      only = λ t. only_none u u (g.met.H.Host.only_now host) (stays_here u);
      disk_later = omega arith;
      tell_later = omega arith;
    }

pub returns-in_err-found-clause-front : goal.returns-in_err-found-clause-front
returns-in_err-found-clause-front g c =
    let loop = c.loop-found in
    let u = g.H.Host.view c.args.host.now in
    let v = g.H.Host.view loop.host in
    let w = g.H.Host.view c.next.new.host in
    err_has c.from_residual.result (λ t b ms stands ahead.
    told_waits (json_line_in u.files) ms (IsAhead u.files b loop.walk) IsAny u v w (loop.invariant.told t b ms stands ahead)
    (tells_none v w (g.met.H.Host.only_now loop.host) (c.in_err-found.ensures.stays t)))

pub returns-in_default-clause-told : goal.returns-in_default-clause-told
returns-in_default-clause-told g c t b ms stands ahead =
    let loop = c.loop-found in
    let u = g.H.Host.view c.args.host.now in
    let v = g.H.Host.view loop.host in
    let w = g.H.Host.view c.next.new.host in
    let s = loop.invariant.told t b ms stands ahead in
    let still = subst (λ (f : Files). Stands f b) (sym s.told.files) stands in
    lines_end json_line_in b ms loop.walk c.next.new.self u v w s
    (tells_none v w (g.met.H.Host.only_now loop.host) (c.in_ok-found.ensures.stays t))
    (λ xs h. subst (λ (o : Option Found). GivesNext v.files b c.next.new.self xs o) c.in_default.is (c.in_ok-found.ensures.next t b xs still h))

pub returns-in_err-tell_line-clause-front : goal.returns-in_err-tell_line-clause-front
returns-in_err-tell_line-clause-front g c =
    let loop = c.loop-found in
    let u = g.H.Host.view c.args.host.now in
    let v = g.H.Host.view loop.host in
    let w = g.H.Host.view c.next.new.host in
    let z = g.H.Host.view c.tell_line.new.host in
    err_has c.from_residual-in_err-tell_line.result (λ t b ms stands ahead.
    let s = loop.invariant.told t b ms stands ahead in
    let still = subst (λ (f : Files). Stands f b) (sym s.told.files) stands in
    lines_stop json_line_in b ms loop.walk c.next.new.self u v w s
    (tells_none v w (g.met.H.Host.only_now loop.host) (c.in_ok-found.ensures.stays t)) z c.in-Some.found
    (λ xs h. subst (λ (o : Option Found). GivesNext v.files b c.next.new.self xs o) c.in-Some.is (c.in_ok-found.ensures.next t b xs still h))
    (λ m is. c.in_err-tell_line.ensures.front t m is))

pub loop-found-preserved : goal.loop-found-preserved
loop-found-preserved g c =
    let loop = c.loop-found in
    let u = g.H.Host.view c.args.host.now in
    let v = g.H.Host.view loop.host in
    let w = g.H.Host.view c.next.new.host in
    let z = g.H.Host.view c.tell_line.new.host in
    record {
      told = λ t b ms stands ahead.
          let s = loop.invariant.told t b ms stands ahead in
          let still = subst (λ (f : Files). Stands f b) (sym s.told.files) stands in
          lines_more json_line_in b ms loop.walk c.next.new.self u v w s
          (tells_none v w (g.met.H.Host.only_now loop.host) (c.in_ok-found.ensures.stays t)) z c.in-Some.found
          (λ xs h. subst (λ (o : Option Found). GivesNext v.files b c.next.new.self xs o) c.in-Some.is (c.in_ok-found.ensures.next t b xs still h))
          (λ m is. c.in_ok-tell_line.ensures.told t m is);
      only = λ t. only_on u v z (loop.invariant.only t) (only_on v w z (only_none v w (g.met.H.Host.only_now loop.host) (c.in_ok-found.ensures.stays t)) (c.in_ok-tell_line.ensures.only t));
      disk_later = omega (arith, loop.invariant.disk_later, c.in_ok-found.ensures.cause.disk_later, c.in_ok-tell_line.ensures.cause.disk_later);
      tell_later = omega (arith, loop.invariant.tell_later, c.in_ok-found.ensures.cause.tell_later, c.in_ok-tell_line.ensures.cause.tell_later);
    }

pub loop-found-smaller : goal.loop-found-smaller
loop-found-smaller g c = subst (λ (o : Option Found). IfSome o (λ _. walk_left c.next.new.self < walk_left c.loop-found.walk)) c.in-Some.is c.in_ok-found.ensures.fewer

pub returns-in_err-found-clause-only : goal.returns-in_err-found-clause-only
returns-in_err-found-clause-only g c t =
    let loop = c.loop-found in
    let v = g.H.Host.view loop.host in
    let w = g.H.Host.view c.next.new.host in
    only_on (g.H.Host.view c.args.host.now) v w (loop.invariant.only t) (only_none v w (g.met.H.Host.only_now loop.host) (c.in_err-found.ensures.stays t))

pub returns-in_default-clause-only : goal.returns-in_default-clause-only
returns-in_default-clause-only g c t =
    let loop = c.loop-found in
    let v = g.H.Host.view loop.host in
    let w = g.H.Host.view c.next.new.host in
    only_on (g.H.Host.view c.args.host.now) v w (loop.invariant.only t) (only_none v w (g.met.H.Host.only_now loop.host) (c.in_ok-found.ensures.stays t))

pub returns-in_err-tell_line-clause-only : goal.returns-in_err-tell_line-clause-only
returns-in_err-tell_line-clause-only g c t =
    let loop = c.loop-found in
    let v = g.H.Host.view loop.host in
    let w = g.H.Host.view c.next.new.host in
    let z = g.H.Host.view c.tell_line.new.host in
    only_on (g.H.Host.view c.args.host.now) v z (loop.invariant.only t)
    (only_on v w z (only_none v w (g.met.H.Host.only_now loop.host) (c.in_ok-found.ensures.stays t)) (c.in_err-tell_line.ensures.only t))
