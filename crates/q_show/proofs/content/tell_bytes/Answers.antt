use Rattle.std.proofs.Common.{◌≡◌, ◌+◌, ◌∙◌, ◌≤◌, arith, drop, refl, subst, sym, take, ℕ}
use Rattle.std.specs.Option.{IfSome, IsSome}
use Rattle.q_host.specs.Reads.{IsRead}
use Rattle.q_host.proofs.Stays.{stays_here}
use Rattle.q_listing.proofs.ToldLaws.{err_has, none_told}
use Rattle.q_model.specs.SpoolFiles.{Files}
use Rattle.q_model.specs.Values.{Spot}
use Rattle.q_telling.specs.Telling.{TellsMore}
use Rattle.q_telling.proofs.TellingLaws.{only_none, only_on, tells_none}
use Rattle.q_show.proofs.ContentLaws.{bytes_end, bytes_more, bytes_stop, bytes_wait, read_at, read_none}
use Rattle.q_show.proofs.content.tell_bytes.Goals as goal

pub loop-done-init : goal.loop-done-init
loop-done-init g c =
    let u = g.H.Host.view c.args.host.now in
    record {
      within = omega arith;
      told = λ t near file here. none_told u (g.met.H.Host.only_now c.args.host.now);
      files = λ t. refl;
      only = λ t. only_none u u (g.met.H.Host.only_now c.args.host.now) (stays_here u);
      disk_later = omega arith;
      tell_later = omega arith;
    }

pub read-requires : goal.read-requires
read-requires g c t =
    let now = (g.H.Host.view c.loop-done.host).files in
    subst (λ (s : Spot). IsSome (now s.area s.name)) (sym c.spot.view_is)
    (subst (λ (f : Files). IsSome (f c.args.spot.area c.args.spot.name)) (sym (c.loop-done.invariant.files t)) (c.requires.there t))

pub returns-in_err-count-clause-front : goal.returns-in_err-count-clause-front
returns-in_err-count-clause-front g c =
    let loop = c.loop-done in
    let u = g.H.Host.view c.args.host.now in
    let v = g.H.Host.view loop.host in
    let w = g.H.Host.view c.read.new.self in
    err_has c.from_residual.result (λ t near file here.
    bytes_wait file c.args.at c.args.size loop.done loop.invariant.within u v w (loop.invariant.told t near file here)
    (tells_none v w (g.met.H.Host.only_now loop.host) (c.in_err-count.ensures.stays t)))

pub returns-in_err-count-clause-only : goal.returns-in_err-count-clause-only
returns-in_err-count-clause-only g c t =
    let loop = c.loop-done in
    let v = g.H.Host.view loop.host in
    let w = g.H.Host.view c.read.new.self in
    only_on (g.H.Host.view c.args.host.now) v w (loop.invariant.only t) (only_none v w (g.met.H.Host.only_now loop.host) (c.in_err-count.ensures.stays t))

pub returns-in_err-tell_text-clause-front : goal.returns-in_err-tell_text-clause-front
returns-in_err-tell_text-clause-front g c =
    let loop = c.loop-done in
    let u = g.H.Host.view c.args.host.now in
    let v = g.H.Host.view loop.host in
    let w = g.H.Host.view c.read.new.self in
    let z = g.H.Host.view c.tell_text.new.host in
    let count = c.in_ok-count.count in
    let more = c.min-more.result in
    err_has c.from_residual-in_err-tell_text.result (λ t near file here.
    let place : c.saturating_add-place.result ≡ c.args.at + loop.done = omega (arith, c.saturating_add-place.ensures, near, loop.invariant.within) in
    let read = subst (λ (s : Spot). IfSome (v.files s.area s.name) (λ x. IsRead x c.saturating_add-place.result loop.piece c.read.new.buf count)) c.spot.view_is (c.in_ok-count.ensures.bytes t) in
    let r = read_at u.files v.files c.args.spot file loop.piece c.read.new.buf c.saturating_add-place.result c.args.at loop.done count (loop.invariant.files t) here place read in
    bytes_stop file c.args.at c.args.size loop.done loop.invariant.within u v w (loop.invariant.told t near file here)
    (tells_none v w (g.met.H.Host.only_now loop.host) (c.in_ok-count.ensures.stays t)) z loop.piece c.read.new.buf more count r
    (omega (arith, c.min-more.ensures)) (omega (arith, c.min-more.ensures, loop.invariant.within)) (c.in_err-tell_text.ensures.front t))

pub returns-in_err-tell_text-clause-only : goal.returns-in_err-tell_text-clause-only
returns-in_err-tell_text-clause-only g c t =
    let loop = c.loop-done in
    let v = g.H.Host.view loop.host in
    let w = g.H.Host.view c.read.new.self in
    let z = g.H.Host.view c.tell_text.new.host in
    only_on (g.H.Host.view c.args.host.now) v z (loop.invariant.only t)
    (only_on v w z (only_none v w (g.met.H.Host.only_now loop.host) (c.in_ok-count.ensures.stays t)) (c.in_err-tell_text.ensures.only t))

pub loop-done-preserved : goal.loop-done-preserved
loop-done-preserved g c =
    let loop = c.loop-done in
    let u = g.H.Host.view c.args.host.now in
    let v = g.H.Host.view loop.host in
    let w = g.H.Host.view c.read.new.self in
    let z = g.H.Host.view c.tell_text.new.host in
    let count = c.in_ok-count.count in
    let more = c.min-more.result in
    let inside : loop.done + more ≤ c.args.size = omega (arith, c.min-more.ensures, loop.invariant.within) in
    record {
      within = inside;
      told = λ t near file here.
          let place : c.saturating_add-place.result ≡ c.args.at + loop.done = omega (arith, c.saturating_add-place.ensures, near, loop.invariant.within) in
          let read = subst (λ (s : Spot). IfSome (v.files s.area s.name) (λ x. IsRead x c.saturating_add-place.result loop.piece c.read.new.buf count)) c.spot.view_is (c.in_ok-count.ensures.bytes t) in
          let r = read_at u.files v.files c.args.spot file loop.piece c.read.new.buf c.saturating_add-place.result c.args.at loop.done count (loop.invariant.files t) here place read in
          bytes_more file c.args.at c.args.size loop.done loop.invariant.within u v w (loop.invariant.told t near file here)
          (tells_none v w (g.met.H.Host.only_now loop.host) (c.in_ok-count.ensures.stays t)) z loop.piece c.read.new.buf more count r
          (omega (arith, c.min-more.ensures)) inside (c.in_ok-tell_text.ensures.told t);
      files = λ t. (c.in_ok-tell_text.ensures.told t).files ∙ (c.in_ok-count.ensures.stays t).files ∙ loop.invariant.files t;
      only = λ t. only_on u v z (loop.invariant.only t) (only_on v w z (only_none v w (g.met.H.Host.only_now loop.host) (c.in_ok-count.ensures.stays t)) (c.in_ok-tell_text.ensures.only t));
      disk_later = omega (arith, loop.invariant.disk_later, c.in_ok-count.ensures.cause.disk_later, c.in_ok-tell_text.ensures.cause.disk_later);
      tell_later = omega (arith, loop.invariant.tell_later, c.in_ok-count.ensures.cause.tell_later, c.in_ok-tell_text.ensures.cause.tell_later);
    }

pub returns-after-loop-done-clause-told : goal.returns-after-loop-done-clause-told
returns-after-loop-done-clause-told g c t near file here =
    let loop = c.loop-done in
    let all : loop.done ≡ c.args.size = omega (arith, loop.invariant.within, c.loop-done-test.false) in
    subst (λ (n : ℕ). TellsMore (take n (drop c.args.at file)) (g.H.Host.view c.args.host.now) (g.H.Host.view loop.host)) all (loop.invariant.told t near file here)

pub returns-then-count-eq0-clause-told : goal.returns-then-count-eq0-clause-told
returns-then-count-eq0-clause-told g c t near file here =
    let loop = c.loop-done in
    let u = g.H.Host.view c.args.host.now in
    let v = g.H.Host.view loop.host in
    let w = g.H.Host.view c.read.new.self in
    let count = c.in_ok-count.count in
    let place : c.saturating_add-place.result ≡ c.args.at + loop.done = omega (arith, c.saturating_add-place.ensures, near, loop.invariant.within) in
    let read = subst (λ (s : Spot). IfSome (v.files s.area s.name) (λ x. IsRead x c.saturating_add-place.result loop.piece c.read.new.buf count)) c.spot.view_is (c.in_ok-count.ensures.bytes t) in
    let r = read_at u.files v.files c.args.spot file loop.piece c.read.new.buf c.saturating_add-place.result c.args.at loop.done count (loop.invariant.files t) here place read in
    bytes_end file c.args.at c.args.size loop.done loop.invariant.within u v w (loop.invariant.told t near file here)
    (tells_none v w (g.met.H.Host.only_now loop.host) (c.in_ok-count.ensures.stays t))
    (read_none file loop.piece c.read.new.buf (c.args.at + loop.done) count r c.if-count-eq0.true (omega arith))
