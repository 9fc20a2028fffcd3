use Rattle.std.proofs.Common.{arith, Err, get_or, refl, subst}
use Rattle.q_books.specs.HostStands.{TellsCrashes}
use Rattle.q_host.specs.declared.error.HostError.{HostError}
use Rattle.q_super.specs.EachDeeds.{each_deeds}
use Rattle.q_super.specs.Plays.{HaltsDeeds}
use Rattle.q_super.proofs.Playing.{reads_halt, reads_play}
use Rattle.q_super.proofs.EachActs.{book_then, front_all, front_halts, front_more, front_none, no_id, rest_then}
use Rattle.q_super.proofs.ToldMoves.{same_default, same_error}
use Rattle.q_super.proofs.several.act_each.Goals as goal

pub loop-id-init : goal.loop-id-init
loop-id-init g c =
    let u = g.H.Host.view c.args.host.now in
    let lawful : TellsCrashes u = (record { only = g.met.H.Host.only_now c.args.host.now; told = g.met.H.Host.told_stays c.args.host.now }) in
    let v = g.H.Host.view c.taken_places.new.host in
    record {
      sources = c.in_ok-places.ensures.sources;
      front = λ t b h rest. front_none b c.args.act c.args.ids.now c.in_ok-places.places u v (reads_play b u v lawful (c.in_ok-places.ensures.stays t) h) (c.in_ok-places.ensures.finds t b h.reads);
      disk_later = omega (arith, c.in_ok-places.ensures.cause.disk_later);
      tell_later = omega (arith, c.in_ok-places.ensures.cause.tell_later);
    }

pub returns-in_err-places-clause-err : goal.returns-in_err-places-clause-err
returns-in_err-places-clause-err g c error is t b h rest =
    let u = g.H.Host.view c.args.host.now in
    let lawful : TellsCrashes u = (record { only = g.met.H.Host.only_now c.args.host.now; told = g.met.H.Host.told_stays c.args.host.now }) in
    reads_halt b (each_deeds c.args.act c.args.ids.now b) error u (g.H.Host.view c.taken_places.new.host) lawful (c.taken_places.ensures.stays t) h

pub act_found-requires : goal.act_found-requires
act_found-requires g c = c.loop-id.invariant.sources

pub returns-in_err-done-clause-err : goal.returns-in_err-done-clause-err
returns-in_err-done-clause-err g c error is t b h rest =
    let act = c.args.act in
    let ids = c.args.ids.now in
    let i = c.loop-id.id-index in
    let id = get_or ids i no_id in
    let within = c.loop-id-test.true in
    let here = same_default ids i no_id id within in
    let lacks = c.loop-id.lacks in
    let places = c.loop-id.places in
    let u = g.H.Host.view c.args.host.now in
    let v = g.H.Host.view c.loop-id.host in
    let w = g.H.Host.view c.act_found.new.host in
    let inner = c.in_err-done.field-0.0 in
    let same = same_error c.from_residual-in_err-done.result inner error c.from_residual-in_err-done.ensures.1 is in
    let front = c.loop-id.invariant.front t b h rest in
    let k = book_then b act ids i id within here lacks places u v front in
    let stops = c.in_err-done.ensures.err inner (refl {a = Err inner}) t k front.plays.stands (rest_then b act ids i id within here lacks places u v front h.reads.distinct rest) front.finds in
    subst (λ (e : HostError). HaltsDeeds b (each_deeds act ids b) e u w) same (front_halts b act ids i id within here lacks places u v front inner w stops)

pub loop-id-preserved : goal.loop-id-preserved
loop-id-preserved g c =
    let act = c.args.act in
    let ids = c.args.ids.now in
    let i = c.loop-id.id-index in
    let id = get_or ids i no_id in
    let within = c.loop-id-test.true in
    let here = same_default ids i no_id id within in
    let lacks = c.loop-id.lacks in
    let places = c.loop-id.places in
    let u = g.H.Host.view c.args.host.now in
    let v = g.H.Host.view c.loop-id.host in
    let w = g.H.Host.view c.act_found.new.host in
    record {
      sources = c.in_ok-done.ensures.sources;
      front = λ t b h rest.
          let front = c.loop-id.invariant.front t b h rest in
          let k = book_then b act ids i id within here lacks places u v front in
          let both = c.in_ok-done.ensures.ok t k front.plays.stands (rest_then b act ids i id within here lacks places u v front h.reads.distinct rest) front.finds in
          front_more b act ids i id within here lacks places u v front c.in_ok-done.done c.is_lacking-lacks.result c.act_found.new.places w c.is_lacking-lacks.ensures both (c.in_ok-done.ensures.finds k front.finds);
      disk_later = omega (arith, c.loop-id.invariant.disk_later, c.in_ok-done.ensures.cause.disk_later);
      tell_later = omega (arith, c.loop-id.invariant.tell_later, c.in_ok-done.ensures.cause.tell_later);
    }

pub returns-clause-ok : goal.returns-clause-ok
returns-clause-ok g c t b h rest =
    front_all b c.args.act c.args.ids.now c.loop-id.id-index c.loop-id.lacks c.loop-id.places (g.H.Host.view c.args.host.now) (g.H.Host.view c.loop-id.host) c.loop-id-test.false (c.loop-id.invariant.front t b h rest)
