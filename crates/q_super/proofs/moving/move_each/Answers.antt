use Rattle.std.proofs.Common.{◌≡◌, ◌∙◌, ◌+◌, ◌-◌, ◌^◌, ap, arith, Bool, Err, get_or, if◌then◌else◌, min, refl, subst, true}
use Rattle.q_books.specs.HostStands.{TellsCrashes}
use Rattle.q_host.specs.declared.error.HostError.{HostError}
use Rattle.q_super.specs.Deeds.{moving_each}
use Rattle.q_super.specs.Moves.{MayMove}
use Rattle.q_super.specs.Plays.{after_deeds, HaltsDeeds}
use Rattle.q_super.proofs.ToldMoves.{at_index, before, front_all, front_halts, front_more, front_none, next_there, no_file, same_default, same_error}
use Rattle.q_super.proofs.moving.move_each.Goals as goal

pub loop-from-init : goal.loop-from-init
loop-from-init g c =
    let u = g.H.Host.view c.args.host.now in
    let lawful : TellsCrashes u = (record { only = g.met.H.Host.only_now c.args.host.now; told = g.met.H.Host.told_stays c.args.host.now }) in
    record {
      front = λ t b h there. (front_none b c.args.word.now c.args.to c.args.files.now u lawful h there, refl);
      within = omega arith;
      disk_later = omega arith;
      tell_later = omega arith;
    }

pub move_told-requires : goal.move_told-requires
move_told-requires g c =
    let files = c.args.files.now in
    let i = c.loop-from.from-index in
    at_index (λ from. MayMove from c.args.to) files i (get_or files i no_file) c.requires c.loop-from-test.true (same_default files i no_file (get_or files i no_file) c.loop-from-test.true)

pub returns-in_err-moved-clause-err : goal.returns-in_err-moved-clause-err
returns-in_err-moved-clause-err g c error is t b h there =
    let word = c.args.word.now in
    let to = c.args.to in
    let files = c.args.files.now in
    let i = c.loop-from.from-index in
    let x = get_or files i no_file in
    let here = same_default files i no_file x c.loop-from-test.true in
    let u = g.H.Host.view c.args.host.now in
    let v = g.H.Host.view c.loop-from.host in
    let w = g.H.Host.view c.move_told.new.host in
    let inner = c.in_err-moved.field-0.0 in
    let same = same_error c.from_residual.result inner error c.from_residual.ensures.1 is in
    let front = (c.loop-from.invariant.front t b h there).0 in
    let stops = c.in_err-moved.ensures.err inner (refl {a = Err inner}) t (after_deeds b (before b word to files i x c.loop-from-test.true here u v front)) front.plays.stands (next_there b word to files i x c.loop-from-test.true here u v front) in
    subst (λ (e : HostError). HaltsDeeds b (moving_each word to files) e u w) same (front_halts b word to files i x c.loop-from-test.true here u v front inner w stops)

pub loop-from-preserved : goal.loop-from-preserved
loop-from-preserved g c =
    let word = c.args.word.now in
    let to = c.args.to in
    let files = c.args.files.now in
    let i = c.loop-from.from-index in
    let x = get_or files i no_file in
    let here = same_default files i no_file x c.loop-from-test.true in
    let u = g.H.Host.view c.args.host.now in
    let v = g.H.Host.view c.loop-from.host in
    let w = g.H.Host.view c.move_told.new.host in
    let count : c.in_ok-moved.moved ≡ true → c.counted-count.result ≡ min (c.loop-from.count + 1) (2 ^ 32 - 1) = λ moved. c.counted-count.ensures ∙ ap (λ (t : Bool). if t then min (c.loop-from.count + 1) (2 ^ 32 - 1) else c.loop-from.count) moved in
    record {
      front = λ t b h there.
          let so = c.loop-from.invariant.front t b h there in
          let ok = c.in_ok-moved.ensures.ok t (after_deeds b (before b word to files i x c.loop-from-test.true here u v so.0)) so.0.plays.stands (next_there b word to files i x c.loop-from-test.true here u v so.0) in
          (front_more b word to files i x c.loop-from-test.true here u v so.0 w ok.1, omega (arith, so.1, count ok.0));
      within = omega (arith, c.loop-from-test.true);
      disk_later = omega (arith, c.loop-from.invariant.disk_later, c.in_ok-moved.ensures.cause.disk_later);
      tell_later = omega (arith, c.loop-from.invariant.tell_later, c.in_ok-moved.ensures.cause.tell_later);
    }

pub returns-clause-ok : goal.returns-clause-ok
returns-clause-ok g c t b h there =
    let so = c.loop-from.invariant.front t b h there in
    (omega (arith, so.1, c.loop-from.invariant.within, c.loop-from-test.false), front_all b c.args.word.now c.args.to c.args.files.now c.loop-from.from-index (g.H.Host.view c.args.host.now) (g.H.Host.view c.loop-from.host) c.loop-from-test.false so.0)
