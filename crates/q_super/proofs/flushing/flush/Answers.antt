use Rattle.std.proofs.Common.{◌∙◌, [], ap, List, refl, subst, sym}
use Rattle.std.specs.List.{AllByRecursion}
use Rattle.std.specs.Prelude.{codes}
use Rattle.q_books.proofs.Joining.{reads_keep}
use Rattle.q_books.specs.HostStands.{TellsCrashes}
use Rattle.q_host.specs.declared.error.HostError.{HostError}
use Rattle.q_model.specs.declared.rows.Place.TheVariants as places
use Rattle.q_super.specs.Deeds.{flush_deeds, moved_count, moving_each}
use Rattle.q_super.specs.Moves.{AreThere, MayMove}
use Rattle.q_super.specs.Plays.{HaltsDeeds, PlaysDeeds}
use Rattle.q_super.specs.declared.acts.Act.TheVariants as acts
use Rattle.q_super.specs.declared.standing.Standing.{Standing}
use Rattle.q_super.proofs.AllTaken.{flush_may, flushed_there, sources_move}
use Rattle.q_super.proofs.Faults.{never_absent, passed_error}
use Rattle.q_super.proofs.Playing.{halts_behind, plays_then, reads_halt, reads_play}
use Rattle.q_super.proofs.flushing.flush.Goals as goal

pub move_each-requires : goal.move_each-requires
move_each-requires g c = subst (λ (ss : List Standing). AllByRecursion (λ from. MayMove from places.Incoming) ss) (sym c.as_slice.ensures.value) (sources_move acts.Requeue c.in_ok-found.found.items c.in_ok-found.ensures.sources)

pub returns-in_err-found-clause-err : goal.returns-in_err-found-clause-err
returns-in_err-found-clause-err g c error is t b h rest =
    let u = g.H.Host.view c.args.host.now in
    let lawful : TellsCrashes u = (record { only = g.met.H.Host.only_now c.args.host.now; told = g.met.H.Host.told_stays c.args.host.now }) in
    reads_halt b (flush_deeds c.args.domain.now b) error u (g.H.Host.view c.flushed.new.host) lawful (c.flushed.ensures.stays t) h

pub returns-in_err-found-clause-may : goal.returns-in_err-found-clause-may
returns-in_err-found-clause-may g c t b h rest = flush_may (g.H.Host.view c.args.host.now).files b h.reads rest c.args.domain.now

pub returns-in_err-found-clause-never_absent : goal.returns-in_err-found-clause-never_absent
returns-in_err-found-clause-never_absent g c is = never_absent c.from_residual.result c.in_err-found.field-0.0 c.from_residual.ensures.1 is

pub returns-in_err-count-clause-err : goal.returns-in_err-count-clause-err
returns-in_err-count-clause-err g c error is t b h rest =
    let domain = c.args.domain.now in
    let u = g.H.Host.view c.args.host.now in
    let v = g.H.Host.view c.flushed.new.host in
    let w = g.H.Host.view c.move_each.new.host in
    let lawful : TellsCrashes u = (record { only = g.met.H.Host.only_now c.args.host.now; told = g.met.H.Host.told_stays c.args.host.now }) in
    let st = c.in_ok-found.ensures.stays t in
    let all = c.as_slice.ensures.value ∙ c.in_ok-found.ensures.flushed t b h.reads in
    let inner = c.in_err-count.field-0.0 in
    let same = passed_error c.from_residual-in_err-count.result inner error c.from_residual-in_err-count.ensures.1 is in
    let halts = c.in_err-count.ensures.err inner refl t b (reads_keep b b u v lawful st h).stands (subst (AreThere b) (sym all) (flushed_there u.files b h.reads rest domain)) in
    let files = subst (λ (ss : List Standing). HaltsDeeds b (moving_each (codes "flush") places.Incoming ss) inner v w) all halts in
    subst (λ (e : HostError). HaltsDeeds b (flush_deeds domain b) e u w) same (halts_behind b [] (flush_deeds domain b) inner u v w (reads_play b u v lawful st h) files)

pub returns-in_err-count-clause-may : goal.returns-in_err-count-clause-may
returns-in_err-count-clause-may g c t b h rest = flush_may (g.H.Host.view c.args.host.now).files b h.reads rest c.args.domain.now

pub returns-in_err-count-clause-never_absent : goal.returns-in_err-count-clause-never_absent
returns-in_err-count-clause-never_absent g c is = never_absent c.from_residual-in_err-count.result c.in_err-count.field-0.0 c.from_residual-in_err-count.ensures.1 is

pub returns-clause-ok : goal.returns-clause-ok
returns-clause-ok g c t b h rest =
    let domain = c.args.domain.now in
    let u = g.H.Host.view c.args.host.now in
    let v = g.H.Host.view c.flushed.new.host in
    let w = g.H.Host.view c.move_each.new.host in
    let lawful : TellsCrashes u = (record { only = g.met.H.Host.only_now c.args.host.now; told = g.met.H.Host.told_stays c.args.host.now }) in
    let st = c.in_ok-found.ensures.stays t in
    let all = c.as_slice.ensures.value ∙ c.in_ok-found.ensures.flushed t b h.reads in
    let both = c.in_ok-count.ensures.ok t b (reads_keep b b u v lawful st h).stands (subst (AreThere b) (sym all) (flushed_there u.files b h.reads rest domain)) in
    let files = subst (λ (ss : List Standing). PlaysDeeds b (moving_each (codes "flush") places.Incoming ss) v w) all both.1 in
    (both.0 ∙ ap moved_count all, plays_then b [] (flush_deeds domain b) u v w (reads_play b u v lawful st h) files)

pub returns-clause-may : goal.returns-clause-may
returns-clause-may g c t b h rest = flush_may (g.H.Host.view c.args.host.now).files b h.reads rest c.args.domain.now
