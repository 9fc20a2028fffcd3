use Rattle.std.proofs.Common.{◌∙◌, [], ap, List, refl, subst, sym, ℕ}
use Rattle.std.specs.List.{AllByRecursion}
use Rattle.q_books.proofs.Joining.{reads_keep}
use Rattle.q_books.specs.HostStands.{TellsCrashes}
use Rattle.q_host.specs.declared.error.HostError.{HostError}
use Rattle.q_model.specs.declared.rows.Place.{Place}
use Rattle.q_super.specs.Acts.{goal_of, word_of}
use Rattle.q_super.specs.Deeds.{all_deeds, moved_count, moving_each}
use Rattle.q_super.specs.Moves.{AreThere, MayMove}
use Rattle.q_super.specs.Plays.{HaltsDeeds, PlaysDeeds}
use Rattle.q_super.specs.declared.standing.Standing.{Standing}
use Rattle.q_super.proofs.AllTaken.{all_may, sources_move}
use Rattle.q_super.proofs.Faults.{never_absent, passed_error}
use Rattle.q_super.proofs.Playing.{halts_behind, plays_then, reads_halt, reads_play}
use Rattle.q_super.proofs.Taken.{taken_there}
use Rattle.q_super.proofs.all.every.Goals as goal

pub move_each-requires : goal.move_each-requires
move_each-requires g c = subst (λ (to : Place). AllByRecursion (λ from. MayMove from to) c.as_slice.result.now) (sym c.goal_of.ensures)
    (subst (λ (ss : List Standing). AllByRecursion (λ from. MayMove from (goal_of c.args.act)) ss) (sym c.as_slice.ensures.value) (sources_move c.args.act c.in_ok-found.found.items c.in_ok-found.ensures.sources))

pub returns-in_err-found-clause-err : goal.returns-in_err-found-clause-err
returns-in_err-found-clause-err g c error is t b h rest =
    let u = g.H.Host.view c.args.host.now in
    let lawful : TellsCrashes u = (record { only = g.met.H.Host.only_now c.args.host.now; told = g.met.H.Host.told_stays c.args.host.now }) in
    reads_halt b (all_deeds c.args.act b) error u (g.H.Host.view c.taken.new.host) lawful (c.taken.ensures.stays t) h

pub returns-in_err-found-clause-may : goal.returns-in_err-found-clause-may
returns-in_err-found-clause-may g c t b h rest = all_may (g.H.Host.view c.args.host.now).files b h.reads rest c.args.act c.requires

pub returns-in_err-found-clause-never_absent : goal.returns-in_err-found-clause-never_absent
returns-in_err-found-clause-never_absent g c is = never_absent c.from_residual.result c.in_err-found.field-0.0 c.from_residual.ensures.1 is

pub returns-in_err-count-clause-err : goal.returns-in_err-count-clause-err
returns-in_err-count-clause-err g c error is t b h rest =
    let act = c.args.act in
    let u = g.H.Host.view c.args.host.now in
    let v = g.H.Host.view c.taken.new.host in
    let w = g.H.Host.view c.move_each.new.host in
    let lawful : TellsCrashes u = (record { only = g.met.H.Host.only_now c.args.host.now; told = g.met.H.Host.told_stays c.args.host.now }) in
    let st = c.in_ok-found.ensures.stays t in
    let all = c.as_slice.ensures.value ∙ c.in_ok-found.ensures.taken t b h.reads in
    let inner = c.in_err-count.field-0.0 in
    let same = passed_error c.from_residual-in_err-count.result inner error c.from_residual-in_err-count.ensures.1 is in
    let halts = c.in_err-count.ensures.err inner refl t b (reads_keep b b u v lawful st h).stands (subst (AreThere b) (sym all) (taken_there u.files b h.reads act)) in
    let words = subst (λ (word : List ℕ). HaltsDeeds b (moving_each word c.goal_of.result c.as_slice.result.now) inner v w) c.word_of-word.ensures halts in
    let goals = subst (λ (to : Place). HaltsDeeds b (moving_each (word_of act) to c.as_slice.result.now) inner v w) c.goal_of.ensures words in
    let files = subst (λ (ss : List Standing). HaltsDeeds b (moving_each (word_of act) (goal_of act) ss) inner v w) all goals in
    subst (λ (e : HostError). HaltsDeeds b (all_deeds act b) e u w) same (halts_behind b [] (all_deeds act b) inner u v w (reads_play b u v lawful st h) files)

pub returns-in_err-count-clause-may : goal.returns-in_err-count-clause-may
returns-in_err-count-clause-may g c t b h rest = all_may (g.H.Host.view c.args.host.now).files b h.reads rest c.args.act c.requires

pub returns-in_err-count-clause-never_absent : goal.returns-in_err-count-clause-never_absent
returns-in_err-count-clause-never_absent g c is = never_absent c.from_residual-in_err-count.result c.in_err-count.field-0.0 c.from_residual-in_err-count.ensures.1 is

pub returns-clause-ok : goal.returns-clause-ok
returns-clause-ok g c t b h rest =
    let act = c.args.act in
    let u = g.H.Host.view c.args.host.now in
    let v = g.H.Host.view c.taken.new.host in
    let w = g.H.Host.view c.move_each.new.host in
    let lawful : TellsCrashes u = (record { only = g.met.H.Host.only_now c.args.host.now; told = g.met.H.Host.told_stays c.args.host.now }) in
    let st = c.in_ok-found.ensures.stays t in
    let all = c.as_slice.ensures.value ∙ c.in_ok-found.ensures.taken t b h.reads in
    let both = c.in_ok-count.ensures.ok t b (reads_keep b b u v lawful st h).stands (subst (AreThere b) (sym all) (taken_there u.files b h.reads act)) in
    let words = subst (λ (word : List ℕ). PlaysDeeds b (moving_each word c.goal_of.result c.as_slice.result.now) v w) c.word_of-word.ensures both.1 in
    let goals = subst (λ (to : Place). PlaysDeeds b (moving_each (word_of act) to c.as_slice.result.now) v w) c.goal_of.ensures words in
    let files = subst (λ (ss : List Standing). PlaysDeeds b (moving_each (word_of act) (goal_of act) ss) v w) all goals in
    (both.0 ∙ ap moved_count all, plays_then b [] (all_deeds act b) u v w (reads_play b u v lawful st h) files)

pub returns-clause-may : goal.returns-clause-may
returns-clause-may g c t b h rest = all_may (g.H.Host.view c.args.host.now).files b h.reads rest c.args.act c.requires
