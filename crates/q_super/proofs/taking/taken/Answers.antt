use Rattle.std.proofs.Common.{subst, sym}
use Rattle.q_host.proofs.Stays.{stays_on}
use Rattle.q_model.specs.SpoolFiles.{Files}
use Rattle.q_model.specs.declared.spot.Area.TheVariants as areas
use Rattle.q_super.specs.Names.{AddsTaken, AreSources}
use Rattle.q_super.proofs.Taken.{taken_in_turn}
use Rattle.q_super.proofs.taking.taken.Goals as goal

pub returns-clause-sources : goal.returns-clause-sources
returns-clause-sources g c = c.in_ok-add_taken-3.ensures.sources (c.in_ok-add_taken-2.ensures.sources (c.in_ok-add_taken.ensures.sources (subst (AreSources c.args.act) (sym c.new-found.ensures.items) tt)))

pub returns-clause-taken : goal.returns-clause-taken
returns-clause-taken g c t b h =
    let view = g.H.Host.view in
    let f = (view c.args.host.now).files in
    let act = c.args.act in
    let one = c.in_ok-add_taken.ensures in
    let two = c.in_ok-add_taken-2.ensures in
    let three = c.in_ok-add_taken-3.ensures in
    let st = stays_on (view c.args.host.now) (view c.add_taken.new.host) (view c.add_taken-2.new.host) (one.stays t) (two.stays t) in
    taken_in_turn f act b c.new-found.result.items c.add_taken.new.found.items c.add_taken-2.new.found.items c.add_taken-3.new.found.items h c.new-found.ensures.items (one.adds t)
    (subst (λ (fs : Files). AddsTaken fs act areas.Deferred c.add_taken.new.found.items c.add_taken-2.new.found.items) (one.stays t).files (two.adds t))
    (subst (λ (fs : Files). AddsTaken fs act areas.Hold c.add_taken-2.new.found.items c.add_taken-3.new.found.items) st.files (three.adds t))
