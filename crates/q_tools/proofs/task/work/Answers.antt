use Rattle.std.proofs.Common.{◌≡◌, ◌∷◌, [], List, refl, subst, sym, true}
use Rattle.q_books.specs.HostStands.{TellsCrashes}
use Rattle.q_model.specs.Lists.{has_none}
use Rattle.q_super.specs.Deeds.{Deed, deeds_of}
use Rattle.q_super.specs.Plays.{PlaysDeeds}
use Rattle.q_super.proofs.Playing.{reads_play}
use Rattle.q_tools.specs.Tasks.{deeds_for, lacks_some}
use Rattle.q_tools.specs.declared.task.Task.{Task}
use Rattle.q_tools.proofs.task.work.Goals as goal

no_deeds : (ds : List Deed) → has_none ds ≡ true → [] ≡ ds
no_deeds [] none = refl
no_deeds (d ∷ ds) none = absurd cc

pub returns-in-One-clause-absent : goal.returns-in-One-clause-absent
returns-in-One-clause-absent g c is t b h rest =
    let u = g.H.Host.view c.args.host.now in
    let w = g.H.Host.view c.act.new.host in
    let lawful : TellsCrashes u = (record { only = g.met.H.Host.only_now c.args.host.now; told = g.met.H.Host.told_stays c.args.host.now }) in
    let none = c.act.ensures.absent is t b h rest in
    let plays = subst (λ (ds : List Deed). PlaysDeeds b ds u w) (no_deeds (deeds_of c.in-One.act c.in-One.id b) none) (reads_play b u w lawful (c.act.ensures.untouched is t) h) in
    subst (λ (task : Task). (lacks_some task b ≡ true) × PlaysDeeds b (deeds_for task b) u w) (sym c.in-One.is) (none, plays)
