use Rattle.std.proofs.Common.{◌<◌, length, subst, sym}
use Rattle.q_heads.specs.Lanes.{Lanes}
use Rattle.q_heads.proofs.Classing.{sound_classed}
use Rattle.q_heads.proofs.Marked.{from_room, from_there}
use Rattle.q_heads.proofs.heads.Heads.set_class.Goals as goal

pub renew-requires-clause-there : goal.renew-requires-clause-there
renew-requires-clause-there c =
    let a = c.self.inside in
    from_there a.tickets a.marks a.classes.items c.self.invariant c.args.lane c.class_of-old.result c.mark_in-from.result c.class_of-old.ensures c.mark_in-from.ensures

pub renew-requires-clause-room : goal.renew-requires-clause-room
renew-requires-clause-room c =
    let a = c.self.inside in
    let below : c.args.lane < length a.classes.items = subst (λ (s : Lanes). c.args.lane < s.lanes) (sym c.self.view_is) c.requires in
    from_room a.tickets a.marks a.classes.items c.self.invariant c.args.lane c.class_of-old.result c.mark_in-from.result c.class_of-old.ensures c.mark_in-from.ensures c.stand_sorted.ensures.rising below

pub invariant_of-self : goal.invariant_of-self
invariant_of-self c =
    let a = c.self.inside in
    let below : c.args.lane < length a.classes.items = subst (λ (s : Lanes). c.args.lane < s.lanes) (sym c.self.view_is) c.requires in
    sound_classed a.tickets a.marks c.renew.new.marks a.classes.items c.self.invariant c.args.lane c.class_of-old.result c.args.class c.mark_in-from.result c.mark_in-to.result below c.class_of-old.ensures c.mark_in-from.ensures c.mark_in-to.ensures
    c.renew.ensures.stand c.renew.ensures.room
