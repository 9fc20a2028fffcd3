use Rattle.std.proofs.Common.{◌<◌, subst, sym}
use Rattle.q_heads.specs.Lanes.{Lanes}
use Rattle.q_heads.proofs.Marked.{from_room, from_there, sound_inserted}
use Rattle.q_heads.proofs.heads.Heads.insert.Goals as goal

pub renew-requires-clause-there : goal.renew-requires-clause-there
renew-requires-clause-there c =
    let a = c.self.inside in
    from_there a.tickets a.marks a.classes.items c.self.invariant c.args.ticket.group c.class_of-class.result c.mark_in-from.result c.class_of-class.ensures c.mark_in-from.ensures

pub renew-requires-clause-room : goal.renew-requires-clause-room
renew-requires-clause-room c =
    let a = c.self.inside in
    let below = subst (λ (s : Lanes). c.args.ticket.group < s.lanes) (sym c.self.view_is) c.requires.known in
    from_room a.tickets a.marks a.classes.items c.self.invariant c.args.ticket.group c.class_of-class.result c.mark_in-from.result c.class_of-class.ensures c.mark_in-from.ensures c.stand_sorted.ensures.rising below

pub invariant_of-self : goal.invariant_of-self
invariant_of-self c =
    let a = c.self.inside in
    let below = subst (λ (s : Lanes). c.args.ticket.group < s.lanes) (sym c.self.view_is) c.requires.known in
    sound_inserted a.tickets a.marks c.insert.new.self c.renew.new.marks a.classes.items c.self.invariant c.args.ticket c.class_of-class.result c.mark_in-from.result c.mark_in-to.result c.insert.ensures below c.class_of-class.ensures c.mark_in-from.ensures c.mark_in-to.ensures
    c.renew.ensures.stand c.renew.ensures.room
