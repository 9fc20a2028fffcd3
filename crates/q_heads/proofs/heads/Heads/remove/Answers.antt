use Rattle.std.proofs.Common.{◌<◌, ◌≤◌, arith, length}
use Rattle.q_heads.proofs.Marked.{from_room, from_there, none_goes, sound_left}
use Rattle.q_heads.proofs.heads.Heads.remove.Goals as goal

pub returns-then-lane-len : goal.returns-then-lane-len
returns-then-lane-len c =
    let a = c.self.inside in
    let past : length a.classes.items ≤ c.args.ticket.now.group = omega arith in
    none_goes a.tickets a.marks a.classes.items c.args.self.now c.args.ticket.now c.self.invariant c.self.view_is past

pub renew-requires-clause-there : goal.renew-requires-clause-there
renew-requires-clause-there c =
    let a = c.self.inside in
    from_there a.tickets a.marks a.classes.items c.self.invariant c.args.ticket.now.group c.class_of-class.result c.mark_in-from.result c.class_of-class.ensures c.mark_in-from.ensures

pub renew-requires-clause-room : goal.renew-requires-clause-room
renew-requires-clause-room c =
    let a = c.self.inside in
    let below : c.args.ticket.now.group < length a.classes.items = omega arith in
    from_room a.tickets a.marks a.classes.items c.self.invariant c.args.ticket.now.group c.class_of-class.result c.mark_in-from.result c.class_of-class.ensures c.mark_in-from.ensures c.stand_sorted.ensures.rising below

pub invariant_of-self : goal.invariant_of-self
invariant_of-self c =
    let a = c.self.inside in
    sound_left a.tickets a.marks c.remove.new.self c.renew.new.marks a.classes.items c.self.invariant c.args.ticket.now c.class_of-class.result c.mark_in-from.result c.mark_in-to.result c.remove.ensures c.class_of-class.ensures c.mark_in-from.ensures c.mark_in-to.ensures
    c.renew.ensures.stand c.renew.ensures.room
