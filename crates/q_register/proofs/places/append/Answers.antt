use Rattle.std.proofs.Common.{rules, ap, ◌∙◌}
use Rattle.q_register.specs.Places.{members_of}
use Rattle.q_register.proofs.Placing.{placed_added}
use Rattle.q_register.proofs.Standing.{absent_if_unfound, members-added}
use Rattle.q_register.proofs.places.append.Goals as goal

pub returns-clause-placed : goal.returns-clause-placed
returns-clause-placed g c =
    let eq = g.K.PartialEq.eq in
    let xs = c.args.places.now.items in
    let placed = placed_added eq g.met.K.Eq.laws xs c.args.index.now c.enter.new.index c.args.ranks.now c.args.member c.len-place.result (search rules) c.requires.placed (absent_if_unfound eq c.args.member.key xs c.requires.absent) c.enter.ensures.updates (search rules) in
    rw c.push_reserved.ensures.items (rw c.set.ensures placed)

pub returns-clause-members : goal.returns-clause-members
returns-clause-members g c = ap members_of c.push_reserved.ensures.items ∙ members-added c.args.places.now.items c.args.member
