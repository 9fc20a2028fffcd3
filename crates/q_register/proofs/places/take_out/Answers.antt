use Rattle.std.proofs.Common.{sym, ◌∙◌}
use Rattle.q_register.proofs.Placing.{placed_taken}
use Rattle.q_register.proofs.Standing.{filter_none, filter_sole, find_none, find_sole, one_fewer}
use Rattle.q_register.proofs.places.take_out.Goals as goal

pub returns-in_err-found-clause-taken : goal.returns-in_err-found-clause-taken
returns-in_err-found-clause-taken g c = c.from_residual.ensures ∙ sym (find_none g.K.PartialEq.eq c.args.key.now c.args.places.now.items c.in_err-found.ensures.none)

pub returns-in_err-found-clause-members : goal.returns-in_err-found-clause-members
returns-in_err-found-clause-members g c = sym (filter_none g.K.PartialEq.eq c.args.key.now c.args.places.now.items c.in_err-found.ensures.none)

pub returns-clause-placed : goal.returns-clause-placed
returns-clause-placed g c =
    let f = c.in_ok-found.found in
    rw c.set.ensures (placed_taken g.K.PartialEq.eq g.met.K.Eq.laws c.args.places.now.items c.args.index.now c.args.ranks.now f.place c.requires c.in_ok-found.ensures.some.within)

pub returns-clause-taken : goal.returns-clause-taken
returns-clause-taken g c =
    let f = c.in_ok-found.found in
    let found = c.in_ok-found.ensures.some in
    sym (find_sole g.K.PartialEq.eq c.args.key.now c.args.places.now.items f.place f.member found.stands found.key found.sole)

pub returns-clause-members : goal.returns-clause-members
returns-clause-members g c =
    let f = c.in_ok-found.found in
    let found = c.in_ok-found.ensures.some in
    filter_sole g.K.PartialEq.eq c.args.key.now c.args.places.now.items f.place f.member found.stands found.key found.sole

pub returns-clause-fewer : goal.returns-clause-fewer
returns-clause-fewer g c =
    let f = c.in_ok-found.found in
    one_fewer c.args.places.now.items f.place f.member c.in_ok-found.ensures.some.stands
