use Rattle.std.proofs.Common.{◌∙◌, ◌∷◌, ◌++◌, [], ap, sym, arith, find}
use Rattle.q_register.specs.Members.{has_key}
use Rattle.q_register.proofs.Gathered.{apart_before, one_more}
use Rattle.q_register.proofs.together.put_back.Goals as goal

pub append-requires-clause-absent : goal.append-requires-clause-absent
append-requires-clause-absent g c =
    let eq = g.K.PartialEq.eq in
    let e = c.kept_at.result in
    ap (find (has_key eq e.key)) c.loop-i.invariant.members ∙ apart_before eq g.met.K.Eq.laws c.args.kept.now c.loop-i.i e c.requires.apart c.kept_at.ensures

pub loop-i-preserved : goal.loop-i-preserved
loop-i-preserved g c = record {
  placed = c.append.ensures.placed;
  members = c.append.ensures.members ∙ ap (λ es. es ++ c.kept_at.result ∷ []) c.loop-i.invariant.members ∙ sym (one_more c.args.kept.now c.loop-i.i c.kept_at.result c.kept_at.ensures);
  len = omega (arith, c.append.ensures.len, c.loop-i.invariant.len);
  capacity = c.append.ensures.capacity ∙ c.loop-i.invariant.capacity;
  ranks = c.append.ensures.ranks ∙ c.loop-i.invariant.ranks;
  fewer = omega (arith, c.append.ensures.index, c.loop-i.invariant.fewer);
  room = omega (arith, c.append.ensures.index_room, c.loop-i.invariant.room);
}
