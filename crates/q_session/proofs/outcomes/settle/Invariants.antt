use Rattle.std.proofs.Common.{◌≡◌, map, take, vec_len, vec_capacity}
use Rattle.q_smtp.specs.Codes.{outcome_by}
use Rattle.q_session.proofs.outcomes.settle.Given as goal

abbrev pub invariant-loop-code : goal.invariant-loop-code
invariant-loop-code l = record {
  items : l.room.items ≡ map (outcome_by l.last) (take l.code-index l.answers);
  count : vec_len l.room ≡ l.code-index;
  room : vec_capacity l.room ≡ vec_capacity l.fn.room;
}
