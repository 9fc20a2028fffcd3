use Rattle.std.proofs.Common.{◌≡◌, vec_len, vec_capacity}
use Rattle.q_smtp.specs.Codes.{put_off}
use Rattle.q_session.proofs.outcomes.put_off.Given as goal

abbrev pub invariant-loop : goal.invariant-loop
invariant-loop l = record {
  items : l.room.items ≡ put_off l.counter;
  count : vec_len l.room ≡ l.counter;
  room : vec_capacity l.room ≡ vec_capacity l.fn.room;
}
