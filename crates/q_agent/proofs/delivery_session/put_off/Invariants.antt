use Rattle.std.proofs.Common.{◌≡◌, vec_len, vec_capacity}
use Rattle.q_smtp.specs.Codes.{put_off}
use Rattle.q_agent.proofs.delivery_session.put_off.Given as goal

abbrev pub invariant-loop : goal.invariant-loop
invariant-loop l = record {
  items : l.outcomes.items ≡ put_off l.counter;
  count : vec_len l.outcomes ≡ l.counter;
  room : vec_capacity l.outcomes ≡ vec_capacity l.initial.outcomes;
}
