use Rattle.std.proofs.Common.{◌≡◌, ◌*◌, ◌≤◌, map}
use Rattle.std.specs.List.{range_with_len}
use Rattle.std.specs.Prelude.{sum_by}
use Rattle.q_load.specs.Mails.{recipient_count}
use Rattle.q_load.specs.Numbers.{number_of}
use Rattle.q_load.proofs.mails.all_recipients.Given as goal

abbrev pub invariant-loop : goal.invariant-loop
invariant-loop l = record {
  number : l.number ≡ number_of l.mails l.counter;
  sum : l.sum ≡ sum_by recipient_count (map (number_of l.mails) (range_with_len 1 l.counter));
  few : l.sum ≤ 20 * l.counter;
}
