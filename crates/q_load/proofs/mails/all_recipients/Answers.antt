use Rattle.std.proofs.Common.{◌+◌, ◌∙◌, ap, arith, sym, ℕ}
use Rattle.q_load.specs.Mails.{recipient_count}
use Rattle.q_load.specs.Numbers.{next_number}
use Rattle.q_load.proofs.Counting.{number_more, sum_more}
use Rattle.q_load.proofs.mails.all_recipients.Goals as goal

pub loop-preserved : goal.loop-preserved
loop-preserved c =
    let loop = c.loop.invariant in
    let from = c.from-sum.ensures in
    let few = c.recipient_count.ensures.few in
    let before = loop.few in
    record {
      number = c.next_number-number.ensures ∙ ap next_number loop.number ∙ sym (number_more c.args.mails c.loop.counter);
      sum = ap (λ (n : ℕ). c.loop.sum + n) (from ∙ c.recipient_count.ensures.exact ∙ ap recipient_count c.next_number-number.ensures)
          ∙ sum_more c.args.mails c.loop.counter c.loop.number c.loop.sum loop.number loop.sum;
      few = omega (arith, before, from, few);
    }
