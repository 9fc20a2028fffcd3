use Rattle.std.proofs.Common.{sym}
use Rattle.q_text.specs.ValueTexts.{outcome_of}
use Rattle.q_text.proofs.WordLists.{nothing_listed, one_listed}
use Rattle.q_text.proofs.lists.read_outcomes.Goals as goal

pub loop-outcome-init : goal.loop-outcome-init
loop-outcome-init c = rw c.new-list.ensures (nothing_listed (outcome_of c.args.state) c.args.text.now)

pub loop-outcome-preserved : goal.loop-outcome-preserved
loop-outcome-preserved c =
    let words = rw c.in-Some-more.is at c.first_word.ensures.words in
    rw c.in_ok-push.ensures.ok
    (one_listed (outcome_of c.args.state) c.args.text.now c.loop-outcome.list c.loop-outcome.rest.now c.first_word.result.0.now c.in-Some-more.others.now c.in-Some.outcome words (sym c.in-Some.ensures) c.loop-outcome.invariant)
