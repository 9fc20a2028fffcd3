use Rattle.std.proofs.Common.{sym}
use Rattle.q_numbers.specs.Numbers.{number32_of}
use Rattle.q_text.proofs.WordLists.{nothing_listed, one_listed}
use Rattle.q_text.proofs.lists.read_positions.Goals as goal

pub loop-position-init : goal.loop-position-init
loop-position-init c = rw c.new-list.ensures (nothing_listed number32_of c.args.text.now)

pub loop-position-preserved : goal.loop-position-preserved
loop-position-preserved c =
    let words = rw c.in-Some-more.is at c.first_word.ensures.words in
    rw c.in_ok-push.ensures.ok
    (one_listed number32_of c.args.text.now c.loop-position.list c.loop-position.rest.now c.first_word.result.0.now c.in-Some-more.others.now c.in-Some.position words (sym c.in-Some.ensures.exact) c.loop-position.invariant)
