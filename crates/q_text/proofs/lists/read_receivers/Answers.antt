use Rattle.q_text.specs.ValueTexts.{receiver_of}
use Rattle.q_text.proofs.WordLists.{nothing_listed}
use Rattle.q_text.proofs.lists.read_receivers.Goals as goal

pub loop-receiver-init : goal.loop-receiver-init
loop-receiver-init c = rw c.new-list.ensures (nothing_listed receiver_of c.args.text.now)
