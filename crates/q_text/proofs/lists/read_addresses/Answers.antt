use Rattle.q_text.specs.ValueTexts.{plain_of}
use Rattle.q_text.proofs.WordLists.{nothing_listed}
use Rattle.q_text.proofs.lists.read_addresses.Goals as goal

pub loop-receiver-init : goal.loop-receiver-init
loop-receiver-init c = rw c.new-list.ensures (nothing_listed plain_of c.args.text.now)
