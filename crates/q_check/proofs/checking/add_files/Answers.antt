use Rattle.q_host.proofs.Stays.{stays_on}
use Rattle.q_check.proofs.ConfTexts.{files-added}
use Rattle.q_check.proofs.checking.add_files.Goals as goal

pub returns-clause-added : goal.returns-clause-added
returns-clause-added g c t =
    let view = g.H.Host.view in
    let first = c.in_ok-add_queues.ensures.stays t in
    let both = stays_on (view c.args.host.now) (view c.add_queues.new.host) (view c.add_queue.new.host) first (c.in_ok-add_queue.ensures.stays t) in
    let passed = c.in_ok-add_queues.ensures.added t in
    let damaged = c.in_ok-add_queue.ensures.added t in
    files-added (view c.args.host.now).files (view c.add_queues.new.host).files (view c.add_queue.new.host).files c.in_ok-damage.damage c.args.text.now.items c.add_queues.new.text.items c.add_queue.new.text.items
    c.add_damage.new.text.items passed.0 damaged.0 first.files both.files passed.1 passed.2 damaged.1 damaged.2 (c.in_ok-damage.ensures.damage t) c.in_ok-add_damage.ensures
