use Rattle.q_load.proofs.Places.{ok_weaker, whole_count}
use Rattle.q_mem_host.specs.Left.{view_of}
use Rattle.q_walk.specs.Listed.{all_queues, listed}
use Rattle.q_load.proofs.remaining.count_left.Goals as goal

pub returns-clause-exact : goal.returns-clause-exact
returns-clause-exact c =
    let f = (view_of c.args.host.now).files in
    ok_weaker c.count_messages.result (λ count h b stands. whole_count f b count stands (h b (listed all_queues b) stands (c.in_ok-walk.ensures f b stands))) c.count_messages.ensures.exact
