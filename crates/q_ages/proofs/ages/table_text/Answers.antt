use Rattle.std.proofs.Common.{[]}
use Rattle.q_ages.proofs.FewCounts.{few_counts}
use Rattle.q_ages.specs.Counting.{counted}
use Rattle.q_ages.proofs.ages.table_text.Goals as goal

pub returns-clause-table : goal.returns-clause-table
returns-clause-table g c t b stands =
    let request = c.args.request.now in
    let counts = counted request.senders c.args.now request.queues b in
    c.in_ok-text.ensures request.shape counts
    (c.in_ok-count_queues.ensures.counted t b stands request.shape [] c.new-table.ensures (few_counts (g.H.Host.view c.args.host.now).files b request.senders c.args.now request.queues stands))
