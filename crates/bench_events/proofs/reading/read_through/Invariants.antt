use Rattle.bench_events.proofs.reading.read_through.Given as goal

abbrev pub decreases-loop-count : goal.decreases-loop-count
decreases-loop-count g l = l.events.budget
