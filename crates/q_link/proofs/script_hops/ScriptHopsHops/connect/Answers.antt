use Rattle.std.proofs.Common.{rules}
use Rattle.q_link.proofs.script_hops.ScriptHopsHops.connect.Goals as goal

pub returns-in-Some-clause-counts : goal.returns-in-Some-clause-counts
returns-in-Some-clause-counts c = record { connect_faults = search rules; rests = search rules; link_faults = search rules; link_ends = search rules }
