use Rattle.std.proofs.Common.{◌≡◌, ap, List, [], None}
use Rattle.q_mem_host.specs.Record.{history}
use Rattle.q_mem_host.specs.declared.record.Call.{Call}
use Rattle.q_mem_host.proofs.History.{nothing_yet, nothing_left}
use Rattle.q_mem_host.proofs.Keeping.{keeps_start}
use Rattle.q_mem_host.proofs.mem_host.MemHost.new.Goals as goal

none_noted : (calls : List Call) → calls ≡ [] → history calls None ≡ []
none_noted calls none = ap (λ (l : List Call). history l None) none

pub invariant_of-result : goal.invariant_of-result
invariant_of-result c = keeps_start _ _ _ c.new.ensures.items c.new-2.ensures.items (none_noted c.new-3.result.items c.new-3.ensures.items)

pub returns-clause-empty : goal.returns-clause-empty
returns-clause-empty c = nothing_yet (history c.new-3.result.items None) (none_noted c.new-3.result.items c.new-3.ensures.items)

pub returns-clause-remains : goal.returns-clause-remains
returns-clause-remains c = nothing_left (history c.new-3.result.items None) (none_noted c.new-3.result.items c.new-3.ensures.items)
