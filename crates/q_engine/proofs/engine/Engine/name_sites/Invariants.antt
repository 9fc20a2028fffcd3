use Rattle.std.proofs.Common.{◌≡◌, ◌++◌, take}
use Rattle.q_engine.specs.Loads.{sites_of}
use Rattle.q_engine.proofs.engine.Engine.name_sites.Given as goal

-- so many sites were named, and nothing else changed
abbrev pub invariant-loop-i : goal.invariant-loop-i
invariant-loop-i l = l.self ≡ record l.fn.self { core = record l.fn.self.core { value = record l.fn.self.core.value { named = l.fn.self.core.value.named ++ sites_of l.fn.self (take l.i l.taken.items) } } }
