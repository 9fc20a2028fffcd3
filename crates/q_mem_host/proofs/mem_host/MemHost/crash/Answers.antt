use Rattle.q_mem_host.proofs.Sound.{crash_allowed, crash_durable}
use Rattle.q_mem_host.proofs.mem_host.MemHost.crash.Goals as goal

pub returns-clause-allowed : goal.returns-clause-allowed
returns-clause-allowed c = crash_allowed c.args.self.history c.fall_down.new.self.history c.args.choice c.fall_down.ensures.left

pub returns-clause-durable : goal.returns-clause-durable
returns-clause-durable c = crash_durable c.args.self.history c.fall_down.new.self.history c.args.choice c.fall_down.ensures.left
