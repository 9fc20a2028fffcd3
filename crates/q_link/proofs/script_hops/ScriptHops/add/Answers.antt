use Rattle.std.proofs.Common.{◌≡◌, ◌<◌, ◌+◌, ◌-◌, length, arith, rules}
use Rattle.q_link.specs.Scripts.{with_step}
use Rattle.q_link.specs.Playback.{step_of}
use Rattle.q_link.proofs.HopsSteps.{last_added}
use Rattle.q_link.proofs.Results.{on_ok}
use Rattle.q_link.proofs.script_hops.ScriptHops.add.Goals as goal

pub returns-clause-ok : goal.returns-clause-ok
returns-clause-ok c =
    let some : 0 < length c.self.inside.scripts.items = search rules in
    let last : c.len-last.result - 1 + 1 ≡ length c.self.inside.scripts.items = omega (arith, some, c.len-last.ensures, c.self.inside.scripts.ok.0) in
    on_ok c.add.result (λ e. last_added (with_step (step_of c.args.step)) _ c.args.self.now (c.len-last.result - 1) c.index_mut.result.now c.add.new.self c.self.view_is last c.index_mut.ensures.value e) c.add.ensures.ok
