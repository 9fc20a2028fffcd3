use Rattle.std.proofs.Common.{◌<◌, length, refl, rules, subst}
use Rattle.q_link.specs.ScriptHops.{IsSentIn, ScriptHops}
use Rattle.q_link.proofs.HopsSteps.{sent_in}
use Rattle.q_link.proofs.script_hops.ScriptHops.sent.Goals as goal

pub returns : goal.returns
returns c =
    let within : c.args.i < length c.self.inside.records.items = search rules in
    subst (λ (h : ScriptHops). IsSentIn h c.args.i c.sent.result.now) c.self.view_is
    (sent_in c.self.inside.tells _ c.self.inside.records.items c.args.i c.index.result.now c.sent.result.now refl within c.index.ensures c.sent.ensures)
