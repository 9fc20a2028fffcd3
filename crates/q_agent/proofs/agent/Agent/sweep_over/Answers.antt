use Rattle.std.proofs.Common.{◌∙◌, ap, sym, ◌==◌, ℕ}
use Rattle.q_agent.proofs.Kept.{over_same, rising}
use Rattle.q_agent.proofs.agent.Agent.sweep_over.Goals as goal

pub place_above-requires : goal.place_above-requires
place_above-requires g c = rising g.L.Link.view c.self.inside.sessions c.self.inside.slots.items c.deref.result.now c.self.invariant c.deref.ensures.value

pub returns : goal.returns
returns g c =
    let p = c.place_above in
    ap (λ (n : ℕ). p.result == n) (c.len.ensures ∙ sym c.deref.ensures.len)
    ∙ over_same g.L.Link.view c.self.inside.sessions c.self.inside.slots.items c.deref.result.now c.self.inside.polled p.result c.args.self.now c.self.view_is c.deref.ensures.value p.ensures.within p.ensures.place
