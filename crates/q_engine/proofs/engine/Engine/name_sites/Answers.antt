use Rattle.std.proofs.Common.{◌∙◌, ◌++◌, [], ◌∷◌, ap, arith}
use Rattle.q_model.specs.Values.{Taken}
use Rattle.q_transport.specs.Routing.{table_of}
use Rattle.q_engine.proofs.CarriedLoads.{many_named, named_next}
use Rattle.q_core.specs.declared.state.Core.{Core}
use Rattle.q_engine.specs.declared.engine.Engine.{Engine}
use Rattle.q_engine.proofs.engine.Engine.name_sites.Goals as goal

pub loop-i-preserved : goal.loop-i-preserved
loop-i-preserved c =
    let so_far = c.loop-i.self in
    named_next c.args.self.now so_far c.sited.new.self c.args.taken.now.items c.loop-i.i c.get-recipient.result c.route-site.result c.loop-i.invariant c.get-recipient.ensures
    (c.route-site.ensures.exact ∙ ap (λ (t : Taken). (table_of so_far.table).route t.address) c.recipient.view_is) (c.sited.ensures ∙ ap (λ (k : Core). record k { named = k.named ++ c.route-site.result ∷ [] }) c.deref_mut.ensures.value)

pub sited-requires : goal.sited-requires
sited-requires c =
    let items = c.args.taken.now.items in
    let so_far = c.deref_mut.ensures.value ∙ ap (λ (e : Engine). e.core.value) c.loop-i.invariant in
    many_named c.args.self.now c.deref_mut.result.now items c.loop-i.i (omega (arith, c.loop-i-test.true)) c.requires.asked c.requires.named so_far
