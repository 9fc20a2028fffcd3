use Rattle.std.proofs.Common.{◌∙◌, ◌++◌, ◌∷◌, ◌<◌, [], ap, subst, sym, get_or, length}
use Rattle.q_core.proofs.NeedsLaws.{failed_more, put_off_fit}
use Rattle.q_model.specs.declared.outcome.Why.TheVariants.{Expired}
use Rattle.q_model.specs.declared.rows.Need.TheVariants.{Log}
use Rattle.q_model.specs.declared.rows.Unsettled.{Unsettled}
use Rattle.q_queue.specs.Queued.{Queued}
use Rattle.q_core.proofs.needs.add_failures.Goals as goal

pub push-requires : goal.push-requires
push-requires c =
    let q = c.args.unsettled.now in
    subst (λ (x : Queued Unsettled). length x.items < x.room) (sym c.loop-i.invariant)
    (put_off_fit q.items q.room c.args.id c.loop-i.i c.args.positions.now c.loop-i-test.true c.requires)

pub loop-i-preserved : goal.loop-i-preserved
loop-i-preserved c =
    let i = c.loop-i.i in
    let q = c.args.unsettled.now in
    let id = c.args.id in
    let ps = c.args.positions.now in
    let new : Unsettled = record { id = id; position = get_or ps i 0; need = Log Expired 0 } in
    c.push.ensures
    ∙ ap (λ (x : Queued Unsettled). record x { items = x.items ++ new ∷ [] }) c.loop-i.invariant
    ∙ failed_more q id i ps c.loop-i-test.true
