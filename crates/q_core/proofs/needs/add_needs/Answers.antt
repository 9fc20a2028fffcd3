use Rattle.std.proofs.Common.{◌∙◌, ◌++◌, ◌<◌, ap, subst, sym, get_or, length, take}
use Rattle.std.specs.Option.{option_copied}
use Rattle.q_core.proofs.NeedsLaws.{added_more, needs_fit}
use Rattle.q_core.specs.Needs.{need_at, needs_in}
use Rattle.q_model.specs.declared.rows.Unsettled.{Unsettled}
use Rattle.q_queue.specs.Queued.{Queued}
use Rattle.q_core.proofs.needs.add_needs.Goals as goal

pub add_need-requires : goal.add_need-requires
add_need-requires c =
    let q = c.args.unsettled.now in
    subst (λ (x : Queued Unsettled). length x.items < x.room) (sym c.loop-i.invariant)
    (needs_fit q.items q.room c.args.expired c.args.id c.loop-i.i c.args.positions.now c.args.outcomes.now c.loop-i-test.true c.requires)

pub loop-i-preserved : goal.loop-i-preserved
loop-i-preserved c =
    let i = c.loop-i.i in
    let q = c.args.unsettled.now in
    let e = c.args.expired in
    let id = c.args.id in
    let ps = c.args.positions.now in
    let os = c.args.outcomes.now in
    c.add_need.ensures
    ∙ ap (λ (x : Queued Unsettled). record x { items = x.items ++ need_at e id (get_or ps i 0) (option_copied c.outcome_at.result) }) c.loop-i.invariant
    ∙ ap (λ o. record q { items = (q.items ++ needs_in e id (take i ps) os) ++ need_at e id (get_or ps i 0) o }) c.outcome_at.ensures
    ∙ added_more q id e i ps os c.loop-i-test.true
