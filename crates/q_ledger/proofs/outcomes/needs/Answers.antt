use Rattle.std.proofs.Common.{◌∙◌, ◌++◌, ap, sym, add-one, take, get_or}
use Rattle.std.specs.Option.{option_copied}
use Rattle.q_ledger.proofs.NeedsLaws.{needs_more}
use Rattle.q_ledger.specs.Needs.{need_at, needs_in}
use Rattle.q_ledger.proofs.outcomes.needs.Goals as goal

pub loop-i-preserved : goal.loop-i-preserved
loop-i-preserved c =
    let i = c.loop-i.i in
    let ps = c.args.positions.now in
    let os = c.args.outcomes.now in
    c.in_ok-add_need.ensures
    ∙ ap (λ xs. xs ++ need_at c.args.expired c.args.id (get_or ps i 0) (option_copied c.outcome_at.result)) c.loop-i.invariant
    ∙ ap (λ o. needs_in c.args.expired c.args.id (take i ps) os ++ need_at c.args.expired c.args.id (get_or ps i 0) o) c.outcome_at.ensures
    ∙ sym (needs_more c.args.expired c.args.id i ps os c.loop-i-test.true)
    ∙ ap (λ n. needs_in c.args.expired c.args.id (take n ps) os) (sym (add-one i))
