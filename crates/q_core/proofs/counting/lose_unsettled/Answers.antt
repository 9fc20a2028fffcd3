use Rattle.std.proofs.Common.{map, ap, ◌∙◌, Option, sym}
use Rattle.std.specs.Option.{option_map_or}
use Rattle.q_core.specs.Counting.{counted_as, without_unsettled}
use Rattle.q_pool.specs.Kept.{counted_at}
use Rattle.q_pool.specs.declared.kept.Kept.{Kept}
use Rattle.q_core.proofs.counting.lose_unsettled.Goals as goal

pub returns-in-Some : goal.returns-in-Some
returns-in-Some c =
    let old = c.args.pool.now in
    let kept = c.in-Some.kept in
    c.count.ensures
    ∙ ap (λ n. record old { items = map (counted_at c.args.id kept.waiting kept.flying n) old.items }) c.saturating_sub-unsettled.ensures
    ∙ ap (λ (o : Option Kept). record old { items = option_map_or (λ k. counted_as c.args.id ((without_unsettled c.args.outcomes) k) old.items) o old.items }) (sym (sym c.get.ensures ∙ sym c.copied.ensures ∙ c.in-Some.is))

pub returns-in_default : goal.returns-in_default
returns-in_default c =
    let old = c.args.pool.now in
    ap (λ (o : Option Kept). record old { items = option_map_or (λ k. counted_as c.args.id ((without_unsettled c.args.outcomes) k) old.items) o old.items }) (sym (sym c.get.ensures ∙ sym c.copied.ensures ∙ c.in_default.is))
