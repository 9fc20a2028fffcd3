use Rattle.std.proofs.Common.{◌∙◌, ◌∷◌, ◌++◌, ◌<◌, [], ap, arith, set, subst, sym}
use Rattle.std.specs.Option.{is_some}
use Rattle.q_heads.specs.Lanes.{Lanes}
use Rattle.q_keyed.specs.Numbered.{Items}
use Rattle.q_turns.proofs.LaneLaws.{lane_made, none_from}
use Rattle.q_turns.specs.declared.lane.Lane.{Lane}
use Rattle.q_turns.specs.Heading.{lane_of}
use Rattle.q_turns.specs.Laning.{HasMade}
use Rattle.q_turns.specs.Suspending.{class_at}
use Rattle.q_turns.proofs.laning.make_lane.Goals as goal

pub returns-clause-made : goal.returns-clause-made
returns-clause-made c =
    let site = c.args.site.now in
    let lanes = c.args.lanes.now in
    let heads = c.args.heads.now in
    let n = c.push-lane.result in
    let class = class_at c.args.suspended.now.items in
    let none = none_from (lane_of site lanes.items) (ap is_some (sym c.find.ensures.is) ∙ sym c.is_some.ensures ∙ c.if-is_some.false) in
    let below : n < heads.lanes = omega (arith, c.push-lane.ensures.below, c.requires.known) in
    subst (λ (v : Items Lane). HasMade class site lanes.items v.items heads c.set_class.new.self) (sym c.push-lane.ensures.items)
    (subst (λ (s : Lanes). HasMade class site lanes.items (lanes.items ++ record { number = n; item = record { site = site } } ∷ []) heads s)
    (sym (c.set_class.ensures ∙ ap (λ k. record heads { classes = set heads.classes n k }) c.class_at.ensures))
    (lane_made class site lanes.items heads n c.push-lane.ensures.fresh none below c.stand_sorted.ensures.classes))
