use Rattle.std.proofs.Common.{◌≡◌, ◌∙◌, ap, arith, None, set, sym}
use Rattle.q_keyed.specs.Numbered.{Items}
use Rattle.q_sorted.specs.Tickets.{inserted}
use Rattle.q_candidates.specs.declared.lane.Lane.{Lane}
use Rattle.q_candidates.specs.Filing.{HasGrown, lane_of}
use Rattle.q_candidates.specs.Sound.{IsLaid}
use Rattle.q_candidates.proofs.Making.{after, after_from, made_grown, made_laid, made_own, most_needs, most_sites}
use Rattle.q_candidates.proofs.index.Index.make_lane.Goals as goal

pub insert-requires : goal.insert-requires
insert-requires c =
    let i = c.args.self.now in
    omega (arith, most_needs i.lanes.items i.needs.items c.requires.laid.listed c.stand_sorted-3.ensures.rising, c.requires.room, c.requires.laid.need_room)

pub insert-requires-2 : goal.insert-requires-2
insert-requires-2 c =
    let i = c.args.self.now in
    omega (arith, most_sites i.lanes.items i.sites.items c.requires.laid.sited c.stand_sorted-4.ensures.rising, c.requires.room, c.requires.laid.site_room)

pub returns-clause-laid : goal.returns-clause-laid
returns-clause-laid c =
    let i = c.args.self.now in
    let site = c.args.site.now in
    let need = c.args.need in
    let b = c.args.suspended in
    let n = c.push-number.result in
    let none : lane_of site need i.lanes.items ≡ None = sym c.lane_of.ensures ∙ c.in_default.is in
    after_from IsLaid (after site need b i n) _ _ _ _ _ c.push-number.ensures.items
    (c.set_class.ensures ∙ ap (λ k. record i.ages { classes = set i.ages.classes n k }) c.class_of-class.ensures)
    (c.set_class-2.ensures ∙ ap (λ k. record i.ranks { classes = set i.ranks.classes n k }) c.class_of-class.ensures)
    (c.insert.ensures ∙ ap (λ e. record i.needs { items = inserted e i.needs.items }) c.need_ticket.ensures)
    (c.insert-2.ensures ∙ ap (λ e. record i.sites { items = inserted e i.sites.items }) c.site_ticket.ensures)
    (made_laid site need b i n c.requires.laid c.push-number.ensures.fresh none c.push-number.ensures.below c.stand_sorted.ensures.classes c.stand_sorted-2.ensures.classes)

pub returns-clause-own : goal.returns-clause-own
returns-clause-own c =
    let i = c.args.self.now in
    let site = c.args.site.now in
    let need = c.args.need in
    let none : lane_of site need i.lanes.items ≡ None = sym c.lane_of.ensures ∙ c.in_default.is in
    ap (λ (v : Items Lane). lane_of site need v.items) c.push-number.ensures.items
    ∙ made_own site need c.args.suspended i c.push-number.result c.requires.laid c.push-number.ensures.fresh none c.push-number.ensures.below

pub returns-clause-grown : goal.returns-clause-grown
returns-clause-grown c =
    let i = c.args.self.now in
    let site = c.args.site.now in
    let need = c.args.need in
    let b = c.args.suspended in
    let n = c.push-number.result in
    let none : lane_of site need i.lanes.items ≡ None = sym c.lane_of.ensures ∙ c.in_default.is in
    after_from (HasGrown site need b i) (after site need b i n) _ _ _ _ _ c.push-number.ensures.items
    (c.set_class.ensures ∙ ap (λ k. record i.ages { classes = set i.ages.classes n k }) c.class_of-class.ensures)
    (c.set_class-2.ensures ∙ ap (λ k. record i.ranks { classes = set i.ranks.classes n k }) c.class_of-class.ensures)
    (c.insert.ensures ∙ ap (λ e. record i.needs { items = inserted e i.needs.items }) c.need_ticket.ensures)
    (c.insert-2.ensures ∙ ap (λ e. record i.sites { items = inserted e i.sites.items }) c.site_ticket.ensures)
    (made_grown site need b i n c.requires.laid c.push-number.ensures.fresh none c.push-number.ensures.below)
