use Rattle.std.proofs.Common.{◌≡◌, ◌∙◌, ap, arith, filter, length, refl, set, Some, subst, sym}
use Rattle.q_keyed.specs.Numbered.{item_at, Items}
use Rattle.q_sorted.specs.Tickets.{inserted, is_another, Rises, Tickets}
use Rattle.q_candidates.specs.declared.lane.Lane.{Lane}
use Rattle.q_candidates.specs.Filing.{need_ticket}
use Rattle.q_candidates.specs.Sound.{IsFiled, IsLaid}
use Rattle.q_candidates.specs.Suspending.{IsSetAt}
use Rattle.q_candidates.proofs.Making.{after_from}
use Rattle.q_candidates.proofs.Setting.{after_set, fewer_needs, filed_set, laid_set, lane_set}
use Rattle.q_candidates.proofs.index.Index.set_lane.Goals as goal

pub set_class-requires : goal.set_class-requires
set_class-requires c = (c.requires.laid.ages c.args.number c.in-Some.was (sym c.get.ensures ∙ sym c.copied.ensures ∙ c.in-Some.is)).below

pub set_class-requires-2 : goal.set_class-requires-2
set_class-requires-2 c = (c.requires.laid.ranks c.args.number c.in-Some.was (sym c.get.ensures ∙ sym c.copied.ensures ∙ c.in-Some.is)).below

pub insert-requires : goal.insert-requires
insert-requires c =
    let i = c.args.self.now in
    let n = c.args.number in
    let was = c.in-Some.was in
    let there : item_at n i.lanes.items ≡ Some was = sym c.get.ensures ∙ sym c.copied.ensures ∙ c.in-Some.is in
    let is = c.remove.ensures ∙ ap (λ e. record i.needs { items = filter (is_another e) i.needs.items }) c.need_ticket.ensures in
    let rising = subst (λ (w : Tickets). Rises w.items) is c.stand_sorted-3.ensures.rising in
    let fewer = fewer_needs c.args.suspended i n was there c.requires.laid.listed rising in
    omega (arith, fewer, ap (λ (w : Tickets). length w.items) is, ap (λ (w : Tickets). w.room) is, c.stand_apart.ensures.within, c.requires.laid.need_room)

pub returns-clause-laid : goal.returns-clause-laid
returns-clause-laid c =
    let i = c.args.self.now in
    let n = c.args.number in
    let was = c.in-Some.was in
    let there : item_at n i.lanes.items ≡ Some was = sym c.get.ensures ∙ sym c.copied.ensures ∙ c.in-Some.is in
    after_from IsLaid (after_set c.args.suspended i n was there) _ _ _ _ _ c.put.ensures
    (c.set_class.ensures ∙ ap (λ k. record i.ages { classes = set i.ages.classes n k }) c.class_of-class.ensures)
    (c.set_class-2.ensures ∙ ap (λ k. record i.ranks { classes = set i.ranks.classes n k }) c.class_of-class.ensures)
    (c.insert.ensures ∙ ap (λ e. record c.remove.new.self { items = inserted e c.remove.new.self.items }) c.need_ticket-2.ensures
    ∙ ap (λ (w : Tickets). record w { items = inserted (need_ticket n (record was { suspended = c.args.suspended })) w.items })
    (c.remove.ensures ∙ ap (λ e. record i.needs { items = filter (is_another e) i.needs.items }) c.need_ticket.ensures)) refl
    (laid_set c.args.suspended i n was there c.requires.laid c.stand_sorted.ensures.classes c.stand_sorted-2.ensures.classes)

pub returns-clause-filed : goal.returns-clause-filed
returns-clause-filed c = λ ks filed.
    let i = c.args.self.now in
    let n = c.args.number in
    let was = c.in-Some.was in
    let there : item_at n i.lanes.items ≡ Some was = sym c.get.ensures ∙ sym c.copied.ensures ∙ c.in-Some.is in
    after_from (IsFiled ks) (after_set c.args.suspended i n was there) _ _ _ _ _ c.put.ensures
    (c.set_class.ensures ∙ ap (λ k. record i.ages { classes = set i.ages.classes n k }) c.class_of-class.ensures)
    (c.set_class-2.ensures ∙ ap (λ k. record i.ranks { classes = set i.ranks.classes n k }) c.class_of-class.ensures)
    (c.insert.ensures ∙ ap (λ e. record c.remove.new.self { items = inserted e c.remove.new.self.items }) c.need_ticket-2.ensures
    ∙ ap (λ (w : Tickets). record w { items = inserted (need_ticket n (record was { suspended = c.args.suspended })) w.items })
    (c.remove.ensures ∙ ap (λ e. record i.needs { items = filter (is_another e) i.needs.items }) c.need_ticket.ensures)) refl
    (filed_set c.args.suspended i n was there c.stand_apart.ensures.apart ks filed)

pub returns-clause-set : goal.returns-clause-set
returns-clause-set c =
    let i = c.args.self.now in
    let n = c.args.number in
    let was = c.in-Some.was in
    let there : item_at n i.lanes.items ≡ Some was = sym c.get.ensures ∙ sym c.copied.ensures ∙ c.in-Some.is in
    subst (λ (v : Items Lane). IsSetAt c.args.site.now c.args.suspended n i.lanes.items v.items) (sym c.put.ensures)
    (lane_set c.args.suspended i n was there c.args.site.now (sym c.differs.ensures ∙ c.if-not-differs.false))
