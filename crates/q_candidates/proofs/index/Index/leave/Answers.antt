use Rattle.std.proofs.Common.{◌∙◌, ap, find, filter, refl, subst, sym}
use Rattle.std.specs.Option.{is_some}
use Rattle.q_heads.specs.Lanes.{Lanes}
use Rattle.q_keyed.specs.Numbered.{item_at, Items}
use Rattle.q_rounds.proofs.ItemSets.{unless_none}
use Rattle.q_sorted.specs.Tickets.{is_another, is_of}
use Rattle.q_candidates.specs.declared.lane.Lane.{Lane}
use Rattle.q_candidates.specs.Filing.{age_key, AreLeft, lane_of, rank_key, ticket_with}
use Rattle.q_candidates.specs.Sound.{IsLaid}
use Rattle.q_candidates.proofs.Entering.{laid_with}
use Rattle.q_candidates.proofs.Making.{after_from}
use Rattle.q_candidates.proofs.TicketLaws.{none_from, some_from}
use Rattle.q_candidates.proofs.Leaving.{filed_kept, filed_less, gone_for, laid_less, lane_there, lanes_left, less_lane}
use Rattle.q_candidates.proofs.index.Index.leave.Goals as goal

pub returns-in_default-clause-filed : goal.returns-in_default-clause-filed
returns-in_default-clause-filed c = λ ks new filed there changed.
    let q = c.args.candidate.now in
    let at = some_from (lane_of q.site q.need c.args.self.now.lanes.items) (filed.laned c.args.number q there) in
    absurd (unless_none (lane_of q.site q.need c.args.self.now.lanes.items) at.0 (sym c.lane_of.ensures ∙ c.in_default.is) at.1)

pub returns-then-is_some-clause-laid : goal.returns-then-is_some-clause-laid
returns-then-is_some-clause-laid c = laid_with c.args.self.now c.remove.new.self c.remove-2.new.self _ _ c.remove.ensures c.remove-2.ensures c.requires.laid

pub returns-then-is_some-clause-filed : goal.returns-then-is_some-clause-filed
returns-then-is_some-clause-filed c = λ ks new filed there changed.
    let i = c.args.self.now in
    let q = c.args.candidate.now in
    let n = c.args.number in
    let lane = c.in-Some.lane in
    let apart = c.stand_apart.ensures.apart in
    let keys = c.stand_apart.ensures.keys in
    let own = sym c.lane_of.ensures ∙ c.in-Some.is in
    let xs = ap (λ (s : Lanes). s.items) c.remove.ensures ∙ ap (λ e. filter (is_another e) i.ages.items) c.age_ticket.ensures in
    let ys = ap (λ (s : Lanes). s.items) c.remove-2.ensures ∙ ap (λ e. filter (is_another e) i.ranks.items) c.rank_ticket.ensures in
    let e = some_from (find (is_of lane) c.remove.new.self.items) (ap is_some (sym c.first_of_lane.ensures) ∙ sym c.is_some.ensures ∙ c.if-is_some.true) in
    filed_kept i apart keys q n lane own ks new filed there changed (filter (is_another (ticket_with age_key lane n q)) i.ages.items) (filter (is_another (ticket_with rank_key lane n q)) i.ranks.items)
    (gone_for i apart keys q n lane own ks new filed there changed age_key i.ages.items filed.aged) (gone_for i apart keys q n lane own ks new filed there changed rank_key i.ranks.items filed.ranked)
    e.0 c.remove.new.self c.remove-2.new.self (ap (find (is_of lane)) (sym xs) ∙ e.1) xs ys

pub returns-in_default-remove-clause-laid : goal.returns-in_default-remove-clause-laid
returns-in_default-remove-clause-laid c =
    let i = c.args.self.now in
    let l = lane_there i c.stand_apart.ensures.apart c.stand_apart.ensures.keys c.args.candidate.now c.args.number c.in-Some.lane (sym c.lane_of.ensures ∙ c.in-Some.is) in
    absurd (unless_none (item_at c.in-Some.lane i.lanes.items) l.0 (sym c.remove-3.ensures.taken ∙ c.in_default-remove.is) l.1)

pub returns-in_default-remove-clause-filed : goal.returns-in_default-remove-clause-filed
returns-in_default-remove-clause-filed c =
    let i = c.args.self.now in
    let l = lane_there i c.stand_apart.ensures.apart c.stand_apart.ensures.keys c.args.candidate.now c.args.number c.in-Some.lane (sym c.lane_of.ensures ∙ c.in-Some.is) in
    absurd (unless_none (item_at c.in-Some.lane i.lanes.items) l.0 (sym c.remove-3.ensures.taken ∙ c.in_default-remove.is) l.1)

pub returns-in_default-remove-clause-lanes : goal.returns-in_default-remove-clause-lanes
returns-in_default-remove-clause-lanes c =
    let i = c.args.self.now in
    let l = lane_there i c.stand_apart.ensures.apart c.stand_apart.ensures.keys c.args.candidate.now c.args.number c.in-Some.lane (sym c.lane_of.ensures ∙ c.in-Some.is) in
    absurd (unless_none (item_at c.in-Some.lane i.lanes.items) l.0 (sym c.remove-3.ensures.taken ∙ c.in_default-remove.is) l.1)

pub returns-clause-laid : goal.returns-clause-laid
returns-clause-laid c =
    let i = c.args.self.now in
    let q = c.args.candidate.now in
    let lane = c.in-Some.lane in
    let gone = c.in-Some-remove.gone in
    let apart = c.stand_apart.ensures.apart in
    let keys = c.stand_apart.ensures.keys in
    let own = sym c.lane_of.ensures ∙ c.in-Some.is in
    after_from IsLaid (less_lane i apart keys q c.args.number lane own gone c.remove.new.self c.remove-2.new.self) _ _ _ _ _ c.remove-3.ensures.items refl refl
    (c.remove-4.ensures ∙ ap (λ e. record i.needs { items = filter (is_another e) i.needs.items }) c.need_ticket.ensures)
    (c.remove-5.ensures ∙ ap (λ e. record i.sites { items = filter (is_another e) i.sites.items }) c.site_ticket.ensures)
    (laid_less i apart keys q c.args.number lane own gone c.remove.new.self c.remove-2.new.self (sym c.remove-3.ensures.taken ∙ c.in-Some-remove.is)
    (laid_with i c.remove.new.self c.remove-2.new.self _ _ c.remove.ensures c.remove-2.ensures c.requires.laid))

pub returns-clause-filed : goal.returns-clause-filed
returns-clause-filed c = λ ks new filed there changed.
    let i = c.args.self.now in
    let q = c.args.candidate.now in
    let n = c.args.number in
    let lane = c.in-Some.lane in
    let apart = c.stand_apart.ensures.apart in
    let keys = c.stand_apart.ensures.keys in
    let own = sym c.lane_of.ensures ∙ c.in-Some.is in
    let xs = ap (λ (s : Lanes). s.items) c.remove.ensures ∙ ap (λ e. filter (is_another e) i.ages.items) c.age_ticket.ensures in
    let ys = ap (λ (s : Lanes). s.items) c.remove-2.ensures ∙ ap (λ e. filter (is_another e) i.ranks.items) c.rank_ticket.ensures in
    filed_less i apart keys q n lane own ks new filed there changed (filter (is_another (ticket_with age_key lane n q)) i.ages.items) (filter (is_another (ticket_with rank_key lane n q)) i.ranks.items)
    (gone_for i apart keys q n lane own ks new filed there changed age_key i.ages.items filed.aged) (gone_for i apart keys q n lane own ks new filed there changed rank_key i.ranks.items filed.ranked)
    (ap (find (is_of lane)) (sym xs) ∙ none_from (find (is_of lane) c.remove.new.self.items) (ap is_some (sym c.first_of_lane.ensures) ∙ sym c.is_some.ensures ∙ c.if-is_some.false))
    c.remove-3.new.self c.remove.new.self c.remove-2.new.self c.remove-4.new.self c.remove-5.new.self (ap (λ (v : Items _). v.items) c.remove-3.ensures.items) xs ys

pub returns-clause-lanes : goal.returns-clause-lanes
returns-clause-lanes c =
    let i = c.args.self.now in
    subst (λ (v : Items Lane). AreLeft i.lanes.items v.items) (sym c.remove-3.ensures.items)
    (lanes_left i c.stand_apart.ensures.apart c.stand_apart.ensures.keys c.args.candidate.now c.args.number c.in-Some.lane (sym c.lane_of.ensures ∙ c.in-Some.is))
