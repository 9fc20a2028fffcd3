use Rattle.std.proofs.Common.{◌∙◌, ap, find, not, subst, sym}
use Rattle.std.specs.Option.{option_copied}
use Rattle.q_sorted.specs.Tickets.{goes_before}
use Rattle.q_candidates.specs.Choosing.{IsNextNeed}
use Rattle.q_candidates.proofs.NeedLaws.{lane_from, no_lane, none_from, other_from, past_most}
use Rattle.q_candidates.proofs.index.Index.next_need.Goals as goal

pub returns-in_err-next : goal.returns-in_err-next
returns-in_err-next c =
    let i = c.args.self.now in
    let next = c.first_from.ensures.is ∙ ap (λ e. find (λ x. not (goes_before x e)) i.needs.items) c.cut_at.ensures in
    subst (IsNextNeed c.args.transport c.args.from c.args.most i.lanes.items) (sym c.from_residual.ensures)
    (none_from i.lanes.items i.needs.items c.requires.listed c.first_from.ensures.rising c.args.transport c.args.from c.args.most (sym next ∙ c.in_err-next.was))

pub returns-then-next-from : goal.returns-then-next-from
returns-then-next-from c =
    let i = c.args.self.now in
    let next = c.first_from.ensures.is ∙ ap (λ e. find (λ x. not (goes_before x e)) i.needs.items) c.cut_at.ensures in
    other_from i.lanes.items i.needs.items c.requires.listed c.first_from.ensures.rising c.args.transport c.args.from c.args.most c.in_ok-next.next (sym next ∙ c.in_ok-next.was) (λ same. c.if-next-from.true (same ∙ sym c.from.ensures))

pub returns-in_err-lane : goal.returns-in_err-lane
returns-in_err-lane c =
    let i = c.args.self.now in
    let next = c.first_from.ensures.is ∙ ap (λ e. find (λ x. not (goes_before x e)) i.needs.items) c.cut_at.ensures in
    absurd (no_lane i.lanes.items i.needs.items c.requires.listed c.first_from.ensures.rising c.args.transport c.args.from c.args.most c.in_ok-next.next (sym next ∙ c.in_ok-next.was) (sym c.get.ensures ∙ ap option_copied c.in_err-lane.was))

pub returns-then-lane-most : goal.returns-then-lane-most
returns-then-lane-most c =
    let i = c.args.self.now in
    let next = c.first_from.ensures.is ∙ ap (λ e. find (λ x. not (goes_before x e)) i.needs.items) c.cut_at.ensures in
    past_most i.lanes.items i.needs.items c.requires.listed c.first_from.ensures.rising c.args.transport c.args.from c.args.most c.in_ok-next.next (sym next ∙ c.in_ok-next.was) c.in_ok-lane.lane.now (sym c.get.ensures ∙ ap option_copied c.in_ok-lane.was) (c.if-next-from.false ∙ c.from.ensures) c.if-lane-most.true

pub returns : goal.returns
returns c =
    let i = c.args.self.now in
    let next = c.first_from.ensures.is ∙ ap (λ e. find (λ x. not (goes_before x e)) i.needs.items) c.cut_at.ensures in
    lane_from i.lanes.items i.needs.items c.requires.listed c.first_from.ensures.rising c.args.transport c.args.from c.args.most c.in_ok-next.next (sym next ∙ c.in_ok-next.was) c.in_ok-lane.lane.now (sym c.get.ensures ∙ ap option_copied c.in_ok-lane.was) (c.if-next-from.false ∙ c.from.ensures) c.if-lane-most.false
