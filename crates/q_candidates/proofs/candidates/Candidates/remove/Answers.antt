use Rattle.std.proofs.Common.{◌∙◌, ap, filter, not, subst, sym}
use Rattle.q_keyed.specs.Numbered.{Items, values_of, without_number}
use Rattle.q_rounds.proofs.ItemSets.{unless_none}
use Rattle.q_candidates.specs.Candidates.{is_of, Listed}
use Rattle.q_candidates.specs.declared.candidate.Candidate.{Candidate}
use Rattle.q_sorted.specs.Tickets.{is_another}
use Rattle.q_candidates.specs.Filing.{arrival_ticket}
use Rattle.q_candidates.specs.Suspending.{AreIn, sites_of}
use Rattle.q_candidates.proofs.SuspendedSites.{sites_left}
use Rattle.q_candidates.proofs.ArrivalLaws.{arrived_out}
use Rattle.q_candidates.proofs.Listing.{held, left_out, none_left_out}
use Rattle.q_candidates.proofs.Steps.{fit_less, is_less, sound_from}
use Rattle.q_candidates.proofs.Views.{listed_of}
use Rattle.q_candidates.proofs.candidates.Candidates.remove.Goals as goal

pub returns-in_default-clause-left : goal.returns-in_default-clause-left
returns-in_default-clause-left c =
    let a = c.self.inside in
    sym c.self.view_is
    ∙ ap (λ cs. listed_of cs (sites_of a.index.lanes.items) a.candidates.room) (sym (none_left_out c.args.id c.args.site.now a.candidates.items (sym c.find.ensures.is ∙ c.in_default.is)))
    ∙ ap (λ (v : Listed). listed_of (filter (λ x. not (is_of c.args.id c.args.site.now x)) v.items) v.suspended v.room) c.self.view_is

pub returns-in_default-clause-suspended : goal.returns-in_default-clause-suspended
returns-in_default-clause-suspended c = λ s h. h

pub returns-in_default-copied-clause-left : goal.returns-in_default-copied-clause-left
returns-in_default-copied-clause-left c =
    let a = c.self.inside in
    let it = held c.args.id c.args.site.now c.in-Some.number a.candidates.items c.find.ensures.apart c.find.ensures.keys (sym c.find.ensures.is ∙ c.in-Some.is) in
    absurd (unless_none _ it.0 (sym (c.copied.ensures ∙ c.get.ensures) ∙ c.in_default-copied.is) it.1)

pub invariant_of-self : goal.invariant_of-self
invariant_of-self c =
    let a = c.self.inside in
    let n = c.in-Some.number in
    sound_from _ a.candidates (without_number n a.candidates.items) _ a.index _ a.arrivals (filter (is_another (arrival_ticket n c.in-Some-copied.candidate)) a.arrivals.items) c.remove-candidate.ensures.items (fit_less n a.candidates.items c.self.invariant.ordered.fit) c.leave.ensures.laid
    (c.leave.ensures.filed a.candidates.items (without_number n a.candidates.items) c.self.invariant.ordered.filed (sym (c.copied.ensures ∙ c.get.ensures) ∙ c.in-Some-copied.is) (is_less n a.candidates.items))
    c.leave.ensures.room c.self.invariant.ordered.room
    (c.remove.ensures ∙ ap (λ e. record a.arrivals { items = filter (is_another e) a.arrivals.items }) c.arrival_ticket.ensures)
    (arrived_out n c.in-Some-copied.candidate a.candidates.items (without_number n a.candidates.items) a.arrivals.items c.self.invariant.arrived (sym (c.copied.ensures ∙ c.get.ensures) ∙ c.in-Some-copied.is) (is_less n a.candidates.items)) c.self.invariant.arrival_room

pub returns-clause-left : goal.returns-clause-left
returns-clause-left c =
    let a = c.self.inside in
    ap (λ (v : Items Candidate). listed_of (values_of v.items) (sites_of c.leave.new.self.lanes.items) v.room) c.remove-candidate.ensures.items
    ∙ ap (λ cs. listed_of cs (sites_of c.leave.new.self.lanes.items) a.candidates.room) (left_out c.args.id c.args.site.now c.in-Some.number a.candidates.items c.find.ensures.apart c.find.ensures.keys (sym c.find.ensures.is ∙ c.in-Some.is))
    ∙ ap (λ (v : Listed). listed_of (filter (λ x. not (is_of c.args.id c.args.site.now x)) v.items) (sites_of c.leave.new.self.lanes.items) v.room) c.self.view_is

pub returns-clause-suspended : goal.returns-clause-suspended
returns-clause-suspended c =
    let lanes = c.leave.new.self.lanes.items in
    subst (λ (v : Listed). AreIn v.suspended (sites_of lanes)) c.self.view_is (sites_left c.self.inside.index.lanes.items lanes c.stand_apart.ensures.apart c.leave.ensures.lanes)
