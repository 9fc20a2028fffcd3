use Rattle.std.proofs.Common.{◌≡◌, ◌∙◌, ◌==◌, ap, filter, find, None, not, option_map, refl, Some, sym}
use Rattle.q_core.proofs.MessageTies.{messages_same}
use Rattle.q_core.proofs.PoolTies.{heads_recounted}
use Rattle.q_core.proofs.ProcessLaws.{processes_left}
use Rattle.q_core.proofs.SiteChanges.{sites_landed, sites_settled}
use Rattle.q_core.proofs.SiteViews.{settled_used}
use Rattle.q_core.proofs.TiedLaws.{tied_landed}
use Rattle.q_flights.proofs.Rising.{whole}
use Rattle.q_flights.specs.Flying.{delivery_shown, Flying, has_number}
use Rattle.q_core.specs.Counting.{without_flight}
use Rattle.q_core.specs.Queries.{flight_in}
use Rattle.q_core.specs.State.{State}
use Rattle.q_core.specs.Known.{known_records}
use Rattle.q_core.specs.Lists.{moved_back}
use Rattle.q_core.specs.UsedSites.{is_left_in, used_in}
use Rattle.q_dest.specs.Dests.{Dests, is_kept, landed, settled}
use Rattle.q_core.specs.View.{state_of}
use Rattle.q_model.specs.declared.rows.Delivery.{Delivery}
use Rattle.q_pool.specs.Kept.{heads}
use Rattle.q_pool.specs.Pooled.{Pooled}
use Rattle.q_core.proofs.DeadLaws.{alike_settled}
use Rattle.q_core.specs.Ties.{goes_to_dead}
use Rattle.q_held.proofs.Tested.{tested_alike}
use Rattle.q_held.specs.Held.{rows_of}
use Rattle.q_core.proofs.SuspendedLaws.{rest_settled, suspended_same}
use Rattle.q_core.proofs.state.Core.land.Goals as goal

-- none has the number

pub returns-in_default-clause-landed : goal.returns-in_default-clause-landed
returns-in_default-clause-landed c =
    let a = c.self.inside in
    let none : find (has_number c.args.number) a.flights.items ≡ None = sym c.get.ensures ∙ ap (option_map delivery_shown) c.in_default.is in
    let same : filter (λ (f : Delivery). not (f.number == c.args.number)) a.flights.items ≡ a.flights.items = whole c.args.number a.flights.items none in
    record {
      rest = refl;
      flights = sym (ap (λ (s : State). s.flights) c.self.view_is) ∙ sym same ∙ ap (λ (s : State). filter (λ (f : Delivery). not (f.number == c.args.number)) s.flights) c.self.view_is;
    }

pub returns-in_default-clause-left : goal.returns-in_default-clause-left
returns-in_default-clause-left c = λ f at.
    let bad : None ≡ Some f = sym (ap (option_map delivery_shown) c.in_default.is) ∙ c.get.ensures ∙ ap (λ (s : State). flight_in s c.args.number) c.self.view_is ∙ at in cc

-- it goes

pub invariant_of-self : goal.invariant_of-self
invariant_of-self c =
    let a = c.self.inside in
    let rows = rows_of a.waiting.items in
    let f = delivery_shown c.in-Some.delivery in
    let at : find (λ (x : Delivery). x.number == c.args.number) a.flights.items ≡ Some f = sym c.get.ensures ∙ ap (option_map delivery_shown) c.in-Some.is in
    let fs = filter (λ (x : Delivery). not (x.number == c.args.number)) a.flights.items in
    let left : c.remove.new.self.items ≡ fs = ap (λ (v : Flying). v.items) c.remove.ensures.items in
    let slots : heads c.end_flight.new.pool.items ≡ heads a.admitted.items = ap (λ (m : Pooled). heads m.items) c.end_flight.ensures ∙ heads_recounted without_flight f.row.id a.admitted.items in
    let sites : c.land.new.self.items ≡ filter is_kept (settled f.row.site landed a.sites.items) = ap (λ (x : Dests). x.items) c.land.ensures in (
      rw left (tied_landed a.params a.admitted c.end_flight.new.pool rows a.flights.items a.unsettled.items a.starts c.args.number f at c.stand_apart.ensures.rise c.end_flight.ensures c.self.invariant.0),
      rw slots c.self.invariant.1,
      rw (sites, left) (sites_settled rows fs f.row.site landed (λ d. refl) a.sites.items c.stand_apart-2.ensures.apart
          (sites_landed rows a.flights.items c.args.number f a.sites.items c.stand_apart.ensures.rise at c.self.invariant.2)),
      c.self.invariant.3,
      rw sites (tested_alike (goes_to_dead a.sites.items) (goes_to_dead (filter is_kept (settled f.row.site landed a.sites.items))) a.waiting.items
          (λ r. sym (alike_settled f.row.site landed (λ d. refl) a.sites.items c.stand_apart-2.ensures.apart r)) c.self.invariant.4),
      messages_same a.params a.schedule (heads a.admitted.items) c.self.invariant.5 _ slots,
      rw c.remove.ensures.items (record {
        deliveries = processes_left a.params a.transports a.flights (λ (x : Delivery). not (x.number == c.args.number)) c.self.invariant.6.deliveries;
        asked = c.self.invariant.6.asked;
        names = c.self.invariant.6.names;
        named_few = c.self.invariant.6.named_few;
        outcomes = c.self.invariant.6.outcomes;
        codes = c.self.invariant.6.codes;
        dated = c.self.invariant.6.dated;
      }),
      rw (ap (λ (x : Dests). x.room) c.land.ensures) c.self.invariant.7,
      rw (ap (λ (v : Flying). v.most) c.remove.ensures.items) c.self.invariant.8,
      rw sites (suspended_same a.sites.items (filter is_kept (settled f.row.site landed a.sites.items)) a.schedule.suspended (rest_settled f.row.site landed (λ d. refl) a.sites.items c.stand_apart-2.ensures.apart) c.self.invariant.9),
    )

pub returns-clause-landed : goal.returns-clause-landed
returns-clause-landed c =
    let a = c.self.inside in
    let slots : heads c.end_flight.new.pool.items ≡ heads a.admitted.items = ap (λ (m : Pooled). heads m.items) c.end_flight.ensures ∙ heads_recounted without_flight (delivery_shown c.in-Some.delivery).row.id a.admitted.items in
    record {
      rest = ap (λ ss. record (state_of a) { admitted = ss; flights = c.remove.new.self.items; sites = c.args.self.now.sites }) slots ∙ ap (λ (s : State). record s { flights = c.remove.new.self.items; sites = c.args.self.now.sites }) c.self.view_is;
      flights = ap (λ (v : Flying). v.items) c.remove.ensures.items ∙ ap (λ (s : State). filter (λ (f : Delivery). not (f.number == c.args.number)) s.flights) c.self.view_is;
    }

pub returns-clause-left : goal.returns-clause-left
returns-clause-left c = λ g found.
    let a = c.self.inside in
    let rows = rows_of a.waiting.items in
    let f = delivery_shown c.in-Some.delivery in
    let at : find (λ (x : Delivery). x.number == c.args.number) a.flights.items ≡ Some f = sym c.get.ensures ∙ ap (option_map delivery_shown) c.in-Some.is in
    let both : Some f ≡ Some g = sym at ∙ ap (λ (s : State). flight_in s c.args.number) c.self.view_is ∙ found in
    let it : f ≡ g = cc in
    let fs = filter (λ (x : Delivery). not (x.number == c.args.number)) a.flights.items in
    ap (λ (x : Dests). known_records x.items) c.land.ensures
    ∙ settled_used rows fs f.row.site landed (λ d. refl) a.sites.items c.stand_apart-2.ensures.apart
    (sites_landed rows a.flights.items c.args.number f a.sites.items c.stand_apart.ensures.rise at c.self.invariant.2)
    ∙ ap (λ gs. used_in rows gs (moved_back (is_left_in rows gs f.row.site) (known_records a.sites.items))) (sym (ap (λ (v : Flying). v.items) c.remove.ensures.items))
    ∙ ap (λ (s : State). used_in rows c.remove.new.self.items (moved_back (is_left_in rows c.remove.new.self.items f.row.site) s.sites)) c.self.view_is
    ∙ ap (λ (x : Delivery). used_in rows c.remove.new.self.items (moved_back (is_left_in rows c.remove.new.self.items x.row.site) c.args.self.now.sites)) it
