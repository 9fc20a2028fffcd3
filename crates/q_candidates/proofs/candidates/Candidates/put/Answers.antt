use Rattle.std.proofs.Common.{filter, ◌≡◌, ◌∙◌, ◌∷◌, ◌++◌, ◌<◌, [], ap, arith, find, length, map, None, Option, refl, Some, subst, sym}
use Rattle.std.proofs.lemmas.List.{length-map}
use Rattle.std.specs.Option.{is_some}
use Rattle.std.specs.Prelude.{IfSome}
use Rattle.q_keyed.specs.Numbered.{first_such, Items, Numbered, put_at, values_of, without_number}
use Rattle.q_rounds.proofs.ItemSets.{free_item, unless_none}
use Rattle.q_rounds.proofs.Lookups.{fewer_at, own_left}
use Rattle.q_rounds.specs.Rounds.{key_eq}
use Rattle.q_candidates.specs.Candidates.{is_of, key_of, Listed, put_in}
use Rattle.q_candidates.specs.declared.candidate.Candidate.{Candidate}
use Rattle.q_sorted.specs.Tickets.{Tickets, inserted, is_another}
use Rattle.q_candidates.specs.Filing.{arrival_at, arrival_ticket}
use Rattle.q_candidates.specs.Suspending.{AreInWith, sites_of}
use Rattle.q_candidates.proofs.SuspendedSites.{left_from, sites_with}
use Rattle.q_candidates.proofs.ArrivalLaws.{arrived_in, arrived_out, most_arrivals}
use Rattle.q_rounds.specs.Listing.{AreTickets}
use Rattle.q_candidates.proofs.Listing.{held, none_of, put_new, put_old, same_key}
use Rattle.q_candidates.proofs.Steps.{fit_less, fit_set, is_less, is_more, is_put, sound_from}
use Rattle.q_candidates.proofs.Views.{listed_of}
use Rattle.q_candidates.proofs.candidates.Candidates.put.Goals as goal

pub push-number-requires-clause-room : goal.push-number-requires-clause-room
push-number-requires-clause-room c =
    let ks = c.self.inside.candidates.items in
    let x = c.args.candidate in
    let none : first_such (is_of x.id x.site) ks ≡ None = sym (c.find.ensures.is ∙ ap (λ k. first_such (λ t. key_eq (key_of t) k) ks) c.key.ensures) ∙ c.in_default.is in
    let room = subst (λ (v : Listed). find (is_of x.id x.site) v.items ≡ None → length v.items < v.room) (sym c.self.view_is) c.requires.room (none_of x.id x.site ks none) in
    omega (arith, room, length-map ks (λ (k : Numbered Candidate). k.item))

pub enter-requires-clause-space : goal.enter-requires-clause-space
enter-requires-clause-space c =
    let ks = c.self.inside.candidates.items in
    let x = c.args.candidate in
    let none : first_such (is_of x.id x.site) ks ≡ None = sym (c.find.ensures.is ∙ ap (λ k. first_such (λ t. key_eq (key_of t) k) ks) c.key.ensures) ∙ c.in_default.is in
    let room = subst (λ (v : Listed). find (is_of x.id x.site) v.items ≡ None → length v.items < v.room) (sym c.self.view_is) c.requires.room (none_of x.id x.site ks none) in
    record {
      candidates = ks;
      filed = c.self.invariant.ordered.filed;
      fewer = omega (arith, room, length-map ks (λ (k : Numbered Candidate). k.item), c.self.invariant.ordered.room);
    }

pub invariant_of-self : goal.invariant_of-self
invariant_of-self c =
    let a = c.self.inside in
    let ks = a.candidates.items in
    let x = c.args.candidate in
    let n = c.push-number.result in
    let more = is_more n x ks c.push-number.ensures.fresh in
    sound_from _ a.candidates (ks ++ record { number = n; item = x } ∷ []) _ a.index _ a.arrivals (inserted (arrival_ticket n x) a.arrivals.items) c.push-number.ensures.items
    (fit_set n x ks (ks ++ record { number = n; item = x } ∷ []) more (record { some = c.requires.some; ranked = omega arith }) c.self.invariant.ordered.fit) c.enter.ensures.laid
    (c.enter.ensures.filed ks (ks ++ record { number = n; item = x } ∷ []) c.self.invariant.ordered.filed (free_item n ks c.push-number.ensures.fresh) more)
    c.enter.ensures.room c.self.invariant.ordered.room
    (c.insert.ensures ∙ ap (λ e. record a.arrivals { items = inserted e a.arrivals.items }) c.arrival_ticket.ensures)
    (arrived_in n x ks (ks ++ record { number = n; item = x } ∷ []) a.arrivals.items c.self.invariant.arrived (free_item n ks c.push-number.ensures.fresh) more) c.self.invariant.arrival_room

pub returns-in_default-clause-put : goal.returns-in_default-clause-put
returns-in_default-clause-put c =
    let a = c.self.inside in
    let ks = a.candidates.items in
    let x = c.args.candidate in
    let none : first_such (is_of x.id x.site) ks ≡ None = sym (c.find.ensures.is ∙ ap (λ k. first_such (λ t. key_eq (key_of t) k) ks) c.key.ensures) ∙ c.in_default.is in
    let ss = sites_of c.enter.new.self.lanes.items in
    ap (λ (v : Items Candidate). listed_of (values_of v.items) ss v.room) c.push-number.ensures.items
    ∙ ap (λ cs. listed_of cs ss a.candidates.room) (put_new x c.push-number.result ks none)
    ∙ ap (λ (v : Listed). listed_of (put_in x v.items) ss v.room) c.self.view_is

pub returns-in_default-copied-clause-put : goal.returns-in_default-copied-clause-put
returns-in_default-copied-clause-put c =
    let ks = c.self.inside.candidates.items in
    let x = c.args.candidate in
    let here : first_such (is_of x.id x.site) ks ≡ Some c.in-Some.number = sym (c.find.ensures.is ∙ ap (λ k. first_such (λ t. key_eq (key_of t) k) ks) c.key.ensures) ∙ c.in-Some.is in
    let it = held x.id x.site c.in-Some.number ks c.find.ensures.apart c.find.ensures.keys here in
    absurd (unless_none _ it.0 (sym (c.copied.ensures ∙ c.get.ensures) ∙ c.in_default-copied.is) it.1)

pub put-requires : goal.put-requires
put-requires c =
    let ks = c.self.inside.candidates.items in
    let x = c.args.candidate in
    let n = c.in-Some.number in
    let here : first_such (is_of x.id x.site) ks ≡ Some n = sym (c.find.ensures.is ∙ ap (λ k. first_such (λ t. key_eq (key_of t) k) ks) c.key.ensures) ∙ c.in-Some.is in
    let it = held x.id x.site n ks c.find.ensures.apart c.find.ensures.keys here in
    subst (λ (o : Option Candidate). IfSome o (λ t. key_of t ≡ key_of x)) (sym it.1) (same_key x.id x.site n ks c.find.ensures.apart c.find.ensures.keys here x refl)

pub enter-requires-2-clause-space : goal.enter-requires-2-clause-space
enter-requires-2-clause-space c =
    let ks = c.self.inside.candidates.items in
    let n = c.in-Some.number in
    let there = sym (c.copied.ensures ∙ c.get.ensures) ∙ c.in-Some-copied.is in
    record {
      candidates = without_number n ks;
      filed = c.leave.ensures.filed ks (without_number n ks) c.self.invariant.ordered.filed there (is_less n ks);
      fewer = omega (arith, fewer_at n ks (ap is_some there), c.find.ensures.within, c.leave.ensures.room, c.self.invariant.ordered.room);
    }

pub invariant_of-self-2 : goal.invariant_of-self-2
invariant_of-self-2 c =
    let a = c.self.inside in
    let ks = a.candidates.items in
    let x = c.args.candidate in
    let n = c.in-Some.number in
    let there = sym (c.copied.ensures ∙ c.get.ensures) ∙ c.in-Some-copied.is in
    let put = is_put n c.in-Some-copied.was x ks there in
    sound_from _ a.candidates (map (put_at n x) ks) _ a.index _ a.arrivals (inserted (arrival_ticket n x) (filter (is_another (arrival_ticket n c.in-Some-copied.was)) a.arrivals.items)) c.put.ensures
    (fit_set n x (without_number n ks) (map (put_at n x) ks) put (record { some = c.requires.some; ranked = omega arith }) (fit_less n ks c.self.invariant.ordered.fit)) c.enter-2.ensures.laid
    (c.enter-2.ensures.filed (without_number n ks) (map (put_at n x) ks) (c.leave.ensures.filed ks (without_number n ks) c.self.invariant.ordered.filed there (is_less n ks)) (own_left n ks) put)
    (c.enter-2.ensures.room ∙ c.leave.ensures.room) c.self.invariant.ordered.room
    (c.insert-2.ensures ∙ ap (λ e. record c.remove.new.self { items = inserted e c.remove.new.self.items }) c.arrival_ticket-3.ensures
    ∙ ap (λ (w : Tickets). record w { items = inserted (arrival_ticket n x) w.items }) (c.remove.ensures ∙ ap (λ e. record a.arrivals { items = filter (is_another e) a.arrivals.items }) c.arrival_ticket-2.ensures))
    (arrived_in n x (without_number n ks) (map (put_at n x) ks) (filter (is_another (arrival_ticket n c.in-Some-copied.was)) a.arrivals.items)
    (arrived_out n c.in-Some-copied.was ks (without_number n ks) a.arrivals.items c.self.invariant.arrived there (is_less n ks)) (own_left n ks) put) c.self.invariant.arrival_room

pub returns-clause-put : goal.returns-clause-put
returns-clause-put c =
    let a = c.self.inside in
    let ks = a.candidates.items in
    let x = c.args.candidate in
    let n = c.in-Some.number in
    let here : first_such (is_of x.id x.site) ks ≡ Some n = sym (c.find.ensures.is ∙ ap (λ k. first_such (λ t. key_eq (key_of t) k) ks) c.key.ensures) ∙ c.in-Some.is in
    let ss = sites_of c.enter-2.new.self.lanes.items in
    ap (λ (v : Items Candidate). listed_of (values_of v.items) ss v.room) c.put.ensures
    ∙ ap (λ cs. listed_of cs ss a.candidates.room) (put_old x.id x.site n ks c.find.ensures.apart c.find.ensures.keys here x refl refl)
    ∙ ap (λ (v : Listed). listed_of (put_in x v.items) ss v.room) c.self.view_is

pub insert-requires : goal.insert-requires
insert-requires c =
    let a = c.self.inside in
    let ks = a.candidates.items in
    let x = c.args.candidate in
    let none : first_such (is_of x.id x.site) ks ≡ None = sym (c.find.ensures.is ∙ ap (λ k. first_such (λ t. key_eq (key_of t) k) ks) c.key.ensures) ∙ c.in_default.is in
    let room = subst (λ (v : Listed). find (is_of x.id x.site) v.items ≡ None → length v.items < v.room) (sym c.self.view_is) c.requires.room (none_of x.id x.site ks none) in
    omega (arith, room, length-map ks (λ (k : Numbered Candidate). k.item), most_arrivals ks a.arrivals.items c.self.invariant.arrived c.stand_sorted.ensures.rising, c.self.invariant.arrival_room)

pub insert-requires-2 : goal.insert-requires-2
insert-requires-2 c =
    let a = c.self.inside in
    let ks = a.candidates.items in
    let n = c.in-Some.number in
    let there = sym (c.copied.ensures ∙ c.get.ensures) ∙ c.in-Some-copied.is in
    let is = c.remove.ensures ∙ ap (λ e. record a.arrivals { items = filter (is_another e) a.arrivals.items }) c.arrival_ticket-2.ensures in
    let arrived = subst (λ (w : Tickets). AreTickets (arrival_at (without_number n ks)) w.items) (sym is) (arrived_out n c.in-Some-copied.was ks (without_number n ks) a.arrivals.items c.self.invariant.arrived there (is_less n ks)) in
    omega (arith, most_arrivals (without_number n ks) c.remove.new.self.items arrived c.stand_sorted-2.ensures.rising, fewer_at n ks (ap is_some there), c.find.ensures.within, ap (λ (w : Tickets). w.room) is, c.self.invariant.arrival_room)

pub returns-in_default-clause-suspended : goal.returns-in_default-clause-suspended
returns-in_default-clause-suspended c =
    let site = c.args.candidate.site in
    let b = c.args.suspended in
    let lanes = c.enter.new.self.lanes.items in
    subst (λ (v : Listed). AreInWith site b v.suspended (sites_of lanes)) c.self.view_is
    (sites_with site b c.self.inside.index.lanes.items lanes c.stand_apart.ensures.apart c.enter.ensures.lanes)

pub returns-in_default-copied-clause-suspended : goal.returns-in_default-copied-clause-suspended
returns-in_default-copied-clause-suspended c =
    let ks = c.self.inside.candidates.items in
    let x = c.args.candidate in
    let here : first_such (is_of x.id x.site) ks ≡ Some c.in-Some.number = sym (c.find.ensures.is ∙ ap (λ k. first_such (λ t. key_eq (key_of t) k) ks) c.key.ensures) ∙ c.in-Some.is in
    let it = held x.id x.site c.in-Some.number ks c.find.ensures.apart c.find.ensures.keys here in
    absurd (unless_none _ it.0 (sym (c.copied.ensures ∙ c.get.ensures) ∙ c.in_default-copied.is) it.1)

pub returns-clause-suspended : goal.returns-clause-suspended
returns-clause-suspended c =
    let site = c.args.candidate.site in
    let b = c.args.suspended in
    let old = c.self.inside.index.lanes.items in
    let lanes = c.enter-2.new.self.lanes.items in
    subst (λ (v : Listed). AreInWith site b v.suspended (sites_of lanes)) c.self.view_is
    (sites_with site b old lanes c.stand_apart-2.ensures.apart (left_from site b old c.leave.new.self.lanes.items lanes c.leave.ensures.lanes c.enter-2.ensures.lanes))
