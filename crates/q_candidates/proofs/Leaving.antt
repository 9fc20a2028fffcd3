-- A candidate goes from the index, and with it its lane where it was the last one there.
use Rattle.std.proofs.Common.{◌≡◌, ◌≢◌, ◌∙◌, ap, inl, inr, List, None, option_map, refl, Some, subst, sym, ℕ, ◌⊎◌}
use Rattle.std.proofs.lemmas.Bool.{both_ways, cases_eq, eq-eqb, eqb-true, false_from_ne_true}
use Rattle.std.specs.Option.{is_some}
use Rattle.std.specs.Prelude.{◌==◌, filter, find}
use Rattle.q_heads.proofs.Standing.{found, none_found}
use Rattle.q_heads.specs.Lanes.{Lanes}
use Rattle.q_keyed.proofs.Values.{held_item}
use Rattle.q_keyed.specs.Numbered.{AreApart, AreKeysApart, item_at, Items, Numbered, without_number}
use Rattle.q_rounds.proofs.Entered.{alike, entered, go, ticket_own}
use Rattle.q_rounds.proofs.ItemSets.{unless_none}
use Rattle.q_rounds.proofs.Lookups.{other_left, own_left, such_left}
use Rattle.q_rounds.specs.Listing.{AreTickets}
use Rattle.q_sorted.specs.declared.ticket.Ticket.{Ticket}
use Rattle.q_sorted.specs.Tickets.{Tickets, is_another, is_of}
use Rattle.q_candidates.specs.declared.candidate.Candidate.{Candidate}
use Rattle.q_candidates.specs.declared.index.Index.{Index}
use Rattle.q_candidates.specs.declared.lane.Lane.{Lane}
use Rattle.q_candidates.specs.Filing.{age_key, AreLeft, ticket_at, ticket_with, IsChanged, is_lane, key_of_lane, lane_eq, lane_of, need_at, need_ticket, rank_key, site_at, site_ticket}
use Rattle.q_candidates.specs.Sound.{IsFiled, IsLaid, IsUsed}
use Rattle.q_candidates.proofs.TicketLaws.{ticket_is, ticket_none, ticket_same, ticket_stays, ticket_tells}
use Rattle.q_candidates.proofs.Lanes.{lane_named, lane_own, lane_parts}

module _ (i : Index) (apart : AreApart i.lanes.items) (keys : AreKeysApart lane_eq key_of_lane i.lanes.items) (c : Candidate) (n lane : ℕ) (own : lane_of c.site c.need i.lanes.items ≡ Some lane) where
  -- it is there
  pub lane_there : (l : Lane) × (item_at lane i.lanes.items ≡ Some l)
  lane_there = let it = held_item (is_lane c.site c.need) lane i.lanes.items apart own in (it.0, it.1)

  -- the lane's own key leads to it alone
  is_its : (m : ℕ) (l : Lane) → item_at m i.lanes.items ≡ Some l → l.site ≡ c.site → l.need ≡ c.need → m ≡ lane
  is_its m l h site need =
      let both : Some m ≡ Some lane = sym (lane_own m l i.lanes.items keys h) ∙ ap (λ s. lane_of s l.need i.lanes.items) site ∙ ap (λ d. lane_of c.site d i.lanes.items) need ∙ own in
      cc

  module _ (ks new : List (Numbered Candidate)) (filed : IsFiled ks i) (there : item_at n ks ≡ Some c) (changed : IsChanged n None ks new) where
    pub gone_for : (key : Candidate → ℕ) (xs : List Ticket) → AreTickets (ticket_at key i.lanes.items ks) xs → AreTickets (ticket_at key i.lanes.items new) (filter (is_another (ticket_with key lane n c)) xs)
    gone_for key xs are =
        go (ticket_at key i.lanes.items ks) (ticket_at key i.lanes.items new) xs are n
        (λ m other. ticket_stays key i.lanes.items ks new m (changed.others m other))
        (ticket_with key lane n c) (ticket_is key i.lanes.items ks n lane c there own) (ticket_none key i.lanes.items new n changed.own) refl

    was : (m : ℕ) (q : Candidate) → item_at m new ≡ Some q → item_at m ks ≡ Some q
    was m q h = sym (changed.others m (λ same. unless_none (item_at n new) q changed.own (ap (λ x. item_at x new) (sym same) ∙ h))) ∙ h

    -- a lane whose candidate stays is used, and so is any that isn't the one's own
    stays_step : (m : ℕ) (l : Lane) → item_at m i.lanes.items ≡ Some l → (u : IsUsed l.site l.need ks) → (u.number ≡ n) ⊎ (u.number ≢ n) → (m ≡ lane → IsUsed l.site l.need new) → IsUsed l.site l.need new
    stays_step m l h u (inr other) mine = record { number = u.number; candidate = u.candidate; there = changed.others u.number other ∙ u.there; at = u.at; needs = u.needs }
    stays_step m l h u (inl same) mine =
        let some : Some u.candidate ≡ Some c = sym u.there ∙ ap (λ x. item_at x ks) same ∙ there in
        let its : u.candidate ≡ c = cc in
        mine (is_its m l h (sym u.at ∙ ap (λ (y : Candidate). y.site) its) (sym u.needs ∙ ap (λ (y : Candidate). y.need) its))

    module _ (xs ys : List Ticket) (aged : AreTickets (ticket_at age_key i.lanes.items new) xs) (ranked : AreTickets (ticket_at rank_key i.lanes.items new) ys) where
      -- a ticket is left in the lane
      used_by : (e : Ticket) (l : Lane) → item_at lane i.lanes.items ≡ Some l → find (is_of lane) xs ≡ Some e → IsUsed l.site l.need new
      used_by e l h first =
          let it = found (is_of lane) e xs first in
          let mine = ticket_tells age_key i.lanes.items new e.item e (ticket_own (ticket_at age_key i.lanes.items new) xs e aged it.0) in
          let parts = lane_named mine.candidate.site mine.candidate.need lane i.lanes.items l apart (mine.lane ∙ ap Some (eqb-true e.group lane it.1)) h in
          record { number = e.item; candidate = mine.candidate; there = mine.there; at = sym parts.0; needs = sym parts.1 }

      pub filed_kept : (e : Ticket) (ages ranks : Lanes) → find (is_of lane) xs ≡ Some e → ages.items ≡ xs → ranks.items ≡ ys → IsFiled new (record i { ages = ages; ranks = ranks })
      filed_kept e ages ranks first a r = record {
        aged = subst (AreTickets (ticket_at age_key i.lanes.items new)) (sym a) aged;
        ranked = subst (AreTickets (ticket_at rank_key i.lanes.items new)) (sym r) ranked;
        laned = λ m q h. filed.laned m q (was m q h);
        used = λ m l h. stays_step m l h (filed.used m l h) (cases_eq (filed.used m l h).number n) (λ mine. used_by e l (ap (λ x. item_at x i.lanes.items) (sym mine) ∙ h) first);
      }

      module _ (none : find (is_of lane) xs ≡ None) where
        abbrev rest : List (Numbered Lane)
        rest = without_number lane i.lanes.items

        -- no candidate is left in the lane
        not_its : (m : ℕ) (q : Candidate) → item_at m new ≡ Some q → lane_of q.site q.need i.lanes.items ≡ Some lane → ⊥
        not_its m q h at =
            let e = ticket_with age_key lane m q in
            let stood = entered (ticket_at age_key i.lanes.items new) xs m e aged (ticket_is age_key i.lanes.items new m lane q h at) refl in
            both_ways (e.group == lane) (none_found (is_of lane) e xs none stood) (eq-eqb lane lane refl)

        lane_stays : (m : ℕ) (q : Candidate) → item_at m new ≡ Some q → lane_of q.site q.need rest ≡ lane_of q.site q.need i.lanes.items
        lane_stays m q h =
            such_left (is_lane q.site q.need) lane lane_there.0 i.lanes.items apart lane_there.1
            (false_from_ne_true (is_lane q.site q.need lane_there.0) (λ mine.
            let parts = lane_parts q.site q.need lane_there.0 mine in
            not_its m q h (ap (λ s. lane_of s q.need i.lanes.items) (sym parts.0) ∙ ap (λ d. lane_of lane_there.0.site d i.lanes.items) (sym parts.1) ∙ lane_own lane lane_there.0 i.lanes.items keys lane_there.1)))

        left_for : (key : Candidate → ℕ) (zs : List Ticket) → AreTickets (ticket_at key i.lanes.items new) zs → AreTickets (ticket_at key rest new) zs
        left_for key zs are = alike (ticket_at key i.lanes.items new) (ticket_at key rest new) zs are (λ m. ticket_same key i.lanes.items rest new m (λ q h. lane_stays m q h))

        not_gone : (m : ℕ) (l : Lane) → item_at m rest ≡ Some l → m ≢ lane
        not_gone m l h same = unless_none (item_at lane rest) l (own_left lane i.lanes.items) (ap (λ x. item_at x rest) (sym same) ∙ h)

        lane_was : (m : ℕ) (l : Lane) → item_at m rest ≡ Some l → item_at m i.lanes.items ≡ Some l
        lane_was m l h = sym (other_left lane m i.lanes.items (not_gone m l h)) ∙ h

        pub filed_less : (lanes : Items Lane) (ages ranks : Lanes) (needs sites : Tickets) → lanes.items ≡ rest → ages.items ≡ xs → ranks.items ≡ ys → IsFiled new (record { lanes = lanes; ages = ages; ranks = ranks; needs = needs; sites = sites })
        filed_less lanes ages ranks needs sites r a k = record {
          aged = subst (AreTickets (ticket_at age_key lanes.items new)) (sym a) (subst (λ ls. AreTickets (ticket_at age_key ls new) xs) (sym r) (left_for age_key xs aged));
          ranked = subst (AreTickets (ticket_at rank_key lanes.items new)) (sym k) (subst (λ ls. AreTickets (ticket_at rank_key ls new) ys) (sym r) (left_for rank_key ys ranked));
          laned = λ m q h. ap (λ ls. is_some (lane_of q.site q.need ls)) r ∙ ap is_some (lane_stays m q h) ∙ filed.laned m q (was m q h);
          used = λ m l h.
              let here = ap (item_at m) (sym r) ∙ h in
              let old = lane_was m l here in
              stays_step m l old (filed.used m l old) (cases_eq (filed.used m l old).number n) (λ mine. absurd (not_gone m l here mine));
        }

  -- the lanes that are left
  pub lanes_left : AreLeft i.lanes.items (without_number lane i.lanes.items)
  lanes_left m l h =
      let other : m ≢ lane = λ at. unless_none (item_at lane (without_number lane i.lanes.items)) l (own_left lane i.lanes.items) (ap (λ x. item_at x (without_number lane i.lanes.items)) (sym at) ∙ h) in
      sym (other_left lane m i.lanes.items other) ∙ h

  abbrev pub less_lane : Lane → Lanes → Lanes → Index
  less_lane gone ages ranks = record {
    lanes = record i.lanes { items = without_number lane i.lanes.items };
    ages = ages;
    ranks = ranks;
    needs = record i.needs { items = filter (is_another (need_ticket lane gone)) i.needs.items };
    sites = record i.sites { items = filter (is_another (site_ticket lane gone)) i.sites.items };
  }

  pub laid_less : (gone : Lane) (ages ranks : Lanes) → item_at lane i.lanes.items ≡ Some gone → IsLaid (record i { ages = ages; ranks = ranks }) → IsLaid (less_lane gone ages ranks)
  laid_less gone ages ranks there laid = record {
    ages = λ m l h. laid.ages m l (lanes_left m l h);
    ranks = λ m l h. laid.ranks m l (lanes_left m l h);
    listed = go (need_at i.lanes.items) (need_at (without_number lane i.lanes.items)) i.needs.items laid.listed lane
        (λ m other. ap (option_map (need_ticket m)) (other_left lane m i.lanes.items other))
        (need_ticket lane gone) (ap (option_map (need_ticket lane)) there) (ap (option_map (need_ticket lane)) (own_left lane i.lanes.items)) refl;
    sited = go (site_at i.lanes.items) (site_at (without_number lane i.lanes.items)) i.sites.items laid.sited lane
        (λ m other. ap (option_map (site_ticket m)) (other_left lane m i.lanes.items other))
        (site_ticket lane gone) (ap (option_map (site_ticket lane)) there) (ap (option_map (site_ticket lane)) (own_left lane i.lanes.items)) refl;
    age_lanes = laid.age_lanes;
    age_room = laid.age_room;
    rank_lanes = laid.rank_lanes;
    rank_room = laid.rank_room;
    need_room = laid.need_room;
    site_room = laid.site_room;
  }
