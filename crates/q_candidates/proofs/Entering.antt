-- A candidate comes into the index.
use Rattle.std.proofs.Common.{◌≡◌, ◌≢◌, ◌∙◌, ◌<◌, ◌≤◌, ap, Bool, inl, inr, length, List, None, refl, Some, subst, sym, true, ℕ, ◌⊎◌}
use Rattle.std.proofs.lemmas.Bool.{cases_eq}
use Rattle.std.specs.Option.{is_some}
use Rattle.q_heads.specs.Lanes.{Lanes}
use Rattle.q_keyed.proofs.Values.{held_item}
use Rattle.q_keyed.specs.Numbered.{AreApart, item_at, Numbered}
use Rattle.q_model.specs.Values.{Site}
use Rattle.q_rounds.proofs.Entered.{come, most_tickets}
use Rattle.q_rounds.proofs.ItemSets.{unless_none}
use Rattle.q_rounds.specs.Listing.{AreTickets}
use Rattle.q_sorted.specs.declared.ticket.Ticket.{Ticket}
use Rattle.q_sorted.specs.Tickets.{inserted, Rises}
use Rattle.q_candidates.specs.declared.candidate.Candidate.{Candidate}
use Rattle.q_candidates.specs.declared.index.Index.{Index}
use Rattle.q_candidates.specs.declared.lane.Lane.{Lane}
use Rattle.q_candidates.specs.Filing.{age_key, AreFrom, ticket_at, ticket_with, HasGrown, IsChanged, is_lane, lane_of, rank_key}
use Rattle.q_candidates.specs.Sound.{AreLanes, IsFiled, IsLaid, IsUsed}
use Rattle.q_candidates.proofs.TicketLaws.{ticket_is, ticket_none, ticket_same, ticket_stays, ticket_tells}

held : (key : Candidate → ℕ) (lanes : List (Numbered Lane)) (ks : List (Numbered Candidate)) (m : ℕ) (e : Ticket) → ticket_at key lanes ks m ≡ Some e → is_some (item_at m ks) ≡ true
held key lanes ks m e h = ap is_some (ticket_tells key lanes ks m e h).there

-- there are no more tickets than candidates
pub most_heads : (key : Candidate → ℕ) (lanes : List (Numbered Lane)) (ks : List (Numbered Candidate)) (items : List Ticket) → AreTickets (ticket_at key lanes ks) items → Rises items → length items ≤ length ks
most_heads key lanes ks items are rising = most_tickets (ticket_at key lanes ks) items ks are rising (held key lanes ks)

-- a lane that is found is one of those that there are
pub lane_below : (c : Candidate) (lane : ℕ) (lanes : List (Numbered Lane)) (heads : Lanes) → AreApart lanes → AreLanes lanes heads → lane_of c.site c.need lanes ≡ Some lane → lane < heads.lanes
lane_below c lane lanes heads apart are own =
    let it = held_item (is_lane c.site c.need) lane lanes apart own in
    (are lane it.0 it.1).below

module _ (c : Candidate) (n lane : ℕ) (i j : Index) (suspended : Bool) (grown : HasGrown c.site c.need suspended i j) (own : lane_of c.site c.need j.lanes.items ≡ Some lane) (ks new : List (Numbered Candidate)) (filed : IsFiled ks i) (free : item_at n ks ≡ None) (changed : IsChanged n (Some c) ks new) where
  entered_for : (key : Candidate → ℕ) (xs : List Ticket) → AreTickets (ticket_at key i.lanes.items ks) xs → AreTickets (ticket_at key j.lanes.items new) (inserted (ticket_with key lane n c) xs)
  entered_for key xs are =
      come (ticket_at key i.lanes.items ks) (ticket_at key j.lanes.items new) xs are n
      (λ m other. ticket_stays key j.lanes.items ks new m (changed.others m other) ∙ ticket_same key i.lanes.items j.lanes.items ks m (λ q h. grown.kept q.site q.need (filed.laned m q h)))
      (ticket_with key lane n c) (ticket_none key i.lanes.items ks n free) (ticket_is key j.lanes.items new n lane c changed.own own) refl

  laned_step : (m : ℕ) (q : Candidate) → item_at m new ≡ Some q → (m ≡ n) ⊎ (m ≢ n) → is_some (lane_of q.site q.need j.lanes.items) ≡ true
  laned_step m q h (inl same) =
      let some : Some c ≡ Some q = sym changed.own ∙ ap (λ x. item_at x new) (sym same) ∙ h in
      let its : c ≡ q = cc in
      ap (λ (y : Candidate). is_some (lane_of y.site y.need j.lanes.items)) (sym its) ∙ ap is_some own
  laned_step m q h (inr other) =
      let was = filed.laned m q (sym (changed.others m other) ∙ h) in
      ap is_some (grown.kept q.site q.need was) ∙ was

  used_step : (m : ℕ) (l : Lane) → (item_at m i.lanes.items ≡ Some l) ⊎ ((l.site ≡ c.site) × (l.need ≡ c.need) × (l.suspended ≡ suspended)) → IsUsed l.site l.need new
  used_step m l (inl old) =
      let u = filed.used m l old in
      let other : u.number ≢ n = λ same. unless_none (item_at n ks) u.candidate free (ap (λ x. item_at x ks) (sym same) ∙ u.there) in
      record { number = u.number; candidate = u.candidate; there = changed.others u.number other ∙ u.there; at = u.at; needs = u.needs }
  used_step m l (inr made) = record { number = n; candidate = c; there = changed.own; at = sym made.0; needs = sym made.1 }

  pub filed_with : (ages ranks : Lanes) → ages ≡ record j.ages { items = inserted (ticket_with age_key lane n c) j.ages.items } → ranks ≡ record j.ranks { items = inserted (ticket_with rank_key lane n c) j.ranks.items } → IsFiled new (record j { ages = ages; ranks = ranks })
  filed_with ages ranks a r = record {
    aged = subst (AreTickets (ticket_at age_key j.lanes.items new)) (ap (inserted (ticket_with age_key lane n c)) (sym grown.ages) ∙ sym (ap (λ (s : Lanes). s.items) a)) (entered_for age_key i.ages.items filed.aged);
    ranked = subst (AreTickets (ticket_at rank_key j.lanes.items new)) (ap (inserted (ticket_with rank_key lane n c)) (sym grown.ranks) ∙ sym (ap (λ (s : Lanes). s.items) r)) (entered_for rank_key i.ranks.items filed.ranked);
    laned = λ m q h. laned_step m q h (cases_eq m n);
    used = λ m l h. used_step m l (grown.lanes m l h);
  }

-- a lane that was made is one of the site
pub lanes_from : (site : Site) (need : ℕ) (suspended : Bool) (i j : Index) → HasGrown site need suspended i j → AreFrom site suspended i.lanes.items j.lanes.items
lanes_from site need suspended i j grown n l h = step (grown.lanes n l h)
  where
    step : (item_at n i.lanes.items ≡ Some l) ⊎ ((l.site ≡ site) × (l.need ≡ need) × (l.suspended ≡ suspended)) → (item_at n i.lanes.items ≡ Some l) ⊎ ((l.site ≡ site) × (l.suspended ≡ suspended))
    step (inl old) = inl old
    step (inr made) = inr (made.0, made.2)

-- other tickets change nothing of the lanes
pub laid_with : (j : Index) (ages ranks : Lanes) (xs ys : List Ticket) → ages ≡ record j.ages { items = xs } → ranks ≡ record j.ranks { items = ys } → IsLaid j → IsLaid (record j { ages = ages; ranks = ranks })
laid_with j ages ranks xs ys a r laid =
    subst (λ (s : Lanes). IsLaid (record j { ages = s; ranks = ranks })) (sym a)
    (subst (λ (s : Lanes). IsLaid (record j { ages = record j.ages { items = xs }; ranks = s })) (sym r)
    (record {
      ages = λ m l h. let is = laid.ages m l h in record { below = is.below; class = is.class };
      ranks = λ m l h. let is = laid.ranks m l h in record { below = is.below; class = is.class };
      listed = laid.listed;
      sited = laid.sited;
      age_lanes = laid.age_lanes;
      age_room = laid.age_room;
      rank_lanes = laid.rank_lanes;
      rank_room = laid.rank_room;
      need_room = laid.need_room;
      site_room = laid.site_room;
    }))
