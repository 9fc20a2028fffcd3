-- A lane comes to be suspended, or not to be.
use Rattle.std.proofs.Common.{◌≡◌, ◌≢◌, ◌∙◌, ◌<◌, ap, arith, Bool, cond, false, filter, inl, inr, length, List, map, None, not, option_map, refl, set, Some, subst, sym, true, ℕ, ◌⊎◌}
use Rattle.std.proofs.lemmas.Bool.{cases_eq}
use Rattle.std.proofs.lemmas.List.{get_or-set_other, get_or-set_same}
use Rattle.std.specs.Option.{is_some, option_map_or}
use Rattle.std.specs.Prelude.{◌&&◌}
use Rattle.q_heads.specs.Lanes.{class_of, Lanes}
use Rattle.q_keyed.specs.Numbered.{AreApart, item_at, Numbered, put_at, without_number}
use Rattle.q_model.proofs.IdLaws.{site_eq-true}
use Rattle.q_model.specs.Sites.{site_eq}
use Rattle.q_model.specs.Values.{Site}
use Rattle.q_rounds.proofs.Entered.{alike, come, go}
use Rattle.q_rounds.proofs.ItemSets.{IsSet, put_is, set_cases}
use Rattle.q_rounds.proofs.Lookups.{fewer_at, other_left, own_left}
use Rattle.q_rounds.proofs.Splits.{such_put}
use Rattle.q_rounds.specs.Listing.{AreTickets}
use Rattle.q_sorted.specs.declared.ticket.Ticket.{Ticket}
use Rattle.q_sorted.specs.Tickets.{inserted, is_another, Rises}
use Rattle.q_candidates.specs.declared.candidate.Candidate.{Candidate}
use Rattle.q_candidates.specs.declared.index.Index.{Index}
use Rattle.q_candidates.specs.declared.lane.Lane.{Lane}
use Rattle.q_candidates.specs.Filing.{age_key, class_of_lane, is_lane, lane_of, need_at, need_ticket, rank_key, site_at, site_ticket, ticket_at}
use Rattle.q_candidates.specs.Sound.{AreLanes, IsFiled, IsLaid, IsLane, IsUsed}
use Rattle.q_candidates.specs.Suspending.{differs, differs_at, IsSetAt}
use Rattle.q_candidates.proofs.Making.{most_needs}
use Rattle.q_candidates.proofs.TicketLaws.{ticket_same}

-- the lane of no number is set
unset_step : (site : Site) (suspended : Bool) (n : ℕ) (lanes : List (Numbered Lane)) → differs_at site suspended lanes n ≡ false → IsSetAt site suspended n lanes lanes
unset_step site suspended n lanes same = record { own = same; others = λ m other. refl; from = λ m l h. inl h }

pub none_set : (site : Site) (suspended : Bool) (n : ℕ) (lanes : List (Numbered Lane)) → item_at n lanes ≡ None → IsSetAt site suspended n lanes lanes
none_set site suspended n lanes none = unset_step site suspended n lanes (ap (λ o. option_map_or (differs site suspended) o false) none)

pub not_set : (site : Site) (suspended : Bool) (n : ℕ) (l : Lane) (lanes : List (Numbered Lane)) → item_at n lanes ≡ Some l → differs site suspended l ≡ false → IsSetAt site suspended n lanes lanes
not_set site suspended n l lanes there same = unset_step site suspended n lanes (ap (λ o. option_map_or (differs site suspended) o false) there ∙ same)

no_more : (b t : Bool) → (t && cond b (not b) b) ≡ false
no_more true true = refl
no_more true false = refl
no_more false true = refl
no_more false false = refl

left_true : (t u : Bool) → (t && u) ≡ true → t ≡ true
left_true true u h = refl
left_true false u h = absurd cc

module _ (suspended : Bool) (i : Index) (n : ℕ) (was : Lane) (there : item_at n i.lanes.items ≡ Some was) where
  abbrev lane : Lane
  lane = record { site = was.site; need = was.need; suspended = suspended }

  abbrev pub with_lane : List (Numbered Lane)
  with_lane = map (put_at n lane) i.lanes.items

  is : IsSet n lane i.lanes.items with_lane
  is = put_is n was lane i.lanes.items there

  pub lane_set : (site : Site) → differs site suspended was ≡ true → IsSetAt site suspended n i.lanes.items with_lane
  lane_set site differ = record {
    own = ap (λ o. option_map_or (differs site suspended) o false) is.own ∙ no_more suspended (site_eq was.site site);
    others = is.others;
    from = λ m l h. elim (set_cases n lane i.lanes.items with_lane m l is h) [
      | inl here ↦ inr (ap (λ (y : Lane). y.site) here.1 ∙ site_eq-true was.site site (left_true (site_eq was.site site) _ differ), ap (λ (y : Lane). y.suspended) here.1)
      | inr other ↦ inl other.1
    ];
  }

  abbrev reclassed : Lanes → Lanes
  reclassed heads = record heads { classes = set heads.classes n (class_of_lane lane) }

  abbrev pub after_set : Index
  after_set = record {
    lanes = record i.lanes { items = with_lane };
    ages = reclassed i.ages;
    ranks = reclassed i.ranks;
    needs = record i.needs { items = inserted (need_ticket n lane) (filter (is_another (need_ticket n was)) i.needs.items) };
    sites = i.sites;
  }

  lane_step : (heads : Lanes) → AreLanes i.lanes.items heads → length heads.classes ≡ heads.lanes → (j : ℕ) (l : Lane) → ((j ≡ n) × (l ≡ lane)) ⊎ ((j ≢ n) × (item_at j i.lanes.items ≡ Some l)) → IsLane j l (reclassed heads)
  lane_step heads are within j l (inl here) =
      let low = (are n was there).below in
      record {
        below = omega (arith, here.0, low);
        class = ap (λ m. class_of m (reclassed heads).classes) here.0 ∙ get_or-set_same heads.classes n (class_of_lane lane) 0 (omega (arith, low, within))
            ∙ ap class_of_lane (sym here.1);
      }
  lane_step heads are within j l (inr other) =
      let at = are j l other.1 in
      record { below = at.below; class = get_or-set_other heads.classes n j (class_of_lane lane) 0 other.0 ∙ at.class }

  lanes_set : (heads : Lanes) → AreLanes i.lanes.items heads → length heads.classes ≡ heads.lanes → AreLanes with_lane (reclassed heads)
  lanes_set heads are within j l h = lane_step heads are within j l (set_cases n lane i.lanes.items with_lane j l is h)

  less_needs : AreTickets (need_at i.lanes.items) i.needs.items → AreTickets (need_at (without_number n i.lanes.items)) (filter (is_another (need_ticket n was)) i.needs.items)
  less_needs are =
      go (need_at i.lanes.items) (need_at (without_number n i.lanes.items)) i.needs.items are n (λ m other. ap (option_map (need_ticket m)) (other_left n m i.lanes.items other))
      (need_ticket n was) (ap (option_map (need_ticket n)) there) (ap (option_map (need_ticket n)) (own_left n i.lanes.items)) refl

  -- one need less has room for another
  pub fewer_needs : AreTickets (need_at i.lanes.items) i.needs.items → Rises (filter (is_another (need_ticket n was)) i.needs.items) → length (filter (is_another (need_ticket n was)) i.needs.items) < length i.lanes.items
  fewer_needs are rising =
      let most = most_needs (without_number n i.lanes.items) (filter (is_another (need_ticket n was)) i.needs.items) (less_needs are) rising in
      omega (arith, most, fewer_at n i.lanes.items (ap is_some there))

  need_stays : (m : ℕ) → m ≢ n → need_at with_lane m ≡ need_at (without_number n i.lanes.items) m
  need_stays m other = ap (option_map (need_ticket m)) (is.others m other ∙ sym (other_left n m i.lanes.items other))

  site_stays : (m : ℕ) → (m ≡ n) ⊎ (m ≢ n) → site_at with_lane m ≡ site_at i.lanes.items m
  site_stays m (inl same) =
      ap (λ j. option_map (site_ticket m) (item_at j with_lane)) same ∙ ap (option_map (site_ticket m)) is.own
      ∙ sym (ap (λ j. option_map (site_ticket m) (item_at j i.lanes.items)) same ∙ ap (option_map (site_ticket m)) there)
  site_stays m (inr other) = ap (option_map (site_ticket m)) (is.others m other)

  pub laid_set : IsLaid i → length i.ages.classes ≡ i.ages.lanes → length i.ranks.classes ≡ i.ranks.lanes → IsLaid after_set
  laid_set laid ages ranks = record {
    ages = lanes_set i.ages laid.ages ages;
    ranks = lanes_set i.ranks laid.ranks ranks;
    listed = come (need_at (without_number n i.lanes.items)) (need_at with_lane) (filter (is_another (need_ticket n was)) i.needs.items) (less_needs laid.listed) n need_stays
        (need_ticket n lane) (ap (option_map (need_ticket n)) (own_left n i.lanes.items)) (ap (option_map (need_ticket n)) is.own) refl;
    sited = alike (site_at i.lanes.items) (site_at with_lane) i.sites.items laid.sited (λ m. site_stays m (cases_eq m n));
    age_lanes = laid.age_lanes;
    age_room = laid.age_room;
    rank_lanes = laid.rank_lanes;
    rank_room = laid.rank_room;
    need_room = laid.need_room;
    site_room = laid.site_room;
  }

  module _ (apart : AreApart i.lanes.items) (ks : List (Numbered Candidate)) (filed : IsFiled ks i) where
    -- each lane is found as before
    same_lane : (s : Site) (d : ℕ) → lane_of s d with_lane ≡ lane_of s d i.lanes.items
    same_lane s d = such_put (is_lane s d) n was lane i.lanes.items apart there refl

    ticket_set : (key : Candidate → ℕ) (xs : List Ticket) → AreTickets (ticket_at key i.lanes.items ks) xs → AreTickets (ticket_at key with_lane ks) xs
    ticket_set key xs are = alike (ticket_at key i.lanes.items ks) (ticket_at key with_lane ks) xs are (λ m. ticket_same key i.lanes.items with_lane ks m (λ q h. same_lane q.site q.need))

    used_step : (m : ℕ) (l : Lane) → ((m ≡ n) × (l ≡ lane)) ⊎ ((m ≢ n) × (item_at m i.lanes.items ≡ Some l)) → IsUsed l.site l.need ks
    used_step m l (inl here) = subst (λ (y : Lane). IsUsed y.site y.need ks) (sym here.1) (filed.used n was there)
    used_step m l (inr other) = filed.used m l other.1

    pub filed_set : IsFiled ks after_set
    filed_set = record {
      aged = ticket_set age_key i.ages.items filed.aged;
      ranked = ticket_set rank_key i.ranks.items filed.ranked;
      laned = λ m q h. ap is_some (same_lane q.site q.need) ∙ filed.laned m q h;
      used = λ m l h. used_step m l (set_cases n lane i.lanes.items with_lane m l is h);
    }
