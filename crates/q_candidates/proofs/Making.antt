-- A lane is made.
use Rattle.std.proofs.Common.{◌≡◌, ◌≢◌, ◌∙◌, ◌∷◌, ◌++◌, ◌<◌, ◌≤◌, [], ap, arith, Bool, false, inl, inr, length, List, None, Option, option_map, refl, set, Some, subst, sym, true, ℕ, ◌⊎◌}
use Rattle.std.proofs.lemmas.Bool.{cases_Bool, cases_eq}
use Rattle.std.proofs.lemmas.List.{get_or-set_other, get_or-set_same}
use Rattle.std.specs.Option.{is_some}
use Rattle.std.specs.Prelude.{find}
use Rattle.q_heads.specs.Lanes.{class_of, Lanes}
use Rattle.q_keyed.specs.Numbered.{has_number, item_at, Items, Numbered}
use Rattle.q_model.specs.Values.{Site}
use Rattle.q_rounds.proofs.Entered.{come, most_tickets}
use Rattle.q_rounds.proofs.ItemSets.{free_item, unless_none}
use Rattle.q_rounds.proofs.Lookups.{other_more, own_more, such_more, such_stays}
use Rattle.q_rounds.specs.Listing.{AreTickets}
use Rattle.q_sorted.specs.declared.ticket.Ticket.{Ticket}
use Rattle.q_sorted.specs.Tickets.{inserted, Rises, Tickets}
use Rattle.q_candidates.specs.declared.index.Index.{Index}
use Rattle.q_candidates.specs.declared.lane.Lane.{Lane}
use Rattle.q_candidates.specs.Filing.{class_of_lane, HasGrown, is_lane, lane_of, need_at, need_ticket, site_at, site_ticket}
use Rattle.q_candidates.specs.Sound.{AreLanes, IsLaid, IsLane}
use Rattle.q_candidates.proofs.TicketLaws.{some_from}
use Rattle.q_candidates.proofs.Lanes.{lane_from, lane_parts}

held_need : (lanes : List (Numbered Lane)) (m : ℕ) (e : Ticket) → need_at lanes m ≡ Some e → is_some (item_at m lanes) ≡ true
held_need lanes m e h = step (item_at m lanes) h
  where
    step : (o : Option Lane) → option_map (need_ticket m) o ≡ Some e → is_some o ≡ true
    step None k = absurd cc
    step (Some l) k = refl

-- there are no more needs than lanes
pub most_needs : (lanes : List (Numbered Lane)) (needs : List Ticket) → AreTickets (need_at lanes) needs → Rises needs → length needs ≤ length lanes
most_needs lanes needs are rising = most_tickets (need_at lanes) needs lanes are rising (held_need lanes)

held_site : (lanes : List (Numbered Lane)) (m : ℕ) (e : Ticket) → site_at lanes m ≡ Some e → is_some (item_at m lanes) ≡ true
held_site lanes m e h = step (item_at m lanes) h
  where
    step : (o : Option Lane) → option_map (site_ticket m) o ≡ Some e → is_some o ≡ true
    step None k = absurd cc
    step (Some l) k = refl

-- nor more tickets of sites
pub most_sites : (lanes : List (Numbered Lane)) (sites : List Ticket) → AreTickets (site_at lanes) sites → Rises sites → length sites ≤ length lanes
most_sites lanes sites are rising = most_tickets (site_at lanes) sites lanes are rising (held_site lanes)

module _ (site : Site) (need : ℕ) (suspended : Bool) (i : Index) (n : ℕ) where
  abbrev the_lane : Lane
  the_lane = record { site = site; need = need; suspended = suspended }

  abbrev pub more : List (Numbered Lane)
  more = i.lanes.items ++ record { number = n; item = the_lane } ∷ []

  abbrev pub classed : Lanes → Lanes
  classed heads = record heads { classes = set heads.classes n (class_of_lane the_lane) }

  abbrev pub after : Index
  after = record {
    lanes = record i.lanes { items = more };
    ages = classed i.ages;
    ranks = classed i.ranks;
    needs = record i.needs { items = inserted (need_ticket n the_lane) i.needs.items };
    sites = record i.sites { items = inserted (site_ticket n the_lane) i.sites.items };
  }

  module _ (laid : IsLaid i) (fresh : find (has_number n) i.lanes.items ≡ None) (none : lane_of site need i.lanes.items ≡ None) (below : n < i.lanes.room) where
    set_step : (heads : Lanes) → AreLanes i.lanes.items heads → n < heads.lanes → length heads.classes ≡ heads.lanes → (j : ℕ) (l : Lane) → item_at j more ≡ Some l → (j ≡ n) ⊎ (j ≢ n) → IsLane j l (classed heads)
    set_step heads are low within j l h (inl same) =
        let some : Some the_lane ≡ Some l = sym (own_more n the_lane i.lanes.items fresh) ∙ ap (λ m. item_at m more) (sym same) ∙ h in
        let its : the_lane ≡ l = cc in
        record {
          below = omega (arith, same, low);
          class = ap (λ m. class_of m (classed heads).classes) same ∙ get_or-set_same heads.classes n (class_of_lane the_lane) 0 (omega (arith, low, within))
              ∙ ap class_of_lane its;
        }
    set_step heads are low within j l h (inr other) =
        let is = are j l (sym (other_more n j the_lane i.lanes.items other) ∙ h) in
        record { below = is.below; class = get_or-set_other heads.classes n j (class_of_lane the_lane) 0 other ∙ is.class }

    lanes_set : (heads : Lanes) → AreLanes i.lanes.items heads → n < heads.lanes → length heads.classes ≡ heads.lanes → AreLanes more (classed heads)
    lanes_set heads are low within j l h = set_step heads are low within j l h (cases_eq j n)

    pub made_laid : length i.ages.classes ≡ i.ages.lanes → length i.ranks.classes ≡ i.ranks.lanes → IsLaid after
    made_laid ages ranks = record {
      ages = lanes_set i.ages laid.ages (omega (arith, below, laid.age_lanes)) ages;
      ranks = lanes_set i.ranks laid.ranks (omega (arith, below, laid.rank_lanes)) ranks;
      listed = come (need_at i.lanes.items) (need_at more) i.needs.items laid.listed n (λ m other. ap (option_map (need_ticket m)) (other_more n m the_lane i.lanes.items other))
          (need_ticket n the_lane) (ap (option_map (need_ticket n)) (free_item n i.lanes.items fresh)) (ap (option_map (need_ticket n)) (own_more n the_lane i.lanes.items fresh)) refl;
      sited = come (site_at i.lanes.items) (site_at more) i.sites.items laid.sited n (λ m other. ap (option_map (site_ticket m)) (other_more n m the_lane i.lanes.items other))
          (site_ticket n the_lane) (ap (option_map (site_ticket n)) (free_item n i.lanes.items fresh)) (ap (option_map (site_ticket n)) (own_more n the_lane i.lanes.items fresh)) refl;
      age_lanes = laid.age_lanes;
      age_room = laid.age_room;
      rank_lanes = laid.rank_lanes;
      rank_room = laid.rank_room;
      need_room = laid.need_room;
      site_room = laid.site_room;
    }

    pub made_own : lane_of site need more ≡ Some n
    made_own = such_more (is_lane site need) (record { number = n; item = the_lane }) i.lanes.items none (lane_from site need the_lane refl refl)

    kept_step : (s : Site) (d : ℕ) → is_some (lane_of s d i.lanes.items) ≡ true → (is_lane s d the_lane ≡ true) ⊎ (is_lane s d the_lane ≡ false) → lane_of s d more ≡ lane_of s d i.lanes.items
    kept_step s d there (inl own) =
        let parts = lane_parts s d the_lane own in
        let x = some_from (lane_of s d i.lanes.items) there in
        absurd (unless_none (lane_of s d i.lanes.items) x.0 (ap (λ t. lane_of t d i.lanes.items) (sym parts.0) ∙ ap (λ m. lane_of site m i.lanes.items) (sym parts.1) ∙ none) x.1)
    kept_step s d there (inr other) = such_stays (is_lane s d) (record { number = n; item = the_lane }) i.lanes.items other

    lanes_step : (j : ℕ) (l : Lane) → item_at j more ≡ Some l → (j ≡ n) ⊎ (j ≢ n) → (item_at j i.lanes.items ≡ Some l) ⊎ ((l.site ≡ site) × (l.need ≡ need) × (l.suspended ≡ suspended))
    lanes_step j l h (inl same) =
        let some : Some the_lane ≡ Some l = sym (own_more n the_lane i.lanes.items fresh) ∙ ap (λ m. item_at m more) (sym same) ∙ h in
        let its : the_lane ≡ l = cc in
        inr (ap (λ (y : Lane). y.site) (sym its), ap (λ (y : Lane). y.need) (sym its), ap (λ (y : Lane). y.suspended) (sym its))
    lanes_step j l h (inr other) = inl (sym (other_more n j the_lane i.lanes.items other) ∙ h)

    pub made_grown : HasGrown site need suspended i after
    made_grown = record {
      kept = λ s d there. kept_step s d there (cases_Bool (is_lane s d the_lane));
      lanes = λ j l h. lanes_step j l h (cases_eq j n);
      ages = refl;
      ranks = refl;
      room = refl;
    }

-- the lane was there
pub grown_none : (site : Site) (need : ℕ) (suspended : Bool) (i : Index) → HasGrown site need suspended i i
grown_none site need suspended i = record { kept = λ s d there. refl; lanes = λ j l h. inl h; ages = refl; ranks = refl; room = refl }

-- what is made of all five parts
pub after_from : (P : Index → Type 0) (w : Index) (lanes : Items Lane) (ages ranks : Lanes) (needs sites : Tickets) → lanes ≡ w.lanes → ages ≡ w.ages → ranks ≡ w.ranks → needs ≡ w.needs → sites ≡ w.sites → P w → P (record { lanes = lanes; ages = ages; ranks = ranks; needs = needs; sites = sites })
after_from P w lanes ages ranks needs sites a b c d e p =
    subst (λ (x : Items Lane). P (record { lanes = x; ages = ages; ranks = ranks; needs = needs; sites = sites })) (sym a)
    (subst (λ (x : Lanes). P (record { lanes = w.lanes; ages = x; ranks = ranks; needs = needs; sites = sites })) (sym b)
    (subst (λ (x : Lanes). P (record { lanes = w.lanes; ages = w.ages; ranks = x; needs = needs; sites = sites })) (sym c)
    (subst (λ (x : Tickets). P (record { lanes = w.lanes; ages = w.ages; ranks = w.ranks; needs = x; sites = sites })) (sym d)
    (subst (λ (x : Tickets). P (record { lanes = w.lanes; ages = w.ages; ranks = w.ranks; needs = w.needs; sites = x })) (sym e) p))))
