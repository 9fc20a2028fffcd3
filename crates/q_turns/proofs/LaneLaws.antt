-- The tickets of all peers, as lanes come and go.
use Rattle.std.proofs.Common.{◌≡◌, ◌≢◌, ◌∙◌, ◌∷◌, ◌++◌, ◌<◌, ◌≤◌, [], ap, arith, Bool, cond, false, inl, inr, length, List, None, Option, option_map, refl, set, Some, subst, sym, true, ℕ, ◌⊎◌}
use Rattle.std.proofs.lemmas.Bool.{both_ways, cases_Bool, cases_eq, cases_lt, eqb-true}
use Rattle.std.proofs.lemmas.List.{get_or-set_other, get_or-set_same}
use Rattle.std.specs.Option.{is_some}
use Rattle.std.specs.Prelude.{◌==◌, find, option_and_then}
use Rattle.q_heads.proofs.Standing.{found}
use Rattle.q_heads.specs.Lanes.{class_of, Lanes}
use Rattle.q_keyed.proofs.Values.{held_item}
use Rattle.q_keyed.specs.Numbered.{AreApart, AreKeysApart, first_such, has_number, item_at, Numbered, without_number}
use Rattle.q_model.proofs.IdLaws.{site_eq-refl, site_eq-true}
use Rattle.q_model.specs.Sites.{site_eq}
use Rattle.q_model.specs.Values.{Site}
use Rattle.q_sorted.specs.declared.ticket.Ticket.{Ticket}
use Rattle.q_sorted.specs.Tickets.{is_of}
use Rattle.q_turns.specs.declared.lane.Lane.{Lane}
use Rattle.q_rounds.specs.declared.peer.Peer.{Peer}
use Rattle.q_rounds.specs.Listing.{AreTickets}
use Rattle.q_turns.specs.Heading.{head_at, head_in, head_with, is_lane_of, lane_of}
use Rattle.q_turns.specs.Laning.{empty_lane, HasMade, IsOldOrMade}
use Rattle.q_turns.specs.Sound.{AreLanes, ArePlaced, HaveLanes, IsLane, IsUsed}
use Rattle.q_rounds.proofs.Entered.{alike, entered, ticket_own}
use Rattle.q_turns.proofs.HeadLaws.{at_is, at_same, at_tells, head_made, head_same, lane_named, no_rank, not_empty}
use Rattle.q_rounds.proofs.Lookups.{other_left, other_more, own_left, own_more, such_left, such_more, such_stays}
use Rattle.q_turns.proofs.Placing.{free_at, with_peer}

pub none_from : {A : Type 0} (o : Option A) → is_some o ≡ false → o ≡ None
none_from None h = refl
none_from (Some x) h = cc

pub some_from : {A : Type 0} (o : Option A) → is_some o ≡ true → (x : A) × (o ≡ Some x)
some_from None h = absurd cc
some_from (Some x) h = (x, refl)

pub unless_none : {A : Type 0} (o : Option A) (x : A) → o ≡ None → o ≡ Some x → ⊥
unless_none {A} o x none some = let both : ◌≡◌ {A = Option A} None (Some x) = sym none ∙ some in absurd cc

-- A lane is made, or was there.
pub lane_was : (class : Site → ℕ) (site : Site) (lanes : List (Numbered Lane)) (heads : Lanes) → is_some (lane_of site lanes) ≡ true → HasMade class site lanes lanes heads heads
lane_was class site lanes heads there = record {
  there = there;
  kept = λ h. refl;
  others = λ other h. refl;
  lanes = λ j l h. inl (h, refl);
  heads = refl;
}

module _ (class : Site → ℕ) (site : Site) (lanes : List (Numbered Lane)) (heads : Lanes) (n : ℕ) (fresh : find (has_number n) lanes ≡ None) (none : lane_of site lanes ≡ None) (below : n < heads.lanes) (within : length heads.classes ≡ heads.lanes) where
  abbrev the_lane : Lane
  the_lane = record { site = site }

  abbrev more : List (Numbered Lane)
  more = lanes ++ record { number = n; item = the_lane } ∷ []

  abbrev after : Lanes
  after = record heads { classes = set heads.classes n (class site) }

  made_step : (j : ℕ) (l : Lane) → item_at j more ≡ Some l → (j ≡ n) ⊎ (j ≢ n) → IsOldOrMade class site lanes heads after j l
  made_step j l h (inl same) =
      let some : Some the_lane ≡ Some l = sym (own_more n the_lane lanes fresh) ∙ ap (λ i. item_at i more) (sym same) ∙ h in
      let its : the_lane ≡ l = cc in
      let low : n < length heads.classes = omega (arith, below, within) in
      inr (ap (λ (y : Lane). y.site) (sym its), omega (arith, same, below), ap (λ i. class_of i after.classes) same ∙ get_or-set_same heads.classes n (class site) 0 low)
  made_step j l h (inr other) =
      inl (sym (other_more n j the_lane lanes other) ∙ h, get_or-set_other heads.classes n j (class site) 0 other)

  pub lane_made : HasMade class site lanes more heads after
  lane_made = record {
    there = ap is_some (such_more (is_lane_of site) (record { number = n; item = the_lane }) lanes none (site_eq-refl site));
    kept = λ h. absurd (both_ways (is_some (lane_of site lanes)) (ap is_some none) h);
    others = λ other h. such_stays (is_lane_of other) (record { number = n; item = the_lane }) lanes h;
    lanes = λ j l h. made_step j l h (cases_eq j n);
    heads = refl;
  }

-- A peer comes, whose site has a lane now.
module _ (class : Site → ℕ) (rank : Peer → Option ℕ) (transports : ℕ) (lanes more : List (Numbered Lane)) (ks : List (Numbered Peer)) (before after : Lanes) (site : Site) (places : ArePlaced class rank transports lanes ks before) (unranked : (q : Peer) → transports ≤ q.site.transport → rank q ≡ None) (made : HasMade class site lanes more before after) where
  own_same : (m : ℕ) (q : Peer) → item_at m ks ≡ Some q → q.site ≡ site → (is_some (lane_of site lanes) ≡ true) ⊎ (is_some (lane_of site lanes) ≡ false) → head_in rank more m q ≡ head_in rank lanes m q
  own_same m q h own (inl there) = head_same rank rank lanes more m q q (ap (λ s. lane_of s more) own ∙ made.kept there ∙ ap (λ s. lane_of s lanes) (sym own)) refl
  own_same m q h own (inr none) =
      elim (cases_lt q.site.transport transports) [
        | inl below ↦ absurd (both_ways (is_some (lane_of site lanes)) none (ap (λ s. is_some (lane_of s lanes)) (sym own) ∙ places.laned m q h below))
        | inr past ↦ no_rank rank more m q (unranked q past) ∙ sym (no_rank rank lanes m q (unranked q past))
      ]

  one_same : (m : ℕ) (q : Peer) → item_at m ks ≡ Some q → (site_eq site q.site ≡ true) ⊎ (site_eq site q.site ≡ false) → head_in rank more m q ≡ head_in rank lanes m q
  one_same m q h (inl own) = own_same m q h (sym (site_eq-true site q.site own)) (cases_Bool (is_some (lane_of site lanes)))
  one_same m q h (inr other) = head_same rank rank lanes more m q q (made.others q.site other) refl

  -- the tickets of those that there were stay
  pub placed_made : AreTickets (head_at rank more ks) before.items
  placed_made =
      alike (head_at rank lanes ks) (head_at rank more ks) before.items places.placed
      (λ m. at_same rank rank lanes more ks m (λ q h. one_same m q h (cases_Bool (site_eq site q.site))))

  module _ (n : ℕ) (p : Peer) (free : find (has_number n) ks ≡ None) (at : p.site ≡ site) where
    laned_step : (m : ℕ) (q : Peer) → item_at m (with_peer n p ks) ≡ Some q → q.site.transport < transports → (m ≡ n) ⊎ (m ≢ n) → (site_eq site q.site ≡ true) ⊎ (site_eq site q.site ≡ false) → is_some (lane_of q.site more) ≡ true
    laned_step m q h below which (inl own) = ap (λ s. is_some (lane_of s more)) (sym (site_eq-true site q.site own)) ∙ made.there
    laned_step m q h below (inr old) (inr other) = ap is_some (made.others q.site other) ∙ places.laned m q (sym (other_more n m p ks old) ∙ h) below
    laned_step m q h below (inl new) (inr other) =
        let some : Some p ≡ Some q = sym (own_more n p ks free) ∙ ap (λ i. item_at i (with_peer n p ks)) (sym new) ∙ h in
        let its : p ≡ q = cc in
        absurd (both_ways (site_eq site q.site) other (ap (λ (y : Peer). site_eq site y.site) (sym its) ∙ ap (site_eq site) at ∙ site_eq-refl site))

    lane_step : (j : ℕ) (l : Lane) → IsOldOrMade class site lanes before after j l → IsLane class j l (with_peer n p ks) after
    lane_step j l (inl old) =
        let is = places.lanes_are j l old.0 in
        let other : is.used.number ≢ n = λ same. unless_none (item_at n ks) is.used.peer (free_at n ks free) (ap (λ i. item_at i ks) (sym same) ∙ is.used.there) in
        record {
          below = subst (λ (s : Lanes). j < s.lanes) (sym made.heads) is.below;
          classed = old.1 ∙ is.classed;
          used = record { number = is.used.number; peer = is.used.peer; there = other_more n is.used.number p ks other ∙ is.used.there; at = is.used.at };
        }
    lane_step j l (inr new) = record {
      below = subst (λ (s : Lanes). j < s.lanes) (sym made.heads) new.1;
      classed = new.2 ∙ ap class (sym new.0);
      used = record { number = n; peer = p; there = own_more n p ks free; at = at ∙ sym new.0 };
    }

    pub laned_more : HaveLanes transports more (with_peer n p ks)
    laned_more m q h below = laned_step m q h below (cases_eq m n) (cases_Bool (site_eq site q.site))

    pub lanes_more : AreLanes class more (with_peer n p ks) after
    lanes_more j l h = lane_step j l (made.lanes j l h)

-- The lane of its own site is found.
such_step : (j : ℕ) (l : Lane) (k : Numbered Lane) (ks : List (Numbered Lane)) (t u : Bool) → (k.number == j) ≡ t → site_eq k.item.site l.site ≡ u → first_such (is_lane_of k.item.site) ks ≡ None →
    option_map (λ (k : Numbered Lane). k.item) (cond t (Some k) (find (has_number j) ks)) ≡ Some l → (item_at j ks ≡ Some l → lane_of l.site ks ≡ Some j) → option_map (λ (k : Numbered Lane). k.number) (cond u (Some k) (find (λ k. is_lane_of l.site k.item) ks)) ≡ Some j
such_step j l k ks true true e f apart h rest = ap Some (eqb-true k.number j e)
such_step j l k ks true false e f apart h rest =
    let same : k.item ≡ l = cc in
    absurd (both_ways (site_eq k.item.site l.site) f (ap (λ (y : Lane). site_eq k.item.site y.site) (sym same) ∙ site_eq-refl k.item.site))
such_step j l k ks false true e f apart h rest =
    absurd (unless_none (lane_of l.site ks) j (ap (λ s. lane_of s ks) (sym (site_eq-true k.item.site l.site f)) ∙ apart) (rest h))
such_step j l k ks false false e f apart h rest = rest h

pub such_at : (j : ℕ) (l : Lane) (ks : List (Numbered Lane)) → AreKeysApart site_eq (λ (l : Lane). l.site) ks → item_at j ks ≡ Some l → lane_of l.site ks ≡ Some j
such_at j l [] keys h = cc
such_at j l (k ∷ ks) keys h = such_step j l k ks (k.number == j) (site_eq k.item.site l.site) refl refl keys.0 h (such_at j l ks keys.1)

none_tells : (t : Bool) (m : ℕ) → cond t None (Some m) ≡ None → t ≡ true
none_tells true m h = refl
none_tells false m h = absurd cc

-- A peer went, and with it the lane, where it was the last one there.
module _ (class : Site → ℕ) (rank : Peer → Option ℕ) (transports : ℕ) (lanes : List (Numbered Lane)) (apart : AreApart lanes) (keys : AreKeysApart site_eq (λ (l : Lane). l.site) lanes) (ks : List (Numbered Peer)) (n : ℕ) (p : Peer) (there : item_at n ks ≡ Some p) (before after : Lanes) (same_lanes : after.lanes ≡ before.lanes) (same_classes : after.classes ≡ before.classes)
    (laned : HaveLanes transports lanes ks) (lanes_are : AreLanes class lanes ks before) (ranked : (m : ℕ) (q : Peer) → item_at m ks ≡ Some q → q.site.transport < transports → is_some (rank q) ≡ true) (placed : AreTickets (head_at rank lanes (without_number n ks)) after.items) where
  abbrev rest : List (Numbered Peer)
  rest = without_number n ks

  not_gone : (m : ℕ) (q : Peer) → item_at m rest ≡ Some q → m ≢ n
  not_gone m q h same = unless_none (item_at n rest) q (own_left n ks) (ap (λ i. item_at i rest) (sym same) ∙ h)

  was : (m : ℕ) (q : Peer) → item_at m rest ≡ Some q → item_at m ks ≡ Some q
  was m q h = sym (other_left n m ks (not_gone m q h)) ∙ h

  -- a peer is left at the site of a ticket's lane
  used_by : (j : ℕ) (l : Lane) (e : Ticket) → item_at j lanes ≡ Some l → find (is_of j) after.items ≡ Some e → IsUsed l.site rest
  used_by j l e h first =
      let it = found (is_of j) e after.items first in
      let own = at_tells rank lanes rest e.item e (ticket_own (head_at rank lanes rest) after.items e placed it.0) in
      let lane : lane_of own.peer.site lanes ≡ Some j = own.head.lane ∙ ap Some (eqb-true e.group j it.1) in
      record { number = e.item; peer = own.peer; there = own.there; at = sym (lane_named own.peer.site j lanes l apart lane h) }

  -- where the lane stays
  kept_step : (j : ℕ) (l : Lane) → item_at j lanes ≡ Some l → (s : IsUsed l.site ks) → (s.number ≡ n) ⊎ (s.number ≢ n) → (lane_of p.site lanes ≡ Some j → is_some (find (is_of j) after.items) ≡ true) → IsUsed l.site rest
  kept_step j l h s (inr other) ticket = record { number = s.number; peer = s.peer; there = other_left n s.number ks other ∙ s.there; at = s.at }
  kept_step j l h s (inl gone) ticket =
      let some : Some s.peer ≡ Some p = sym s.there ∙ ap (λ i. item_at i ks) gone ∙ there in
      let its : s.peer ≡ p = cc in
      let site : l.site ≡ p.site = sym s.at ∙ ap (λ (y : Peer). y.site) its in
      let e = some_from (find (is_of j) after.items) (ticket (ap (λ x. lane_of x lanes) (sym site) ∙ such_at j l lanes keys h)) in
      used_by j l e.0 h e.1

  lane_from : (j : ℕ) (l : Lane) → IsLane class j l ks before → IsUsed l.site rest → IsLane class j l rest after
  lane_from j l is used = record { below = subst (λ m. j < m) (sym same_lanes) is.below; classed = ap (class_of j) same_classes ∙ is.classed; used = used }

  ticket_there : (o : Option ℕ) (j : ℕ) → lane_of p.site lanes ≡ o → option_and_then (λ m. cond (is_some (find (is_of m) after.items)) None (Some m)) o ≡ None → o ≡ Some j → is_some (find (is_of j) after.items) ≡ true
  ticket_there None j l none h = absurd cc
  ticket_there (Some m) j l none h = let same : m ≡ j = cc in ap (λ i. is_some (find (is_of i) after.items)) (sym same) ∙ none_tells (is_some (find (is_of m) after.items)) m none

  pub places_kept : empty_lane p.site lanes after.items ≡ None → ArePlaced class rank transports lanes rest after
  places_kept none = record {
    placed = placed;
    laned = λ m q h. laned m q (was m q h);
    lanes_are = λ j l h. let is = lanes_are j l h in
        lane_from j l is (kept_step j l h is.used (cases_eq is.used.number n) (λ own. ticket_there (lane_of p.site lanes) j refl none own));
  }

  -- where it goes
  module _ (d : ℕ) (own : lane_of p.site lanes ≡ Some d) (none : find (is_of d) after.items ≡ None) where
    -- no peer that is left there has a rank
    no_ticket : (m : ℕ) (q : Peer) → item_at m rest ≡ Some q → q.site ≡ p.site → (o : Option ℕ) → rank q ≡ o → o ≡ None
    no_ticket m q h at None r = refl
    no_ticket m q h at (Some k) r =
        let made = at_is rank lanes rest m (Some q) h ∙ head_made rank lanes m d k q (ap (λ s. lane_of s lanes) at ∙ own) r in
        absurd (not_empty (head_with d m k) d after.items (entered (head_at rank lanes rest) after.items m (head_with d m k) placed made refl) refl none)

    left_same : (q : Peer) → site_eq p.site q.site ≡ false → lane_of q.site (without_number d lanes) ≡ lane_of q.site lanes
    left_same q other =
        let it = held_item (is_lane_of p.site) d lanes apart own in
        such_left (is_lane_of q.site) d it.0 lanes apart it.1 (ap (λ s. site_eq s q.site) (site_eq-true it.0.site p.site it.2) ∙ other)

    one_left : (m : ℕ) (q : Peer) → item_at m rest ≡ Some q → (site_eq p.site q.site ≡ true) ⊎ (site_eq p.site q.site ≡ false) → head_in rank (without_number d lanes) m q ≡ head_in rank lanes m q
    one_left m q h (inl same) =
        let unranked = no_ticket m q h (sym (site_eq-true p.site q.site same)) (rank q) refl in
        no_rank rank (without_number d lanes) m q unranked ∙ sym (no_rank rank lanes m q unranked)
    one_left m q h (inr other) = head_same rank rank lanes (without_number d lanes) m q q (left_same q other) refl

    laned_left : (m : ℕ) (q : Peer) → item_at m rest ≡ Some q → q.site.transport < transports → (site_eq p.site q.site ≡ true) ⊎ (site_eq p.site q.site ≡ false) → is_some (lane_of q.site (without_number d lanes)) ≡ true
    laned_left m q h below (inl same) =
        let unranked = no_ticket m q h (sym (site_eq-true p.site q.site same)) (rank q) refl in
        absurd (both_ways (is_some (rank q)) (ap is_some unranked) (ranked m q (was m q h) below))
    laned_left m q h below (inr other) = ap is_some (left_same q other) ∙ laned m q (was m q h) below

    lane_left : (j : ℕ) (l : Lane) → item_at j (without_number d lanes) ≡ Some l → IsLane class j l rest after
    lane_left j l h =
        let other : j ≢ d = λ same. unless_none (item_at d (without_number d lanes)) l (own_left d lanes) (ap (λ i. item_at i (without_number d lanes)) (sym same) ∙ h) in
        let h0 = sym (other_left d j lanes other) ∙ h in
        let is = lanes_are j l h0 in
        lane_from j l is (kept_step j l h0 is.used (cases_eq is.used.number n) (λ mine.
        let both : Some d ≡ Some j = sym own ∙ mine in
        let same : d ≡ j = cc in
        absurd (other (sym same))))

    pub places_left : ArePlaced class rank transports (without_number d lanes) rest after
    places_left = record {
      placed = alike (head_at rank lanes rest) (head_at rank (without_number d lanes) rest) after.items placed
          (λ m. at_same rank rank lanes (without_number d lanes) rest m (λ q h. one_left m q h (cases_Bool (site_eq p.site q.site))));
      laned = λ m q h below. laned_left m q h below (cases_Bool (site_eq p.site q.site));
      lanes_are = λ j l h. lane_left j l h;
    }
