-- The least need of a transport from one on.
use Rattle.std.proofs.Common.{◌≡◌, ◌≢◌, ◌∙◌, ◌<◌, ◌≤◌, ap, arith, Bool, false, List, None, Option, option_map, refl, Some, sym, true, ℕ}
use Rattle.std.proofs.lemmas.Bool.{both_ways, not_from_false}
use Rattle.std.proofs.lemmas.Bool.Decides.{nat_tests}
use Rattle.std.specs.Prelude.{find, not}
use Rattle.q_heads.proofs.Standing.{first_found, found, none_found}
use Rattle.q_heads.specs.Lanes.{stands}
use Rattle.q_keyed.specs.Numbered.{item_at, Numbered}
use Rattle.q_rounds.proofs.Entered.{entered, ticket_own}
use Rattle.q_rounds.proofs.ItemSets.{unless_none}
use Rattle.q_rounds.specs.Listing.{AreTickets}
use Rattle.q_sorted.specs.declared.ticket.Ticket.{Ticket}
use Rattle.q_sorted.specs.Tickets.{goes_before, Rises}
use Rattle.q_candidates.specs.declared.lane.Lane.{Lane}
use Rattle.q_candidates.specs.Choosing.{cut_at, IsNextNeed, IsWalked}
use Rattle.q_candidates.specs.Filing.{group_for, need_at, need_ticket}

past_cut : (x : Ticket) (transport from : ℕ) → x.group ≡ transport → from ≤ x.key → goes_before x (cut_at transport from) ≡ false
past_cut x transport from a b = grind (arith, nat_tests)

cut_group : (x e : Ticket) (transport from : ℕ) → x.group ≡ transport → goes_before x e ≡ false → not (goes_before e (cut_at transport from)) ≡ true → e.group ≡ transport
cut_group x e transport from a b h = grind (arith, nat_tests)

cut_key : (e : Ticket) (transport from : ℕ) → e.group ≡ transport → not (goes_before e (cut_at transport from)) ≡ true → from ≤ e.key
cut_key e transport from a h = grind (arith, nat_tests)

key_before : (x e : Ticket) → x.group ≡ e.group → goes_before x e ≡ false → e.key ≤ x.key
key_before x e a h = grind (arith, nat_tests)

lane_step : (o : Option Lane) (n : ℕ) (e : Ticket) → option_map (need_ticket n) o ≡ Some e → (l : Lane) × (o ≡ Some l) × (e.key ≡ l.need)
lane_step None n e h = absurd cc
lane_step (Some l) n e h = let same : need_ticket n l ≡ e = cc in (l, refl, ap (λ (x : Ticket). x.key) (sym same))

-- the group of a lane that is walked along is its transport
group_is : (n : ℕ) (l : Lane) (transport : ℕ) → IsWalked transport l → (need_ticket n l).group ≡ transport
group_is n l transport at = ap (λ b. group_for b l.site.transport) at.0 ∙ at.1

module _ (lanes : List (Numbered Lane)) (needs : List Ticket) (listed : AreTickets (need_at lanes) needs) (rising : Rises needs) (transport from most : ℕ) where
  abbrev past : Ticket → Bool
  past x = not (goes_before x (cut_at transport from))

  -- each lane stands there
  stood : (n : ℕ) (l : Lane) → item_at n lanes ≡ Some l → stands (need_ticket n l) needs ≡ true
  stood n l there = entered (need_at lanes) needs n (need_ticket n l) listed (ap (option_map (need_ticket n)) there) refl

  passes : (n : ℕ) (l : Lane) → IsWalked transport l → from ≤ l.need → past (need_ticket n l) ≡ true
  passes n l at low = not_from_false (goes_before (need_ticket n l) (cut_at transport from)) (past_cut (need_ticket n l) transport from (group_is n l transport at) low)

  pub none_from : find past needs ≡ None → IsNextNeed transport from most lanes None
  none_from none = λ n l there at low few. both_ways (past (need_ticket n l)) (none_found past (need_ticket n l) needs none (stood n l there)) (passes n l at low)

  module _ (e : Ticket) (next : find past needs ≡ Some e) where
    its : (stands e needs ≡ true) × (past e ≡ true)
    its = found past e needs next

    not_before : (n : ℕ) (l : Lane) → item_at n lanes ≡ Some l → IsWalked transport l → from ≤ l.need → goes_before (need_ticket n l) e ≡ false
    not_before n l there at low = first_found past e (need_ticket n l) needs rising next (stood n l there) (passes n l at low)

    pub other_from : e.group ≢ transport → IsNextNeed transport from most lanes None
    other_from other = λ n l there at low few. other (cut_group (need_ticket n l) e transport from (group_is n l transport at) (not_before n l there at low) its.1)

    pub lane_there : (l : Lane) × (item_at e.item lanes ≡ Some l) × (e.key ≡ l.need)
    lane_there = lane_step (item_at e.item lanes) e.item e (ticket_own (need_at lanes) needs e listed its.0)

    pub no_lane : item_at e.item lanes ≡ None → ⊥
    no_lane none = unless_none (item_at e.item lanes) lane_there.0 none lane_there.1

    low_from : (l : Lane) → item_at e.item lanes ≡ Some l → e.group ≡ transport → (from ≤ l.need) × ((n : ℕ) (k : Lane) → item_at n lanes ≡ Some k → IsWalked transport k → from ≤ k.need → l.need ≤ k.need)
    low_from l there own =
        let both : Some lane_there.0 ≡ Some l = sym lane_there.1 ∙ there in
        let one : lane_there.0 ≡ l = cc in
        let need : e.key ≡ l.need = lane_there.2 ∙ ap (λ (x : Lane). x.need) one in (
          omega (arith, cut_key e transport from own its.1, need),
          λ n k here at low. omega (arith, key_before (need_ticket n k) e (group_is n k transport at ∙ sym own) (not_before n k here at low), need),
        )

    pub lane_from : (l : Lane) → item_at e.item lanes ≡ Some l → e.group ≡ transport → l.need ≤ most → IsNextNeed transport from most lanes (Some l.need)
    lane_from l there own few = let is = low_from l there own in (is.0, few, is.1)

    pub past_most : (l : Lane) → item_at e.item lanes ≡ Some l → e.group ≡ transport → most < l.need → IsNextNeed transport from most lanes None
    past_most l there own many = λ n k here at low few. omega (arith, (low_from l there own).1 n k here at low, many, few)
