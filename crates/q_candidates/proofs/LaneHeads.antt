-- The first ticket of a lane that is wanted.
use Rattle.std.proofs.Common.{◌≡◌, ◌≢◌, ◌∙◌, ◌≤◌, ap, arith, Bool, cond, false, List, None, not, Option, refl, Some, sym, true, ℕ}
use Rattle.std.proofs.lemmas.Bool.{and_from, and_parts, both_ways, eq-eqb, eqb-true, false_from_ne_true, not-true}
use Rattle.std.proofs.lemmas.Bool.Decides.{nat_tests}
use Rattle.std.specs.Prelude.{◌&&◌, find, option_and_then}
use Rattle.q_dest.specs.declared.dest.Dest.{Dest}
use Rattle.q_heads.proofs.Standing.{first_found, found, none_found, not_itself}
use Rattle.q_heads.specs.Lanes.{class_of, Lanes, stands}
use Rattle.q_keyed.proofs.Values.{held_item}
use Rattle.q_keyed.specs.Numbered.{item_at, Numbered}
use Rattle.q_model.proofs.IdLaws.{id_eq-true}
use Rattle.q_model.specs.declared.id.Id.{Id}
use Rattle.q_model.specs.Ids.{id_eq}
use Rattle.q_model.specs.Values.{Site}
use Rattle.q_rounds.proofs.Entered.{entered, ticket_own}
use Rattle.q_rounds.specs.declared.peer.PeerKey.{PeerKey}
use Rattle.q_rounds.specs.KeyLaws.{key_eq-refl, key_eq-true}
use Rattle.q_rounds.specs.Rounds.{has_space_at, key_eq}
use Rattle.q_sorted.specs.declared.ticket.Ticket.{Ticket}
use Rattle.q_sorted.specs.Tickets.{goes_before, is_of, Rises}
use Rattle.q_candidates.specs.declared.candidate.Candidate.{Candidate}
use Rattle.q_candidates.specs.declared.lane.Lane.{Lane}
use Rattle.q_candidates.specs.declared.wanted.Wanted.{Wanted}
use Rattle.q_candidates.specs.Candidates.{key_of}
use Rattle.q_candidates.specs.Filing.{class_for, is_lane, lane_of, ticket_at, ticket_with}
use Rattle.q_candidates.specs.Walking.{AreOrdered, AreShut, first_in_lane, is_open, is_wanted, wanted_in}
use Rattle.q_candidates.proofs.TicketLaws.{some_from, ticket_is, ticket_tells, TicketOf}
use Rattle.q_candidates.proofs.Keys.{one_number}
use Rattle.q_candidates.proofs.Lanes.{lane_named, lane_parts, not_suspended}

-- two of one group stand by their keys
pub not_before_key : (x y : Ticket) → x.group ≡ y.group → goes_before x y ≡ false → y.key ≤ x.key
not_before_key x y same h = grind (arith, nat_tests)

other_before : (x y : Ticket) → goes_before x y ≡ false → x.item ≢ y.item → goes_before y x ≡ true
other_before x y h other = grind (arith, nat_tests)

key_with : Id → Site → PeerKey
key_with id site = record { id = id; site = site }

same_key : (a b : Candidate) → a.id ≡ b.id → a.site ≡ b.site → key_of a ≡ key_of b
same_key a b i s = ap (λ x. key_of (record a { id = x })) i ∙ ap (λ x. key_of (record b { site = x })) s

-- what is opens is so by its site and its need
open_same : (ds : List Dest) (w : Wanted) (a b : Candidate) → a.site ≡ b.site → a.need ≡ b.need → is_open ds w a ≡ is_open ds w b
open_same ds w a b s n = ap (λ x. is_open ds w (record a { site = x })) s ∙ ap (λ x. is_open ds w (record b { need = x })) n

module _ (key : Candidate → ℕ) (lanes : List (Numbered Lane)) (ks : List (Numbered Candidate)) (s : Lanes) (order : AreOrdered key lanes ks s) (rising : Rises s.items) where
  pub own : (x : Ticket) → stands x s.items ≡ true → TicketOf key lanes ks x.item x
  own x there = ticket_tells key lanes ks x.item x (ticket_own (ticket_at key lanes ks) s.items x order.placed there)

  -- the ticket of a candidate
  pub record HasTicket (n : ℕ) (c : Candidate) : Type 0 where
    pub ticket : Ticket
    pub there : stands ticket s.items ≡ true
    pub item : ticket.item ≡ n
    pub keyed : ticket.key ≡ key c
    pub lane : lane_of c.site c.need lanes ≡ Some ticket.group

  pub has_ticket : (n : ℕ) (c : Candidate) → item_at n ks ≡ Some c → HasTicket n c
  has_ticket n c there =
      let lane = some_from (lane_of c.site c.need lanes) (order.laned n c there) in
      let e = ticket_with key lane.0 n c in
      record { ticket = e; there = entered (ticket_at key lanes ks) s.items n e order.placed (ticket_is key lanes ks n lane.0 c there lane.1) refl; item = refl; keyed = refl; lane = lane.1 }

  -- the class of its lane, where its site has space
  pub its_class : (ds : List Dest) → AreShut ds lanes → (c : Candidate) (lane : ℕ) → has_space_at ds c.site ≡ true → lane_of c.site c.need lanes ≡ Some lane → class_of lane s.classes ≡ class_for false c.site.transport c.need
  its_class ds shut c lane space found =
      let it = held_item (is_lane c.site c.need) lane lanes order.lanes_apart found in
      let parts = lane_parts c.site c.need it.0 it.2 in
      let walked = not_suspended ds lanes shut lane it.0 it.1 (ap (has_space_at ds) parts.0 ∙ space) in
      (order.lanes_are lane it.0 it.1).class ∙ ap (λ b. class_for b it.0.site.transport it.0.need) walked
      ∙ ap (λ (x : Site). class_for false x.transport it.0.need) parts.0 ∙ ap (class_for false c.site.transport) parts.1

  -- candidates of one lane are of one site and one need
  one_lane : (a b : Candidate) (lane : ℕ) → lane_of a.site a.need lanes ≡ Some lane → lane_of b.site b.need lanes ≡ Some lane → (a.site ≡ b.site) × (a.need ≡ b.need)
  one_lane a b lane h k =
      let it = held_item (is_lane a.site a.need) lane lanes order.lanes_apart h in
      let mine = lane_parts a.site a.need it.0 it.2 in
      let its = lane_named b.site b.need lane lanes it.0 order.lanes_apart k it.1 in
      (sym mine.0 ∙ its.0, sym mine.1 ∙ its.1)

  module _ (ds : List Dest) (w : Wanted) (h : Ticket) (first : find (is_of h.group) s.items ≡ Some h) where
    mine : TicketOf key lanes ks h.item h
    mine = own h (found (is_of h.group) h s.items first).0

    abbrev behind : Option Ticket
    behind = find (λ x. is_of h.group x && goes_before h x) s.items

    chosen : first_in_lane ds w ks s.items h ≡ cond (is_open ds w mine.candidate) (cond (id_eq mine.candidate.id w.except) behind (Some h)) None
    chosen = ap (option_and_then (wanted_in ds w ks s.items h)) mine.there

    -- what is found in the lane
    pub record IsProper (y : Ticket) : Type 0 where
      pub candidate : Candidate
      pub there : item_at y.item ks ≡ Some candidate
      pub passes : is_wanted ds w candidate ≡ true
      pub keyed : y.key ≡ key candidate

    behind_proper : (y : Ticket) → is_open ds w mine.candidate ≡ true → id_eq mine.candidate.id w.except ≡ true → behind ≡ Some y → IsProper y
    behind_proper y opens left is =
        let it = found (λ x. is_of h.group x && goes_before h x) y s.items is in
        let parts = and_parts (is_of h.group y) (goes_before h y) it.1 in
        let its = own y it.0 in
        let lane : lane_of its.candidate.site its.candidate.need lanes ≡ Some h.group = its.lane ∙ ap Some (eqb-true y.group h.group parts.0) in
        let same = one_lane its.candidate mine.candidate h.group lane mine.lane in
        let other : id_eq its.candidate.id w.except ≡ false =
        false_from_ne_true (id_eq its.candidate.id w.except) (λ same_id.
        let ids : its.candidate.id ≡ mine.candidate.id = id_eq-true its.candidate.id w.except same_id ∙ sym (id_eq-true mine.candidate.id w.except left) in
        let number : y.item ≡ h.item = one_number key_eq key_of key_eq-true key_eq-refl y.item h.item its.candidate mine.candidate ks order.keys its.there mine.there (same_key its.candidate mine.candidate ids same.0) in
        let both : Some y ≡ Some h =
        sym (ticket_own (ticket_at key lanes ks) s.items y order.placed it.0) ∙ ap (ticket_at key lanes ks) number ∙ ticket_own (ticket_at key lanes ks) s.items h order.placed (found (is_of h.group) h s.items first).0 in
        let one : y ≡ h = cc in
        both_ways (goes_before h y) (ap (goes_before h) one ∙ not_itself h) parts.1)
        in
        record {
          candidate = its.candidate;
          there = its.there;
          passes = and_from (is_open ds w its.candidate) (not (id_eq its.candidate.id w.except)) (open_same ds w its.candidate mine.candidate same.0 same.1 ∙ opens) (ap not other);
          keyed = its.keyed;
        }

    proper_step : (y : Ticket) (t u : Bool) → is_open ds w mine.candidate ≡ t → id_eq mine.candidate.id w.except ≡ u → cond t (cond u behind (Some h)) None ≡ Some y → IsProper y
    proper_step y false u opens left is = absurd cc
    proper_step y true true opens left is = behind_proper y opens left is
    proper_step y true false opens left is =
        let same : h ≡ y = cc in
        record {
          candidate = mine.candidate;
          there = ap (λ (x : Ticket). item_at x.item ks) (sym same) ∙ mine.there;
          passes = and_from (is_open ds w mine.candidate) (not (id_eq mine.candidate.id w.except)) opens (ap not left);
          keyed = ap (λ (x : Ticket). x.key) (sym same) ∙ mine.keyed;
        }

    pub lane_proper : (y : Ticket) → first_in_lane ds w ks s.items h ≡ Some y → IsProper y
    lane_proper y is = proper_step y (is_open ds w mine.candidate) (id_eq mine.candidate.id w.except) refl refl (sym chosen ∙ is)

    -- and what isn't found there
    module _ (n : ℕ) (c : Candidate) (there : item_at n ks ≡ Some c) (wanted : is_wanted ds w c ≡ true) (laned : lane_of c.site c.need lanes ≡ Some h.group) where
      abbrev Nearest : Option Ticket → Type 0
      Nearest o = (y : Ticket) × (o ≡ Some y) × (y.key ≤ key c)

      its_own : HasTicket n c
      its_own = has_ticket n c there

      in_lane : its_own.ticket.group ≡ h.group
      in_lane =
          let both : Some its_own.ticket.group ≡ Some h.group = sym its_own.lane ∙ laned in cc

      not_before : goes_before its_own.ticket h ≡ false
      not_before = first_found (is_of h.group) h its_own.ticket s.items rising first its_own.there (eq-eqb its_own.ticket.group h.group in_lane)

      is_open_too : is_open ds w mine.candidate ≡ true
      is_open_too =
          let same = one_lane mine.candidate c h.group mine.lane laned in
          open_same ds w mine.candidate c same.0 same.1 ∙ (and_parts (is_open ds w c) (not (id_eq c.id w.except)) wanted).0

      is_other : id_eq mine.candidate.id w.except ≡ true → its_own.ticket.item ≢ h.item
      is_other left same =
          let some : Some c ≡ Some mine.candidate = sym there ∙ ap (λ m. item_at m ks) (sym its_own.item ∙ same) ∙ mine.there in
          let one : c ≡ mine.candidate = cc in
          both_ways (id_eq c.id w.except) (not-true (id_eq c.id w.except) (and_parts (is_open ds w c) (not (id_eq c.id w.except)) wanted).1) (ap (λ (x : Candidate). id_eq x.id w.except) one ∙ left)

      behind_step : (o : Option Ticket) → behind ≡ o → id_eq mine.candidate.id w.except ≡ true → Nearest o
      behind_step o is left = step o is
        where
          passes : (is_of h.group its_own.ticket && goes_before h its_own.ticket) ≡ true
          passes = and_from (is_of h.group its_own.ticket) (goes_before h its_own.ticket) (eq-eqb its_own.ticket.group h.group in_lane) (other_before its_own.ticket h not_before (is_other left))

          step : (o : Option Ticket) → behind ≡ o → Nearest o
          step None is = absurd (both_ways (is_of h.group its_own.ticket && goes_before h its_own.ticket) (none_found (λ x. is_of h.group x && goes_before h x) its_own.ticket s.items is its_own.there) passes)
          step (Some y) is =
              let it = found (λ x. is_of h.group x && goes_before h x) y s.items is in
              let group : y.group ≡ h.group = eqb-true y.group h.group (and_parts (is_of h.group y) (goes_before h y) it.1).0 in
              let low = not_before_key its_own.ticket y (in_lane ∙ sym group) (first_found (λ x. is_of h.group x && goes_before h x) y its_own.ticket s.items rising is its_own.there passes) in
              (y, refl, omega (arith, low, its_own.keyed))

      near_step : (t u : Bool) → is_open ds w mine.candidate ≡ t → id_eq mine.candidate.id w.except ≡ u → Nearest (cond t (cond u behind (Some h)) None)
      near_step false u opens left = absurd (both_ways (is_open ds w mine.candidate) opens is_open_too)
      near_step true true opens left = behind_step behind refl left
      near_step true false opens left = (h, refl, omega (arith, not_before_key its_own.ticket h in_lane not_before, its_own.keyed))

      pub lane_nearest : (y : Ticket) × (first_in_lane ds w ks s.items h ≡ Some y) × (y.key ≤ key c)
      lane_nearest =
          let it = near_step (is_open ds w mine.candidate) (id_eq mine.candidate.id w.except) refl refl in
          (it.0, chosen ∙ it.1, it.2)
