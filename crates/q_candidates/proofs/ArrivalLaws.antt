-- The candidates of a transport, by their arrival.
use Rattle.std.proofs.Common.{◌≡◌, ◌∙◌, ◌≤◌, ap, arith, filter, length, List, None, Option, option_map, refl, Some, sym, true, ℕ}
use Rattle.std.proofs.lemmas.Bool.{both_ways, eq-eqb, eqb-true}
use Rattle.std.specs.Option.{is_some}
use Rattle.std.specs.Prelude.{◌==◌, find}
use Rattle.q_heads.proofs.Standing.{first_found, found, none_found}
use Rattle.q_heads.specs.Lanes.{stands}
use Rattle.q_keyed.specs.Numbered.{item_at, Numbered}
use Rattle.q_rounds.proofs.Entered.{come, entered, go, most_tickets, ticket_own}
use Rattle.q_rounds.proofs.ItemSets.{unless_none}
use Rattle.q_rounds.specs.Listing.{AreTickets}
use Rattle.q_sorted.specs.declared.ticket.Ticket.{Ticket}
use Rattle.q_sorted.specs.Tickets.{inserted, is_another, is_of, Rises}
use Rattle.q_candidates.specs.declared.candidate.Candidate.{Candidate}
use Rattle.q_candidates.specs.Candidates.{age_at}
use Rattle.q_candidates.specs.Filing.{arrival_at, arrival_ticket, IsChanged}
use Rattle.q_candidates.proofs.ItemSame.{same_item}
use Rattle.q_candidates.proofs.LaneHeads.{not_before_key}

held : (ks : List (Numbered Candidate)) (m : ℕ) (e : Ticket) → arrival_at ks m ≡ Some e → (c : Candidate) × (item_at m ks ≡ Some c) × (e.key ≡ c.arrival)
held ks m e h = step (item_at m ks) refl h
  where
    step : (o : Option Candidate) → item_at m ks ≡ o → option_map (arrival_ticket m) o ≡ Some e → (c : Candidate) × (item_at m ks ≡ Some c) × (e.key ≡ c.arrival)
    step None there k = absurd cc
    step (Some c) there k = let same : arrival_ticket m c ≡ e = cc in (c, there, ap (λ (x : Ticket). x.key) (sym same))

-- there are no more of them than candidates
pub most_arrivals : (ks : List (Numbered Candidate)) (xs : List Ticket) → AreTickets (arrival_at ks) xs → Rises xs → length xs ≤ length ks
most_arrivals ks xs are rising = most_tickets (arrival_at ks) xs ks are rising (λ m e h. ap is_some (held ks m e h).1)

-- one comes, and one goes
pub arrived_in : (n : ℕ) (c : Candidate) (ks new : List (Numbered Candidate)) (xs : List Ticket) → AreTickets (arrival_at ks) xs → item_at n ks ≡ None → IsChanged n (Some c) ks new → AreTickets (arrival_at new) (inserted (arrival_ticket n c) xs)
arrived_in n c ks new xs are free changed =
    come (arrival_at ks) (arrival_at new) xs are n (λ m other. ap (option_map (arrival_ticket m)) (changed.others m other)) (arrival_ticket n c) (ap (option_map (arrival_ticket n)) free) (ap (option_map (arrival_ticket n)) changed.own) refl

pub arrived_out : (n : ℕ) (c : Candidate) (ks new : List (Numbered Candidate)) (xs : List Ticket) → AreTickets (arrival_at ks) xs → item_at n ks ≡ Some c → IsChanged n None ks new → AreTickets (arrival_at new) (filter (is_another (arrival_ticket n c)) xs)
arrived_out n c ks new xs are there changed =
    go (arrival_at ks) (arrival_at new) xs are n (λ m other. ap (option_map (arrival_ticket m)) (changed.others m other)) (arrival_ticket n c) (ap (option_map (arrival_ticket n)) there) (ap (option_map (arrival_ticket n)) changed.own) refl

-- The oldest of a transport.
module _ (ks : List (Numbered Candidate)) (xs : List Ticket) (are : AreTickets (arrival_at ks) xs) (transport : ℕ) where
  stood : (n : ℕ) (c : Candidate) → item_at n ks ≡ Some c → stands (arrival_ticket n c) xs ≡ true
  stood n c there = entered (arrival_at ks) xs n (arrival_ticket n c) are (ap (option_map (arrival_ticket n)) there) refl

  pub none_there : find (is_of transport) xs ≡ None → (n : ℕ) (c : Candidate) → item_at n ks ≡ Some c → c.site.transport ≡ transport → ⊥
  none_there none n c there at = both_ways (c.site.transport == transport) (none_found (is_of transport) (arrival_ticket n c) xs none (stood n c there)) (eq-eqb c.site.transport transport at)

  module _ (e : Ticket) (first : find (is_of transport) xs ≡ Some e) where
    its : (c : Candidate) × (item_at e.item ks ≡ Some c) × (e.key ≡ c.arrival)
    its = held ks e.item e (ticket_own (arrival_at ks) xs e are (found (is_of transport) e xs first).0)

    pub not_gone : item_at e.item ks ≡ None → ⊥
    not_gone none = unless_none (item_at e.item ks) its.0 none its.1

    pub is_oldest : Rises xs → (now : ℕ) (o : Candidate) → item_at e.item ks ≡ Some o → (n : ℕ) (c : Candidate) → item_at n ks ≡ Some c → c.site.transport ≡ transport → age_at now c ≤ age_at now o
    is_oldest rising now o here n c there at =
        let group = eqb-true e.group transport (found (is_of transport) e xs first).1 in
        let low = not_before_key (arrival_ticket n c) e (at ∙ sym group) (first_found (is_of transport) e (arrival_ticket n c) xs rising first (stood n c there) (eq-eqb c.site.transport transport at)) in
        omega (arith, low, its.2, ap (λ (x : Candidate). x.arrival) (same_item e.item its.0 o ks its.1 here))
