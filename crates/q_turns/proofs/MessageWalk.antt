-- The walk along the tickets of a message's peers.
use Rattle.std.proofs.Common.{◌≡◌, ◌≢◌, ◌∙◌, ◌+◌, ◌<◌, ◌≤◌, ap, arith, false, inl, inr, length, List, None, Option, option_map, refl, Some, subst, sym, true, ℕ, ◌⊎◌}
use Rattle.std.proofs.lemmas.Bool.{both_ways, cases_lt, not-true, not_from_false}
use Rattle.std.proofs.lemmas.Bool.Decides.{nat_tests}
use Rattle.std.specs.Option.{option_map_or}
use Rattle.std.specs.Prelude.{◌&&◌, Bool, filter, find, IfSome, nat_le, not}
use Rattle.q_heads.proofs.Standing.{first_found, found, none_found, not_itself}
use Rattle.q_heads.specs.Lanes.{stands}
use Rattle.q_keyed.specs.Numbered.{item_at, Numbered}
use Rattle.q_model.specs.declared.id.Id.{Id}
use Rattle.q_sorted.specs.declared.ticket.Ticket.{Ticket}
use Rattle.q_sorted.specs.Tickets.{goes_before, Rises}
use Rattle.q_rounds.specs.declared.peer.Peer.{Peer}
use Rattle.q_rounds.specs.Listing.{AreTickets}
use Rattle.q_rounds.proofs.Fewer.{fewer_pass}
use Rattle.q_rounds.proofs.Entered.{entered, ticket_own}
use Rattle.q_turns.specs.Heading.{is_of_message, least_of, message_at, message_ticket}

-- it is of the message, and of no greater number
abbrev pub is_upto : Ticket → ℕ → Ticket → Bool
is_upto first m e = is_of_message first e && nat_le e.item m

-- the walk comes to the peer of the number yet
abbrev pub is_left : Ticket → Option Ticket → ℕ → Bool
is_left first at m = option_map_or (is_upto first m) at false

abbrev pub tickets_left : List Ticket → Option Ticket → ℕ
tickets_left items at = option_map_or (λ e. length (filter (goes_before e) items) + 1) at 0

-- what is known at each step
abbrev pub StandsAt : List Ticket → Option Ticket → Type 0
StandsAt items at = IfSome at (λ e. stands e items ≡ true)

found_stands : (p : Ticket → Bool) (items : List Ticket) (o : Option Ticket) → find p items ≡ o → StandsAt items o
found_stands p items None h = tt
found_stands p items (Some e) h = (found p e items h).0

pub stands_found : (p : Ticket → Bool) (items : List Ticket) (at : Option Ticket) → at ≡ find p items → StandsAt items at
stands_found p items at is = found_stands p items at (sym is)

along : (a b c : Ticket) → goes_before a b ≡ true → goes_before b c ≡ true → goes_before a c ≡ true
along a b c h k = grind (arith, nat_tests)

left_step : (items : List Ticket) (e : Ticket) (o : Option Ticket) → find (goes_before e) items ≡ o → tickets_left items o < length (filter (goes_before e) items) + 1
left_step items e None h = omega arith
left_step items e (Some d) h =
    let it = found (goes_before e) d items h in
    let fewer = fewer_pass (goes_before e) (goes_before d) d items (λ x after. along e d x it.1 after) it.0 it.1 (not_itself d) in
    omega (arith, fewer)

pub walk_smaller : (items : List Ticket) (e : Ticket) (at next : Option Ticket) → at ≡ Some e → next ≡ find (goes_before e) items → tickets_left items next < tickets_left items at
walk_smaller items e at next here is = subst (λ o. tickets_left items next < tickets_left items o) (sym here) (left_step items e next (sym is))

-- Where a ticket stands among those of the message.
past : (first e d : Ticket) (m : ℕ) → is_of_message first e ≡ true → goes_before e d ≡ true → m ≤ e.item → is_upto first m d ≡ false
past first e d m own after low = grind (arith, nat_tests)

between : (first e d : Ticket) (m : ℕ) → is_of_message first e ≡ true → goes_before e d ≡ true → goes_before (record first { item = m }) d ≡ false → is_upto first m d ≡ true
between first e d m own after high = grind (arith, nat_tests)

at_first : (first e : Ticket) (m : ℕ) → first.item ≡ 0 → goes_before e first ≡ false → goes_before (record first { item = m }) e ≡ false → is_upto first m e ≡ true
at_first first e m least after high = grind (arith, nat_tests)

goes_on : (first e : Ticket) (m : ℕ) → is_of_message first e ≡ true → e.item < m → goes_before e (record first { item = m }) ≡ true
goes_on first e m own more = grind (arith, nat_tests)

not_before_first : (first : Ticket) (m : ℕ) → first.item ≡ 0 → goes_before (record first { item = m }) first ≡ false
not_before_first first m least = grind (arith, nat_tests)

upto_own : (first e : Ticket) → is_of_message first e ≡ true → is_upto first e.item e ≡ true
upto_own first e own = grind (arith, nat_tests)

not_upto : (first e : Ticket) (m : ℕ) → m < e.item → is_upto first m e ≡ false
not_upto first e m low = grind (arith, nat_tests)

is_upto_own : (first e : Ticket) (m : ℕ) → is_of_message first e ≡ true → e.item ≤ m → is_upto first m e ≡ true
is_upto_own first e m own low = grind (arith, nat_tests)

module _ (id : Id) (ks : List (Numbered Peer)) (items : List Ticket) (listed : AreTickets (message_at ks) items) (rising : Rises items) where
  abbrev least : Ticket
  least = least_of id

  abbrev own : ℕ → Ticket
  own m = record least { item = m }

  listed_there : (m : ℕ) (q : Peer) → item_at m ks ≡ Some q → q.id ≡ id → stands (own m) items ≡ true
  listed_there m q there is =
      entered (message_at ks) items m (own m) listed
      (ap (option_map (message_ticket m)) there ∙ ap (λ (i : Id). Some (record { key = i.generation; group = i.serial; item = m })) is) refl

  -- it begins before all of them
  pub begin_step : (m : ℕ) (q : Peer) (o : Option Ticket) → item_at m ks ≡ Some q → q.id ≡ id → find (λ x. not (goes_before x least)) items ≡ o → is_left least o m ≡ true
  begin_step m q None there is none =
      absurd (both_ways (not (goes_before (own m) least)) (none_found (λ x. not (goes_before x least)) (own m) items none (listed_there m q there is)) (not_from_false (goes_before (own m) least) (not_before_first least m refl)))
  begin_step m q (Some e) there is first =
      let passes = (found (λ x. not (goes_before x least)) e items first).1 in
      at_first least e m refl (not-true (goes_before e least) passes)
      (first_found (λ x. not (goes_before x least)) e (own m) items rising first (listed_there m q there is) (not_from_false (goes_before (own m) least) (not_before_first least m refl)))

  -- One step.
  module _ (e : Ticket) (at next : Option Ticket) (here : at ≡ Some e) (stood : stands e items ≡ true) (of : is_of_message least e ≡ true) (step : next ≡ find (goes_before e) items) where
    next_step : (m : ℕ) (q : Peer) (o : Option Ticket) → item_at m ks ≡ Some q → q.id ≡ id → (m < e.item) ⊎ (e.item ≤ m) → m ≢ e.item → find (goes_before e) items ≡ o → is_left least o m ≡ is_upto least m e
    next_step m q None there is (inl low) other none = sym (not_upto least e m low)
    next_step m q (Some d) there is (inl low) other first =
        past least e d m of (found (goes_before e) d items first).1 (omega (arith, low)) ∙ sym (not_upto least e m low)
    next_step m q None there is (inr high) other none =
        let more : e.item < m = omega (arith, high, other) in
        absurd (both_ways (goes_before e (own m)) (none_found (goes_before e) (own m) items none (listed_there m q there is)) (goes_on least e m of more))
    next_step m q (Some d) there is (inr high) other first =
        let more : e.item < m = omega (arith, high, other) in
        between least e d m of (found (goes_before e) d items first).1 (first_found (goes_before e) d (own m) items rising first (listed_there m q there is) (goes_on least e m of more))
        ∙ sym (is_upto_own least e m of high)

    -- it passes no other peer
    pub left_same : (m : ℕ) (q : Peer) → item_at m ks ≡ Some q → q.id ≡ id → m ≢ e.item → is_left least next m ≡ is_left least at m
    left_same m q there is other = next_step m q next there is (cases_lt m e.item) other (sym step) ∙ ap (λ o. is_left least o m) (sym here)

    own_left_step : (o : Option Ticket) → find (goes_before e) items ≡ o → is_left least o e.item ≡ false
    own_left_step None none = refl
    own_left_step (Some d) first = past least e d e.item of (found (goes_before e) d items first).1 (omega arith)

    -- it comes to this one, and is past it then
    pub own_left : is_left least at e.item ≡ true
    own_left = ap (λ o. is_left least o e.item) here ∙ upto_own least e of

    pub own_past : is_left least next e.item ≡ false
    own_past = own_left_step next (sym step)

    peer_step : (o : Option Peer) → item_at e.item ks ≡ o → option_map (message_ticket e.item) o ≡ Some e → (p : Peer) × (item_at e.item ks ≡ Some p)
    peer_step None there h = absurd cc
    peer_step (Some p) there h = (p, there)

    -- the ticket is that of a peer
    pub peer_there : (p : Peer) × (item_at e.item ks ≡ Some p)
    peer_there = peer_step (item_at e.item ks) refl (ticket_own (message_at ks) items e listed stood)

-- the walk ends behind the last ticket of the message
pub ends_at_none : (id : Id) (at : Option Ticket) → at ≡ None → (m : ℕ) → is_left (least_of id) at m ≡ false
ends_at_none id at none m = ap (λ o. is_left (least_of id) o m) none

pub ends_at_other : (id : Id) (at : Option Ticket) (e : Ticket) → at ≡ Some e → is_of_message (least_of id) e ≡ false → (m : ℕ) → is_left (least_of id) at m ≡ false
ends_at_other id at e here other m = ap (λ o. is_left (least_of id) o m) here ∙ ap (λ b. b && nat_le e.item m) other

pub stood_at : (items : List Ticket) (at : Option Ticket) (e : Ticket) → at ≡ Some e → StandsAt items at → stands e items ≡ true
stood_at items at e here h = subst (StandsAt items) here h
