-- The peer that is found in lists and tickets is the one that is sent to next.
use Rattle.std.proofs.Common.{◌≡◌, ◌∙◌, ◌∷◌, ◌<◌, ◌≤◌, [], ap, arith, Bool, cond, false, inl, inr, List, map, None, Option, option_map, refl, Some, sym, true, ℕ, ◌⊎◌}
use Rattle.std.proofs.lemmas.Bool.{and_from, and_parts, both_ways, cases_Bool, cases_eq, eq-eqb, eqb-true, false_from_ne_true, ltb-true, not_from_false}
use Rattle.std.proofs.lemmas.Bool.Decides.{nat_tests}
use Rattle.std.specs.Option.{option_map_or}
use Rattle.std.specs.Prelude.{◌==◌, ◌&&◌, filter, find, not}
use Rattle.q_dest.specs.declared.dest.Dest.{Dest}
use Rattle.q_heads.specs.Lanes.{stands}
use Rattle.q_keyed.proofs.Values.{held_item, item_found, none_passes, NonePass}
use Rattle.q_keyed.specs.Numbered.{AreApart, first_such, item_at, Numbered, values_of}
use Rattle.q_model.specs.declared.id.Id.{Id}
use Rattle.q_sorted.specs.declared.ticket.Ticket.{Ticket}
use Rattle.q_sorted.specs.Tickets.{goes_before, is_of}
use Rattle.q_rounds.specs.declared.peer.Peer.{Peer}
use Rattle.q_rounds.specs.declared.round.Round.{Round}
use Rattle.q_rounds.specs.Jobs.{AreRounds, is_round, round_at, round_of, rows_at, rows_of}
use Rattle.q_rounds.specs.Listing.{AreTickets, is_list, list_of, listed, space_in, ticket_at, ticket_with}
use Rattle.q_rounds.specs.Rounds.{has_space_at, is_peer_for, is_started, may_send, next_in, rows_left}
use Rattle.q_rounds.specs.Sound.{AreFit, HaveOwnStarts}
use Rattle.q_rounds.specs.Walking.{can_start, IsLeast}
use Rattle.q_rounds.proofs.Entered.{entered, ticket_own}
use Rattle.q_rounds.proofs.Leasts.{AreLater, is_fresh, IsAmong, least_fresh, least_is, least_none}
use Rattle.q_rounds.proofs.Lookups.{here_at, later_at, none_at}
use Rattle.q_rounds.proofs.RoundSets.{job_parts, one_job}
use Rattle.q_rounds.proofs.Totals.{rows_total, total_part}
use Rattle.q_rounds.proofs.TicketLaws.{at_is, at_tells, ticket_made}

find_step : (p : Peer) (a b : Option Peer) (t : Bool) → a ≡ b → cond t (Some p) a ≡ cond t (Some p) b
find_step p a b true same = refl
find_step p a b false same = same

find_alike : (f g : Peer → Bool) (ps : List Peer) → ((p : Peer) → f p ≡ g p) → find f ps ≡ find g ps
find_alike f g [] same = refl
find_alike f g (p ∷ ps) same = ap (λ t. cond t (Some p) (find f ps)) (same p) ∙ find_step p (find f ps) (find g ps) (g p) (find_alike f g ps same)

-- What is known of each peer is known of all.
none_from : (f : Peer → Bool) (ks : List (Numbered Peer)) → AreApart ks → ((m : ℕ) (q : Peer) → item_at m ks ≡ Some q → f q ≡ false) → NonePass f (values_of ks)
none_from f [] apart h = tt
none_from f (k ∷ ks) apart h = (h k.number k.item (here_at k ks), none_from f ks apart.1 (λ m q there. h m q (later_at m q k ks apart.0 there)))

later_from : (f : Peer → Bool) (p : Peer) (ks : List (Numbered Peer)) → AreApart ks → ((m : ℕ) (q : Peer) → item_at m ks ≡ Some q → f q ≡ true → (q ≡ p) ⊎ (p.last < q.last)) → AreLater f p (values_of ks)
later_from f p [] apart h = tt
later_from f p (k ∷ ks) apart h = (h k.number k.item (here_at k ks), later_from f p ks apart.1 (λ m q there. h m q (later_at m q k ks apart.0 there)))

among_step : (f : Peer → Bool) (n : ℕ) (p : Peer) (k : Numbered Peer) (ks : List (Numbered Peer)) (t : Bool) → option_map (λ (k : Numbered Peer). k.item) (cond t (Some k) (find (λ k. k.number == n) ks)) ≡ Some p → (item_at n ks ≡ Some p → IsAmong f p (values_of ks)) → IsAmong f p (values_of (k ∷ ks))
among_step f n p k ks true there rest = let same : k.item ≡ p = cc in inl same
among_step f n p k ks false there rest = inr (rest there)

among_from : (f : Peer → Bool) (n : ℕ) (p : Peer) (ks : List (Numbered Peer)) → item_at n ks ≡ Some p → IsAmong f p (values_of ks)
among_from f n p [] there = let none : ◌≡◌ {A = Option Peer} None (Some p) = there in absurd cc
among_from f n p (k ∷ ks) there = among_step f n p k ks (k.number == n) there (among_from f n p ks)

-- Searching a list of numbers is searching the peers that stand there.
module _ (ds : List Dest) (all : List (Numbered Peer)) (place : Peer → Option ℕ) (b : ℕ) where
  abbrev in_list : Peer → Bool
  in_list p = is_list b (place p) && has_space_at ds p.site

  here_step : (k : Numbered Peer) (found : Option ℕ) (rest : Option (Numbered Peer)) (s : Bool) → found ≡ option_map (λ (k : Numbered Peer). k.number) rest → cond s (Some k.number) found ≡ option_map (λ (k : Numbered Peer). k.number) (cond s (Some k) rest)
  here_step k found rest true same = refl
  here_step k found rest false same = same

  search_step : (k : Numbered Peer) (ls : List (Numbered Peer)) (u : Bool) → space_in ds all k.number ≡ has_space_at ds k.item.site → find (space_in ds all) (listed place b ls) ≡ first_such in_list ls →
      find (space_in ds all) (map (λ (k : Numbered Peer). k.number) (cond u (k ∷ filter (λ k. is_list b (place k.item)) ls) (filter (λ k. is_list b (place k.item)) ls)))
      ≡ option_map (λ (k : Numbered Peer). k.number) (cond (u && has_space_at ds k.item.site) (Some k) (find (λ k. in_list k.item) ls))
  search_step k ls true space rest =
      ap (λ s. cond s (Some k.number) (find (space_in ds all) (listed place b ls))) space
      ∙ here_step k (find (space_in ds all) (listed place b ls)) (find (λ k. in_list k.item) ls) (has_space_at ds k.item.site) rest
  search_step k ls false space rest = rest

  pub search_listed : (ls : List (Numbered Peer)) → AreApart ls → ((m : ℕ) (q : Peer) → item_at m ls ≡ Some q → item_at m all ≡ Some q) → find (space_in ds all) (listed place b ls) ≡ first_such in_list ls
  search_listed [] apart there = refl
  search_listed (k ∷ ls) apart there =
      search_step k ls (is_list b (place k.item))
      (ap (λ (o : Option Peer). option_map_or (λ (p : Peer). has_space_at ds p.site) o false) (there k.number k.item (here_at k ls)))
      (search_listed ls apart.1 (λ m q h. there m q (later_at m q k ls apart.0 h)))

module _ (ds : List Dest) (id : Id) (t : ℕ) (room : ℕ) (rs : List (Numbered Round)) (ks : List (Numbered Peer)) (apart : AreApart ks) (fit : AreFit room ks) where
  abbrev sends : Peer → Bool
  sends p = may_send ds t id p

  -- no row of the job waits
  pub next_nowhere : (rounds_room : ℕ) → AreRounds rounds_room rs (values_of ks) → round_at id t rs ≡ None → next_in ds t id (values_of ks) ≡ None
  next_nowhere rounds_room counted none =
      least_none sends (values_of ks) (none_from sends ks apart
      (λ m q h.
      false_from_ne_true (sends q) (λ passes.
      let of = and_parts (is_peer_for id t q) (has_space_at ds q.site) passes in
      let rows : rows_of id t q ≡ q.waiting = ap (λ b. cond b q.waiting 0) of.0 in
      let zero : 0 ≡ rows_left id t (values_of ks) = sym (ap (rows_at rs) none) ∙ counted.rows id t in
      omega (arith, rows, zero, rows_total id t (values_of ks), total_part (rows_of id t) m q ks apart h, (fit m q h).some))))

  module _ (r : ℕ) (rapart : AreApart rs) (found : round_at id t rs ≡ Some r) where
    own_round : (q : Peer) → is_peer_for id t q ≡ true → round_of rs q ≡ Some r
    own_round q of =
        let parts = job_parts q.id q.site.transport id t of in
        ap (λ j. round_at j q.site.transport rs) parts.0 ∙ ap (λ u. round_at id u rs) parts.1 ∙ found

    other_step : (q : Peer) (o : Option ℕ) → is_peer_for id t q ≡ false → round_of rs q ≡ o → is_list r o ≡ false
    other_step q None of is = refl
    other_step q (Some m) of is =
        false_from_ne_true (m == r) (λ h.
        let same : m ≡ r = eqb-true m r h in
        let a = held_item (is_round q.id q.site.transport) m rs rapart is in
        let b = held_item (is_round id t) r rs rapart found in
        let both : Some a.0 ≡ Some b.0 = sym a.1 ∙ ap (λ i. item_at i rs) same ∙ b.1 in
        let its : a.0 ≡ b.0 = cc in
        both_ways (is_peer_for id t q) of (one_job q.id q.site.transport id t b.0 (ap (is_round q.id q.site.transport) (sym its) ∙ a.2) b.2))

    round_step : (q : Peer) → (is_peer_for id t q ≡ true) ⊎ (is_peer_for id t q ≡ false) → is_list r (round_of rs q) ≡ is_peer_for id t q
    round_step q (inl of) = ap (is_list r) (own_round q of) ∙ eq-eqb r r refl ∙ sym of
    round_step q (inr other) = other_step q (round_of rs q) other refl ∙ sym other

    of_round : (q : Peer) → is_list r (round_of rs q) ≡ is_peer_for id t q
    of_round q = round_step q (cases_Bool (is_peer_for id t q))

    -- the list has the peers of the job that were never sent to
    list_step : (q : Peer) (s : Bool) (a b : Bool) → is_list r (round_of rs q) ≡ a → (is_list r (cond s None (round_of rs q)) && b) ≡ ((a && b) && not s)
    list_step q true true true is = refl
    list_step q true true false is = refl
    list_step q true false b is = refl
    list_step q false true true is = ap (λ x. x && true) is
    list_step q false true false is = ap (λ x. x && false) is
    list_step q false false b is = ap (λ x. x && b) is

    in_list_is : (q : Peer) → in_list ds ks (list_of rs) r q ≡ is_fresh sends q
    in_list_is q = list_step q (is_started q) (is_peer_for id t q) (has_space_at ds q.site) (of_round q)

    searched : find (space_in ds ks) (listed (list_of rs) r ks) ≡ first_such (in_list ds ks (list_of rs) r) ks
    searched = search_listed ds ks (list_of rs) r ks apart (λ m q h. h)

    -- one that was never sent to
    pub next_fresh : (n : ℕ) → find (space_in ds ks) (listed (list_of rs) r ks) ≡ Some n → item_at n ks ≡ next_in ds t id (values_of ks)
    next_fresh n is =
        let at = sym searched ∙ is in
        let it = held_item (in_list ds ks (list_of rs) r) n ks apart at in
        let first : find (is_fresh sends) (values_of ks) ≡ Some it.0 =
        sym (find_alike (in_list ds ks (list_of rs) r) (is_fresh sends) (values_of ks) in_list_is) ∙ sym (item_found (in_list ds ks (list_of rs) r) n ks apart at) ∙ it.1
        in
        it.1 ∙ sym (least_fresh sends it.0 (values_of ks) first)

    -- No such one has space.
    module _ (none : find (space_in ds ks) (listed (list_of rs) r ks) ≡ None) (items : List Ticket) (placed : AreTickets (ticket_at rs ks) items) where
      started_step : (q : Peer) (s : Bool) → is_started q ≡ s → (sends q && not (is_started q)) ≡ false → sends q ≡ true → s ≡ true
      started_step q true is fails passes = refl
      started_step q false is fails passes = absurd (both_ways (sends q && not (is_started q)) fails (and_from (sends q) (not (is_started q)) passes (not_from_false (is_started q) is)))

      all_started : (m : ℕ) (q : Peer) → item_at m ks ≡ Some q → sends q ≡ true → is_started q ≡ true
      all_started m q h passes =
          let fails = sym (in_list_is q) ∙ none_at (in_list ds ks (list_of rs) r) m q ks (none_passes (in_list ds ks (list_of rs) r) ks (sym searched ∙ none)) h in
          started_step q (is_started q) refl fails passes

      abbrev ticket_of : ℕ → Peer → Ticket
      ticket_of m q = ticket_with q.last m r

      stands_there : (m : ℕ) (q : Peer) → item_at m ks ≡ Some q → sends q ≡ true → stands (ticket_of m q) items ≡ true
      stands_there m q h passes =
          let of = and_parts (is_peer_for id t q) (has_space_at ds q.site) passes in
          entered (ticket_at rs ks) items m (ticket_of m q) placed (at_is rs ks m q h ∙ ticket_made (round_of rs q) m r q (all_started m q h passes) (own_round q of.0)) refl

      passes_there : (m : ℕ) (q : Peer) → item_at m ks ≡ Some q → sends q ≡ true → can_start ds ks r (ticket_of m q) ≡ true
      passes_there m q h passes =
          let of = and_parts (is_peer_for id t q) (has_space_at ds q.site) passes in
          and_from (r == r) (space_in ds ks m) (eq-eqb r r refl) (ap (λ (o : Option Peer). option_map_or (λ (p : Peer). has_space_at ds p.site) o false) h ∙ of.1)

      pub next_none : ((x : Ticket) → stands x items ≡ true → can_start ds ks r x ≡ false) → next_in ds t id (values_of ks) ≡ None
      next_none fail =
          least_none sends (values_of ks) (none_from sends ks apart
          (λ m q h. false_from_ne_true (sends q) (λ passes. both_ways (can_start ds ks r (ticket_of m q)) (fail (ticket_of m q) (stands_there m q h passes)) (passes_there m q h passes))))

      not_earlier : (e d : Ticket) → e.group ≡ d.group → goes_before d e ≡ false → e.key ≤ d.key
      not_earlier e d same h = grind (arith, nat_tests)

      module _ (starts : HaveOwnStarts ks) (e : Ticket) (least : IsLeast (can_start ds ks r) items e) where
        pub next_ticket : item_at e.item ks ≡ next_in ds t id (values_of ks)
        next_ticket =
            let at = at_tells rs ks e.item e (ticket_own (ticket_at rs ks) items e placed least.there) in
            let p = at.peer in
            let parts = and_parts (is_of r e) (space_in ds ks e.item) least.passes in
            let group : e.group ≡ r = eqb-true e.group r parts.0 in
            let round : round_of rs p ≡ Some r = at.ticket.of ∙ ap Some group in
            let of : is_peer_for id t p ≡ true = sym (of_round p) ∙ ap (is_list r) round ∙ eq-eqb r r refl in
            let space : has_space_at ds p.site ≡ true = sym (ap (λ (o : Option Peer). option_map_or (λ (q : Peer). has_space_at ds q.site) o false) at.there) ∙ parts.1 in
            let later = λ (m : ℕ) (q : Peer) (h : item_at m ks ≡ Some q) (passes : sends q ≡ true).
            order m q p e at.there h at.ticket.key (ltb-true 0 p.last at.ticket.started) (not_earlier e (ticket_of m q) group (least.first (ticket_of m q) (stands_there m q h passes) (passes_there m q h passes)))
            in
            at.there ∙ sym (least_is sends p (values_of ks) (among_from sends e.item p ks at.there) (and_from (is_peer_for id t p) (has_space_at ds p.site) of space) (later_from sends p ks apart later))
          where
            one_of : (m : ℕ) (q p : Peer) (x : Ticket) → item_at x.item ks ≡ Some p → item_at m ks ≡ Some q → x.item ≡ m → q ≡ p
            one_of m q p x a b same =
                let both : Some q ≡ Some p = sym b ∙ ap (λ i. item_at i ks) (sym same) ∙ a in
                cc

            order : (m : ℕ) (q p : Peer) (x : Ticket) → item_at x.item ks ≡ Some p → item_at m ks ≡ Some q → x.key ≡ p.last → 0 < p.last → x.key ≤ q.last → (q ≡ p) ⊎ (p.last < q.last)
            order m q p x a b key some low = elim (cases_eq p.last q.last) [
              | inl same ↦ inl (one_of m q p x a b (starts x.item m p q a b some same))
              | inr other ↦ inr (omega (arith, key, low, other))
            ]
