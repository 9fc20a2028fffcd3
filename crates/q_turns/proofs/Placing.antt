-- The tickets of all peers, as a peer comes, changes or goes.
use Rattle.std.proofs.Common.{◌≡◌, ◌≢◌, ◌∙◌, ◌∷◌, ◌++◌, ◌<◌, [], ap, inl, inr, List, map, None, Option, option_map, refl, Some, subst, sym, ℕ, ◌⊎◌}
use Rattle.std.proofs.lemmas.Bool.{cases_eq}
use Rattle.std.specs.Option.{is_some}
use Rattle.std.specs.Prelude.{filter, find, option_and_then}
use Rattle.q_heads.specs.Lanes.{Lanes}
use Rattle.q_heads.specs.Marks.{with_mark, without}
use Rattle.q_keyed.specs.Numbered.{has_number, item_at, Numbered, put_at, without_number}
use Rattle.q_model.specs.Values.{Site}
use Rattle.q_sorted.specs.declared.ticket.Ticket.{Ticket}
use Rattle.q_sorted.specs.Tickets.{inserted, is_another}
use Rattle.q_model.specs.declared.id.Id.{Id}
use Rattle.q_turns.specs.declared.lane.Lane.{Lane}
use Rattle.q_rounds.specs.declared.peer.Peer.{Peer}
use Rattle.q_rounds.specs.Listing.{AreTickets}
use Rattle.q_turns.specs.Heading.{head_at, head_in, message_at, message_ticket, lane_of}
use Rattle.q_turns.specs.Sound.{AreLanes, HaveLanes, IsUsed}
use Rattle.q_rounds.proofs.Entered.{alike, come, go, none_does, StayBut}
use Rattle.q_turns.proofs.HeadLaws.{at_is, head_same, head_tells}
use Rattle.q_rounds.proofs.Lookups.{other_left, other_more, other_put, own_left, own_more, own_put}

-- A peer comes under a number that none has.
abbrev pub with_peer : ℕ → Peer → List (Numbered Peer) → List (Numbered Peer)
with_peer n p ks = ks ++ record { number = n; item = p } ∷ []

pub free_at : (n : ℕ) (ks : List (Numbered Peer)) → find (has_number n) ks ≡ None → item_at n ks ≡ None
free_at n ks free = ap (λ o. option_map (λ (k : Numbered Peer). k.item) o) free

put_step : (f g : ℕ → Option Ticket) (xs : List Ticket) (n : ℕ) (o : Option Ticket) → AreTickets f xs → StayBut n f g → f n ≡ None → g n ≡ o → ((e : Ticket) → o ≡ Some e → e.item ≡ n) → AreTickets g (with_mark o xs)
put_step f g xs n None are stay none own named = none_does f g xs are n stay none own
put_step f g xs n (Some e) are stay none own named = come f g xs are n stay e none own (named e refl)

-- its tickets
pub placed_more : (rank : Peer → Option ℕ) (lanes : List (Numbered Lane)) (ks : List (Numbered Peer)) (xs : List Ticket) (n : ℕ) (p : Peer) (o : Option Ticket) → AreTickets (head_at rank lanes ks) xs → find (has_number n) ks ≡ None → o ≡ head_in rank lanes n p →
    AreTickets (head_at rank lanes (with_peer n p ks)) (with_mark o xs)
placed_more rank lanes ks xs n p o are free is =
    put_step (head_at rank lanes ks) (head_at rank lanes (with_peer n p ks)) xs n o are
    (λ m other. ap (option_and_then (head_in rank lanes m)) (other_more n m p ks other))
    (at_is rank lanes ks n None (free_at n ks free))
    (at_is rank lanes (with_peer n p ks) n (Some p) (own_more n p ks free) ∙ sym is)
    (λ e some. (head_tells rank lanes n p e (sym is ∙ some)).item)

pub listed_more : (ks : List (Numbered Peer)) (xs : List Ticket) (n : ℕ) (p : Peer) → AreTickets (message_at ks) xs → find (has_number n) ks ≡ None → AreTickets (message_at (with_peer n p ks)) (inserted (message_ticket n p) xs)
listed_more ks xs n p are free =
    come (message_at ks) (message_at (with_peer n p ks)) xs are n
    (λ m other. ap (λ o. option_map (message_ticket m) o) (other_more n m p ks other))
    (message_ticket n p)
    (ap (λ o. option_map (message_ticket n) o) (free_at n ks free))
    (ap (λ o. option_map (message_ticket n) o) (own_more n p ks free))
    refl

-- One goes.
take_step : (f g : ℕ → Option Ticket) (xs : List Ticket) (n : ℕ) (o : Option Ticket) → AreTickets f xs → StayBut n f g → f n ≡ o → g n ≡ None → ((e : Ticket) → o ≡ Some e → e.item ≡ n) → AreTickets g (without o xs)
take_step f g xs n None are stay own none named = none_does f g xs are n stay own none
take_step f g xs n (Some e) are stay own none named = go f g xs are n stay e own none (named e refl)

pub placed_less : (rank : Peer → Option ℕ) (lanes : List (Numbered Lane)) (ks : List (Numbered Peer)) (xs : List Ticket) (n : ℕ) (p : Peer) (o : Option Ticket) → AreTickets (head_at rank lanes ks) xs → item_at n ks ≡ Some p → o ≡ head_in rank lanes n p →
    AreTickets (head_at rank lanes (without_number n ks)) (without o xs)
placed_less rank lanes ks xs n p o are there is =
    take_step (head_at rank lanes ks) (head_at rank lanes (without_number n ks)) xs n o are
    (λ m other. ap (option_and_then (head_in rank lanes m)) (other_left n m ks other))
    (at_is rank lanes ks n (Some p) there ∙ sym is)
    (at_is rank lanes (without_number n ks) n None (own_left n ks))
    (λ e some. (head_tells rank lanes n p e (sym is ∙ some)).item)

pub listed_less : (ks : List (Numbered Peer)) (xs : List Ticket) (n : ℕ) (p : Peer) → AreTickets (message_at ks) xs → item_at n ks ≡ Some p → AreTickets (message_at (without_number n ks)) (filter (is_another (message_ticket n p)) xs)
listed_less ks xs n p are there =
    go (message_at ks) (message_at (without_number n ks)) xs are n
    (λ m other. ap (λ o. option_map (message_ticket m) o) (other_left n m ks other))
    (message_ticket n p)
    (ap (λ o. option_map (message_ticket n) o) there)
    (ap (λ o. option_map (message_ticket n) o) (own_left n ks))
    refl

-- the peer that stood there, before one came in the place of one of the same message and site
record WasAt (ks : List (Numbered Peer)) (m : ℕ) (q : Peer) : Type 0 where
  peer : Peer
  there : item_at m ks ≡ Some peer
  at : peer.site ≡ q.site

mapped : (m : ℕ) (o : Option Peer) → option_map (message_ticket m) o ≡ option_and_then (λ q. Some (message_ticket m q)) o
mapped m None = refl
mapped m (Some q) = refl

-- One changes, but for its message and site.
module _ (n : ℕ) (p x : Peer) (ks : List (Numbered Peer)) (there : item_at n ks ≡ Some p) (id : x.id ≡ p.id) (site : x.site ≡ p.site) where
  put_cases : (m : ℕ) (g : Peer → Option Ticket) → g x ≡ g p → (m ≡ n) ⊎ (m ≢ n) → option_and_then g (item_at m (map (put_at n x) ks)) ≡ option_and_then g (item_at m ks)
  put_cases m g same (inl own) =
      ap (λ i. option_and_then g (item_at i (map (put_at n x) ks))) own
      ∙ ap (option_and_then g) (own_put n x ks (ap is_some there)) ∙ same ∙ ap (option_and_then g) (sym there) ∙ ap (λ i. option_and_then g (item_at i ks)) (sym own)
  put_cases m g same (inr other) = ap (option_and_then g) (other_put n m x ks other)

  pub placed_put : (rank : Peer → Option ℕ) (lanes : List (Numbered Lane)) (xs : List Ticket) → rank x ≡ rank p → AreTickets (head_at rank lanes ks) xs → AreTickets (head_at rank lanes (map (put_at n x) ks)) xs
  placed_put rank lanes xs same are =
      alike (head_at rank lanes ks) (head_at rank lanes (map (put_at n x) ks)) xs are
      (λ m. put_cases m (head_in rank lanes m) (head_same rank rank lanes lanes m p x (ap (λ s. lane_of s lanes) site) same) (cases_eq m n))

  message_same : (m : ℕ) → message_ticket m x ≡ message_ticket m p
  message_same m = ap (λ (i : Id). record { key = i.generation; group = i.serial; item = m }) id

  pub listed_put : (xs : List Ticket) → AreTickets (message_at ks) xs → AreTickets (message_at (map (put_at n x) ks)) xs
  listed_put xs are =
      alike (message_at ks) (message_at (map (put_at n x) ks)) xs are
      (λ m. mapped m (item_at m (map (put_at n x) ks)) ∙ put_cases m (λ q. Some (message_ticket m q)) (ap Some (message_same m)) (cases_eq m n) ∙ sym (mapped m (item_at m ks)))

  was_step : (m : ℕ) (q : Peer) → item_at m (map (put_at n x) ks) ≡ Some q → (m ≡ n) ⊎ (m ≢ n) → WasAt ks m q
  was_step m q h (inl own) =
      let some : Some x ≡ Some q = sym (own_put n x ks (ap is_some there)) ∙ ap (λ i. item_at i (map (put_at n x) ks)) (sym own) ∙ h in
      let same : x ≡ q = cc in
      record { peer = p; there = ap (λ i. item_at i ks) own ∙ there; at = sym site ∙ ap (λ (y : Peer). y.site) same }
  was_step m q h (inr other) = record { peer = q; there = sym (other_put n m x ks other) ∙ h; at = refl }

  now_step : (m : ℕ) (s : Site) (q : Peer) → item_at m ks ≡ Some q → q.site ≡ s → (m ≡ n) ⊎ (m ≢ n) → IsUsed s (map (put_at n x) ks)
  now_step m s q h at (inl own) =
      let some : Some p ≡ Some q = sym there ∙ ap (λ i. item_at i ks) (sym own) ∙ h in
      let same : p ≡ q = cc in
      record { number = n; peer = x; there = own_put n x ks (ap is_some there); at = site ∙ ap (λ (y : Peer). y.site) same ∙ at }
  now_step m s q h at (inr other) = record { number = m; peer = q; there = other_put n m x ks other ∙ h; at = at }

  pub laned_put : (transports : ℕ) (lanes : List (Numbered Lane)) → HaveLanes transports lanes ks → HaveLanes transports lanes (map (put_at n x) ks)
  laned_put transports lanes have m q h below =
      let was = was_step m q h (cases_eq m n) in
      ap (λ s. is_some (lane_of s lanes)) (sym was.at) ∙ have m was.peer was.there (subst (λ (s : Site). s.transport < transports) (sym was.at) below)

  pub lanes_put : (class : Site → ℕ) (lanes : List (Numbered Lane)) (heads : Lanes) → AreLanes class lanes ks heads → AreLanes class lanes (map (put_at n x) ks) heads
  lanes_put class lanes heads are j l h =
      let is = are j l h in
      record { below = is.below; classed = is.classed; used = now_step is.used.number l.site is.used.peer is.used.there is.used.at (cases_eq is.used.number n) }
