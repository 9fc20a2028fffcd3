-- Walks that put tickets where the ranks of their jobs say.
use Rattle.std.proofs.Common.{◌≡◌, ◌≢◌, ◌∙◌, ◌∷◌, ◌<◌, ◌≤◌, [], ap, arith, Bool, cond, false, inl, inr, length, List, None, Option, option_map, refl, Some, subst, sym, true, ℕ, suc}
use Rattle.std.proofs.lemmas.Bool.{cases_eq, eq-eqb, ne_eqb}
use Rattle.std.specs.List.{list_any}
use Rattle.std.specs.Option.{is_some}
use Rattle.std.specs.Prelude.{◌==◌, ◌||◌, filter, find, IfSome, option_and_then}
use Rattle.q_heads.specs.Lanes.{Lanes}
use Rattle.q_heads.specs.Marks.{with_mark}
use Rattle.q_jobs.specs.Jobs.{Jobs}
use Rattle.q_keyed.specs.Numbered.{AreApart, first_number, has_number, item_at, next_number, Numbered}
use Rattle.q_sorted.specs.declared.ticket.Ticket.{Ticket}
use Rattle.q_sorted.specs.Tickets.{inserted, is_another, Rises}
use Rattle.q_turns.specs.declared.lane.Lane.{Lane}
use Rattle.q_rounds.specs.declared.peer.Peer.{Peer}
use Rattle.q_rounds.specs.Listing.{AreTickets}
use Rattle.q_turns.specs.Heading.{head_at, head_in, rank_by, ranked_elsewhere}
use Rattle.q_turns.specs.Moving.{missing_head}
use Rattle.q_turns.specs.Sound.{AreLaned}
use Rattle.q_rounds.proofs.Entered.{alike, come, fewer_tickets, go, none_does, StayBut}
use Rattle.q_turns.proofs.HeadLaws.{at_is, head_below, at_tells, head_same, head_tells, no_rank}
use Rattle.q_rounds.proofs.NumberedWalk.{from_first, from_on, lacks_own, one_on}

-- A ticket in the place of another.
module _ (f h : ℕ → Option Ticket) (xs : List Ticket) (are : AreTickets f xs) (n : ℕ) (stay : StayBut n f h) where
  abbrev gone : ℕ → Option Ticket
  gone m = cond (m == n) None (f m)

  gone_own : gone n ≡ None
  gone_own = ap (λ t. cond t None (f n)) (eq-eqb n n refl)

  gone_other : (m : ℕ) → m ≢ n → gone m ≡ f m
  gone_other m other = ap (λ t. cond t None (f m)) (ne_eqb m n other)

  pub move : (e d : Ticket) → f n ≡ Some e → h n ≡ Some d → e.item ≡ n → d.item ≡ n → AreTickets h (inserted d (filter (is_another e) xs))
  move e d old new named its =
      come gone h (filter (is_another e) xs) (go f gone xs are n gone_other e old gone_own named) n (λ m other. stay m other ∙ sym (gone_other m other)) d gone_own new its

none_step : (m : ℕ) (k : Numbered Peer) (ls : List (Numbered Peer)) (b : Bool) → (b || list_any (has_number m) ls) ≡ false → (list_any (has_number m) ls ≡ false → item_at m ls ≡ None) → option_map (λ (k : Numbered Peer). k.item) (cond b (Some k) (find (has_number m) ls)) ≡ None
none_step m k ls true h rest = absurd cc
none_step m k ls false h rest = rest h

none_at : (m : ℕ) (ls : List (Numbered Peer)) → list_any (has_number m) ls ≡ false → item_at m ls ≡ None
none_at m [] h = refl
none_at m (k ∷ ls) h = none_step m k ls (k.number == m) h (none_at m ls)

-- The walk along all peers.
module _ (t : ℕ) (lines : List Jobs) (lanes : List (Numbered Lane)) (ks : List (Numbered Peer)) where
  -- which tickets stand, where those of the peers from this one on are missing
  abbrev pub put_so_far : Option ℕ → ℕ → Option Ticket
  put_so_far at m = cond (list_any (has_number m) (from_on at ks)) (head_at (ranked_elsewhere t lines) lanes ks m) (head_at (rank_by lines) lanes ks m)

  begin_step : (m : ℕ) (b : Bool) → list_any (has_number m) ks ≡ b → cond b (head_at (ranked_elsewhere t lines) lanes ks m) (head_at (rank_by lines) lanes ks m) ≡ head_at (ranked_elsewhere t lines) lanes ks m
  begin_step m true h = refl
  begin_step m false h =
      let none = none_at m ks h in
      at_is (rank_by lines) lanes ks m None none ∙ sym (at_is (ranked_elsewhere t lines) lanes ks m None none)

  pub put_begins : (xs : List Ticket) (at : Option ℕ) → at ≡ first_number ks → AreTickets (head_at (ranked_elsewhere t lines) lanes ks) xs → AreTickets (put_so_far at) xs
  put_begins xs at is are =
      alike (head_at (ranked_elsewhere t lines) lanes ks) (put_so_far at) xs are
      (λ m. ap (λ ls. cond (list_any (has_number m) ls) (head_at (ranked_elsewhere t lines) lanes ks m) (head_at (rank_by lines) lanes ks m)) (ap (λ o. from_on o ks) is ∙ from_first ks)
      ∙ begin_step m (list_any (has_number m) ks) refl)

  pub put_ends : (xs : List Ticket) (at : Option ℕ) → at ≡ None → AreTickets (put_so_far at) xs → AreTickets (head_at (rank_by lines) lanes ks) xs
  put_ends xs at none are =
      alike (put_so_far at) (head_at (rank_by lines) lanes ks) xs are
      (λ m. sym (ap (λ o. cond (list_any (has_number m) (from_on o ks)) (head_at (ranked_elsewhere t lines) lanes ks m) (head_at (rank_by lines) lanes ks m)) none))

  module _ (apart : AreApart ks) (at next : Option ℕ) (n : ℕ) (x : Peer) (here : at ≡ Some n) (there : item_at n ks ≡ Some x) (is : next ≡ next_number n ks) where
    on : from_on at ks ≡ record { number = n; item = x } ∷ from_on next ks
    on = one_on n x at next ks apart here there is

    pub put_smaller : length (from_on next ks) < length (from_on at ks)
    put_smaller = let more : length (from_on at ks) ≡ suc (length (from_on next ks)) = ap length on in omega (arith, more)

    stay : StayBut n (put_so_far at) (put_so_far next)
    stay m other =
        ap (λ b. cond (b || list_any (has_number m) (from_on next ks)) (head_at (ranked_elsewhere t lines) lanes ks m) (head_at (rank_by lines) lanes ks m)) (sym (ne_eqb n m (λ same. other (sym same))))
        ∙ ap (λ ls. cond (list_any (has_number m) ls) (head_at (ranked_elsewhere t lines) lanes ks m) (head_at (rank_by lines) lanes ks m)) (sym on)

    was : put_so_far at n ≡ head_in (ranked_elsewhere t lines) lanes n x
    was =
        ap (λ ls. cond (list_any (has_number n) ls) (head_at (ranked_elsewhere t lines) lanes ks n) (head_at (rank_by lines) lanes ks n)) on
        ∙ ap (λ b. cond (b || list_any (has_number n) (from_on next ks)) (head_at (ranked_elsewhere t lines) lanes ks n) (head_at (rank_by lines) lanes ks n)) (eq-eqb n n refl)
        ∙ at_is (ranked_elsewhere t lines) lanes ks n (Some x) there

    will : put_so_far next n ≡ head_in (rank_by lines) lanes n x
    will =
        ap (λ b. cond b (head_at (ranked_elsewhere t lines) lanes ks n) (head_at (rank_by lines) lanes ks n)) (lacks_own n next ks apart is)
        ∙ at_is (rank_by lines) lanes ks n (Some x) there

    missing : missing_head t lines lanes ks n ≡ cond (x.site.transport == t) (head_in (rank_by lines) lanes n x) None
    missing = ap (option_and_then (λ (p : Peer). cond (p.site.transport == t) (head_in (rank_by lines) lanes n p) None)) there

    elsewhere_rank : (b : Bool) → (x.site.transport == t) ≡ b → ranked_elsewhere t lines x ≡ cond b None (rank_by lines x)
    elsewhere_rank b e = ap (λ u. cond u None (rank_by lines x)) e

    step : (xs : List Ticket) (b : Bool) (o : Option Ticket) → (x.site.transport == t) ≡ b → head_in (rank_by lines) lanes n x ≡ o → AreTickets (put_so_far at) xs → AreTickets (put_so_far next) (with_mark (cond b o None) xs)
    step xs true None e head are =
        none_does (put_so_far at) (put_so_far next) xs are n stay (was ∙ no_rank (ranked_elsewhere t lines) lanes n x (elsewhere_rank true e)) (will ∙ head)
    step xs true (Some d) e head are =
        come (put_so_far at) (put_so_far next) xs are n stay d (was ∙ no_rank (ranked_elsewhere t lines) lanes n x (elsewhere_rank true e)) (will ∙ head) (head_tells (rank_by lines) lanes n x d head).item
    step xs false o e head are =
        alike (put_so_far at) (put_so_far next) xs are
        (λ m. elim (cases_eq m n) [
          | inl own ↦
              ap (put_so_far next) own ∙ will ∙ head_same (ranked_elsewhere t lines) (rank_by lines) lanes lanes n x x refl (sym (elsewhere_rank false e)) ∙ sym was
              ∙ ap (put_so_far at) (sym own)
          | inr other ↦ stay m other
        ])

    pub put_goes : (xs : List Ticket) → AreTickets (put_so_far at) xs → AreTickets (put_so_far next) (with_mark (missing_head t lines lanes ks n) xs)
    put_goes xs are =
        subst (λ o. AreTickets (put_so_far next) (with_mark o xs)) (sym missing) (step xs (x.site.transport == t) (head_in (rank_by lines) lanes n x) refl refl are)

    held_step : (m : ℕ) (e : Ticket) (b : Bool) → cond b (head_at (ranked_elsewhere t lines) lanes ks m) (head_at (rank_by lines) lanes ks m) ≡ Some e → is_some (item_at m ks) ≡ true
    held_step m e true h = ap is_some (at_tells (ranked_elsewhere t lines) lanes ks m e h).there
    held_step m e false h = ap is_some (at_tells (rank_by lines) lanes ks m e h).there

    held : (m : ℕ) (e : Ticket) → put_so_far at m ≡ Some e → is_some (item_at m ks) ≡ true
    held m e h = held_step m e (list_any (has_number m) (from_on at ks)) h

    room_step : (xs : List Ticket) (room : ℕ) (b : Bool) (o : Option Ticket) → (x.site.transport == t) ≡ b → AreTickets (put_so_far at) xs → Rises xs → length ks ≤ room → IfSome (cond b o None) (λ e. length xs < room)
    room_step xs room false o e are rising within = tt
    room_step xs room true None e are rising within = tt
    room_step xs room true (Some d) e are rising within =
        let fewer = fewer_tickets (put_so_far at) xs ks n are rising held (was ∙ no_rank (ranked_elsewhere t lines) lanes n x (elsewhere_rank true e)) (ap is_some there) in
        omega (arith, fewer, within)

    -- there is room for a ticket that is missing
    pub put_room : (xs : List Ticket) (room : ℕ) → AreTickets (put_so_far at) xs → Rises xs → length ks ≤ room → IfSome (missing_head t lines lanes ks n) (λ e. length xs < room)
    put_room xs room are rising within =
        subst (λ o. IfSome o (λ e. length xs < room)) (sym missing) (room_step xs room (x.site.transport == t) (head_in (rank_by lines) lanes n x) refl are rising within)

    known_step : (lanes_apart : AreApart lanes) (heads : Lanes) → AreLaned lanes heads → (b : Bool) (o : Option Ticket) → head_in (rank_by lines) lanes n x ≡ o → IfSome (cond b o None) (λ e. e.group < heads.lanes)
    known_step lanes_apart heads are false o head = tt
    known_step lanes_apart heads are true None head = tt
    known_step lanes_apart heads are true (Some d) head = head_below (rank_by lines) lanes heads n x d lanes_apart are head

    -- its lane is one that there is
    pub put_known : (lanes_apart : AreApart lanes) (heads : Lanes) → AreLaned lanes heads → IfSome (missing_head t lines lanes ks n) (λ e. e.group < heads.lanes)
    put_known lanes_apart heads are =
        subst (λ o. IfSome o (λ e. e.group < heads.lanes)) (sym missing) (known_step lanes_apart heads are (x.site.transport == t) (head_in (rank_by lines) lanes n x) refl)
