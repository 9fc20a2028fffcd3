-- The walk that moves the tickets of one job.
use Rattle.std.proofs.Common.{◌≡◌, ◌≢◌, ◌∙◌, ap, Bool, cond, false, inl, inr, List, None, Option, refl, Some, subst, sym, true, ℕ}
use Rattle.std.proofs.lemmas.Bool.{and_parts, cases_eq, eqb-true}
use Rattle.std.specs.Option.{is_some}
use Rattle.std.specs.Prelude.{◌==◌, find, IfSome, not, option_and_then}
use Rattle.q_heads.specs.Lanes.{stands}
use Rattle.q_jobs.specs.Jobs.{Jobs}
use Rattle.q_keyed.specs.Numbered.{item_at, Numbered}
use Rattle.q_model.proofs.IdLaws.{id_eq-true}
use Rattle.q_model.specs.declared.id.Id.{Id}
use Rattle.q_model.specs.Ids.{id_eq}
use Rattle.q_sorted.specs.declared.ticket.Ticket.{Ticket}
use Rattle.q_sorted.specs.Tickets.{goes_before, Rises}
use Rattle.q_turns.specs.declared.lane.Lane.{Lane}
use Rattle.q_rounds.specs.declared.peer.Peer.{Peer}
use Rattle.q_rounds.specs.Listing.{AreTickets}
use Rattle.q_turns.specs.Heading.{head_at, head_in, head_with, is_of_message, lane_of, least_of, message_at, rank_at, rank_by, ranked_before}
use Rattle.q_turns.specs.Moving.{job_head, moved_head, with_key}
use Rattle.q_rounds.specs.Rounds.{is_peer_for}
use Rattle.q_rounds.proofs.Entered.{alike, cond_same, entered, none_does, StayBut}
use Rattle.q_turns.proofs.HeadLaws.{at_is, head_made, head_same, head_tells, no_lane}
use Rattle.q_turns.proofs.LaneLaws.{some_from, unless_none}
use Rattle.q_turns.proofs.MovingLaws.{move}
use Rattle.q_turns.proofs.MessageWalk.{begin_step, is_left, left_same, own_left, own_past}

-- which tickets stand, where those of the message from this one on are to be moved
abbrev pub moved_to : Id → ℕ → ℕ → List Jobs → List (Numbered Lane) → List (Numbered Peer) → Option Ticket → ℕ → Option Ticket
moved_to id t from lines lanes ks at m =
    cond (is_left (least_of id) at m) (head_at (ranked_before id t from lines) lanes ks m) (head_at (rank_by lines) lanes ks m)

module _ (id : Id) (t from : ℕ) (lines : List Jobs) (lanes : List (Numbered Lane)) (ks : List (Numbered Peer)) (items : List Ticket) (listed : AreTickets (message_at ks) items) (rising : Rises items) where
  abbrev least : Ticket
  least = least_of id

  abbrev before : ℕ → Option Ticket
  before m = head_at (ranked_before id t from lines) lanes ks m

  abbrev now : ℕ → Option Ticket
  now m = head_at (rank_by lines) lanes ks m

  abbrev moved_so_far : Option Ticket → ℕ → Option Ticket
  moved_so_far at m = moved_to id t from lines lanes ks at m

  is_own : (q : Peer) → is_peer_for id t q ≡ true → q.id ≡ id
  is_own q h = id_eq-true q.id id (and_parts (id_eq q.id id) (q.site.transport == t) h).0

  -- a peer of another job keeps its ticket
  other_same : (m : ℕ) (q : Peer) → is_peer_for id t q ≡ false → head_in (ranked_before id t from lines) lanes m q ≡ head_in (rank_by lines) lanes m q
  other_same m q h = head_same (rank_by lines) (ranked_before id t from lines) lanes lanes m q q refl (ap (λ b. cond b (Some from) (rank_by lines q)) h)

  begins_other : (at : Option Ticket) (m : ℕ) (q : Peer) → is_peer_for id t q ≡ false →
      cond (is_left least at m) (head_in (ranked_before id t from lines) lanes m q) (head_in (rank_by lines) lanes m q) ≡ head_in (ranked_before id t from lines) lanes m q
  begins_other at m q h =
      ap (cond (is_left least at m) (head_in (ranked_before id t from lines) lanes m q)) (sym (other_same m q h))
      ∙ cond_same (is_left least at m) (head_in (ranked_before id t from lines) lanes m q)

  begins : (at : Option Ticket) (m : ℕ) (q : Peer) (b : Bool) → at ≡ find (λ x. not (goes_before x least)) items → item_at m ks ≡ Some q → is_peer_for id t q ≡ b →
      cond (is_left least at m) (head_in (ranked_before id t from lines) lanes m q) (head_in (rank_by lines) lanes m q) ≡ head_in (ranked_before id t from lines) lanes m q
  begins at m q true is there h = ap (λ b. cond b (head_in (ranked_before id t from lines) lanes m q) (head_in (rank_by lines) lanes m q)) (begin_step id ks items listed rising m q at there (is_own q h) (sym is))
  begins at m q false is there h = begins_other at m q h

  begin_at : (at : Option Ticket) (m : ℕ) (o : Option Peer) → at ≡ find (λ x. not (goes_before x least)) items → item_at m ks ≡ o →
      cond (is_left least at m) (option_and_then (head_in (ranked_before id t from lines) lanes m) o) (option_and_then (head_in (rank_by lines) lanes m) o) ≡ option_and_then (head_in (ranked_before id t from lines) lanes m) o
  begin_at at m None is there = cond_same (is_left least at m) None
  begin_at at m (Some q) is there = begins at m q (is_peer_for id t q) is there refl

  pub moves_begin : (xs : List Ticket) (at : Option Ticket) → at ≡ find (λ x. not (goes_before x least)) items → AreTickets (head_at (ranked_before id t from lines) lanes ks) xs → AreTickets (moved_so_far at) xs
  moves_begin xs at is are =
      alike before (moved_so_far at) xs are
      (λ m. begin_at at m (item_at m ks) is refl)

  -- none is to be moved where the walk ends
  pub moves_end : (xs : List Ticket) (at : Option Ticket) → ((m : ℕ) → is_left least at m ≡ false) → AreTickets (moved_so_far at) xs → AreTickets (head_at (rank_by lines) lanes ks) xs
  moves_end xs at none are = alike (moved_so_far at) now xs are (λ m. sym (ap (λ b. cond b (before m) (now m)) (none m)))

  -- One step.
  module _ (e : Ticket) (at next : Option Ticket) (here : at ≡ Some e) (stood : stands e items ≡ true) (of : is_of_message least e ≡ true) (is : next ≡ find (goes_before e) items) where
    stay_step : (m : ℕ) (q : Peer) (b : Bool) → item_at m ks ≡ Some q → is_peer_for id t q ≡ b → m ≢ e.item →
        cond (is_left least next m) (head_in (ranked_before id t from lines) lanes m q) (head_in (rank_by lines) lanes m q) ≡ cond (is_left least at m) (head_in (ranked_before id t from lines) lanes m q) (head_in (rank_by lines) lanes m q)
    stay_step m q true there h other = ap (λ b. cond b (head_in (ranked_before id t from lines) lanes m q) (head_in (rank_by lines) lanes m q)) (left_same id ks items listed rising e at next here stood of is m q there (is_own q h) other)
    stay_step m q false there h other = begins_other next m q h ∙ sym (begins_other at m q h)

    stay_at : (m : ℕ) (o : Option Peer) → item_at m ks ≡ o → m ≢ e.item →
        cond (is_left least next m) (option_and_then (head_in (ranked_before id t from lines) lanes m) o) (option_and_then (head_in (rank_by lines) lanes m) o) ≡ cond (is_left least at m) (option_and_then (head_in (ranked_before id t from lines) lanes m) o) (option_and_then (head_in (rank_by lines) lanes m) o)
    stay_at m None there other = cond_same (is_left least next m) None ∙ sym (cond_same (is_left least at m) None)
    stay_at m (Some q) there other = stay_step m q (is_peer_for id t q) there refl other

    stay : StayBut e.item (moved_so_far at) (moved_so_far next)
    stay m other = stay_at m (item_at m ks) refl other

    was : moved_so_far at e.item ≡ before e.item
    was = ap (λ b. cond b (before e.item) (now e.item)) (own_left id ks items listed rising e at next here stood of is)

    will : moved_so_far next e.item ≡ now e.item
    will = ap (λ b. cond b (before e.item) (now e.item)) (own_past id ks items listed rising e at next here stood of is)

    module _ (ranked : is_some (rank_at lines t id) ≡ true) (p : Peer) (there : item_at e.item ks ≡ Some p) where
      head_is : job_head id t lines lanes ks e.item ≡ cond (is_peer_for id t p) (head_in (rank_by lines) lanes e.item p) None
      head_is = ap (option_and_then (λ (q : Peer). cond (is_peer_for id t q) (head_in (rank_by lines) lanes e.item q) None)) there

      own_rank : is_peer_for id t p ≡ true → rank_by lines p ≡ rank_at lines t id
      own_rank h =
          let both = and_parts (id_eq p.id id) (p.site.transport == t) h in
          ap (λ n. rank_at lines n p.id) (eqb-true p.site.transport t both.1) ∙ ap (rank_at lines t) (id_eq-true p.id id both.0)

      old_some : (d : Ticket) → is_peer_for id t p ≡ true → head_in (rank_by lines) lanes e.item p ≡ Some d → before e.item ≡ Some (with_key from d)
      old_some d h head =
          let tells = head_tells (rank_by lines) lanes e.item p d head in
          at_is (ranked_before id t from lines) lanes ks e.item (Some p) there
          ∙ head_made (ranked_before id t from lines) lanes e.item d.group from p tells.lane (ap (λ b. cond b (Some from) (rank_by lines p)) h)
          ∙ ap (λ n. Some (head_with d.group n from)) (sym tells.item)

      old_none : is_peer_for id t p ≡ true → head_in (rank_by lines) lanes e.item p ≡ None → (o : Option ℕ) → lane_of p.site lanes ≡ o → before e.item ≡ None
      old_none h head None l = at_is (ranked_before id t from lines) lanes ks e.item (Some p) there ∙ no_lane (ranked_before id t from lines) lanes e.item p l
      old_none h head (Some lane) l =
          let rank = some_from (rank_at lines t id) ranked in
          absurd (unless_none (head_in (rank_by lines) lanes e.item p) (head_with lane e.item rank.0) head (head_made (rank_by lines) lanes e.item lane rank.0 p l (own_rank h ∙ rank.1)))

      step : (xs : List Ticket) (b : Bool) (o : Option Ticket) → is_peer_for id t p ≡ b → head_in (rank_by lines) lanes e.item p ≡ o → AreTickets (moved_so_far at) xs → AreTickets (moved_so_far next) (moved_head from (cond b o None) xs)
      step xs true None h head are =
          none_does (moved_so_far at) (moved_so_far next) xs are e.item stay (was ∙ old_none h head (lane_of p.site lanes) refl) (will ∙ at_is (rank_by lines) lanes ks e.item (Some p) there ∙ head)
      step xs true (Some d) h head are =
          let named = (head_tells (rank_by lines) lanes e.item p d head).item in
          move (moved_so_far at) (moved_so_far next) xs are e.item stay (with_key from d) d (was ∙ old_some d h head) (will ∙ at_is (rank_by lines) lanes ks e.item (Some p) there ∙ head) named named
      step xs false o h head are =
          alike (moved_so_far at) (moved_so_far next) xs are
          (λ m. elim (cases_eq m e.item) [
            | inl same ↦ ap (moved_so_far next) same ∙ will ∙ now_same ∙ sym was ∙ ap (moved_so_far at) (sym same)
            | inr other ↦ stay m other
          ])
        where
          now_same : now e.item ≡ before e.item
          now_same = at_is (rank_by lines) lanes ks e.item (Some p) there ∙ sym (other_same e.item p h) ∙ sym (at_is (ranked_before id t from lines) lanes ks e.item (Some p) there)

      pub moves_go : (xs : List Ticket) → AreTickets (moved_so_far at) xs → AreTickets (moved_so_far next) (moved_head from (job_head id t lines lanes ks e.item) xs)
      moves_go xs are = subst (λ o. AreTickets (moved_so_far next) (moved_head from o xs)) (sym head_is) (step xs (is_peer_for id t p) (head_in (rank_by lines) lanes e.item p) refl refl are)

      stood_step : (xs : List Ticket) (b : Bool) (o : Option Ticket) → is_peer_for id t p ≡ b → head_in (rank_by lines) lanes e.item p ≡ o → AreTickets (moved_so_far at) xs → IfSome (cond b o None) (λ d. stands (with_key from d) xs ≡ true)
      stood_step xs false o h head are = tt
      stood_step xs true None h head are = tt
      stood_step xs true (Some d) h head are =
          entered (moved_so_far at) xs e.item (with_key from d) are (was ∙ old_some d h head) (head_tells (rank_by lines) lanes e.item p d head).item

      pub moves_stand : (xs : List Ticket) → AreTickets (moved_so_far at) xs → IfSome (job_head id t lines lanes ks e.item) (λ d. stands (with_key from d) xs ≡ true)
      moves_stand xs are = subst (λ o. IfSome o (λ d. stands (with_key from d) xs ≡ true)) (sym head_is) (stood_step xs (is_peer_for id t p) (head_in (rank_by lines) lanes e.item p) refl refl are)

-- the ticket that is to be moved
pub job_head_is : (id : Id) (t : ℕ) (lines : List Jobs) (lanes : List (Numbered Lane)) (ks : List (Numbered Peer)) (n : ℕ) (p : Peer) (d : Ticket) → item_at n ks ≡ Some p → is_peer_for id t p ≡ true → head_in (rank_by lines) lanes n p ≡ Some d → job_head id t lines lanes ks n ≡ Some d
job_head_is id t lines lanes ks n p d there own head =
    ap (option_and_then (λ (q : Peer). cond (is_peer_for id t q) (head_in (rank_by lines) lanes n q) None)) there ∙ ap (λ b. cond b (head_in (rank_by lines) lanes n p) None) own ∙ head

pub stood_with : (from : ℕ) (items : List Ticket) (o : Option Ticket) (d : Ticket) → o ≡ Some d → IfSome o (λ e. stands (with_key from e) items ≡ true) → stands (with_key from d) items ≡ true
stood_with from items o d is h = subst (λ o. IfSome o (λ e. stands (with_key from e) items ≡ true)) is h
