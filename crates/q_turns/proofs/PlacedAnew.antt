-- The tickets of a transport, as all its jobs are ranked anew.
use Rattle.std.proofs.Common.{◌≡◌, ◌∙◌, ap, Bool, cond, false, List, None, not, Option, refl, Some, sym, true, ℕ}
use Rattle.std.proofs.lemmas.Bool.{both_ways, eq-eqb, eqb-true, false_from_ne_true}
use Rattle.std.specs.Prelude.{◌==◌, ◌&&◌, option_and_then}
use Rattle.q_heads.specs.Lanes.{class_of, is_the, Lanes, stands}
use Rattle.q_jobs.specs.Jobs.{Jobs}
use Rattle.q_keyed.specs.Numbered.{AreApart, item_at, Numbered}
use Rattle.q_sorted.specs.declared.ticket.Ticket.{Ticket}
use Rattle.q_turns.specs.declared.lane.Lane.{Lane}
use Rattle.q_rounds.specs.declared.peer.Peer.{Peer}
use Rattle.q_rounds.specs.Listing.{AreTickets}
use Rattle.q_turns.specs.Heading.{head_at, head_in, rank_by, ranked_elsewhere}
use Rattle.q_turns.specs.Sound.{AreLaned}
use Rattle.q_turns.specs.Suspending.{transport_of}
use Rattle.q_rounds.proofs.Entered.{the_is}
use Rattle.q_turns.proofs.HeadLaws.{at_tells, head_same, head_tells, lane_transport, no_rank}

-- the tickets of other transports stand
abbrev pub AreElsewhere : ℕ → List Jobs → List (Numbered Lane) → List (Numbered Peer) → Lanes → Type 0
AreElsewhere t lines lanes ks heads = (x : Ticket) → (transport_of (class_of x.group heads.classes) ≡ t → ⊥) → stands x heads.items ≡ is_the x (head_at (ranked_elsewhere t lines) lanes ks x.item)

and_false : (b : Bool) → (b && false) ≡ false
and_false true = refl
and_false false = refl

and_true : (b : Bool) → (b && true) ≡ b
and_true true = refl
and_true false = refl

module _ (t : ℕ) (lanes : List (Numbered Lane)) (ks : List (Numbered Peer)) (heads : Lanes) (apart : AreApart lanes) (are : AreLaned lanes heads) where
  no_rank_here : (lines : List Jobs) (p : Peer) → p.site.transport ≡ t → ranked_elsewhere t lines p ≡ None
  no_rank_here lines p at = ap (λ b. cond b None (rank_by lines p)) (eq-eqb p.site.transport t at)

  not_here : (lines : List Jobs) (x : Ticket) → transport_of (class_of x.group heads.classes) ≡ t → is_the x (head_at (ranked_elsewhere t lines) lanes ks x.item) ≡ false
  not_here lines x of =
      false_from_ne_true (is_the x (head_at (ranked_elsewhere t lines) lanes ks x.item)) (λ h.
      let it = at_tells (ranked_elsewhere t lines) lanes ks x.item x (the_is x (head_at (ranked_elsewhere t lines) lanes ks x.item) h) in
      let at = sym (lane_transport (ranked_elsewhere t lines) lanes heads x.item it.peer x apart are it.head) ∙ of in
      let none = no_rank_here lines it.peer at in
      let both : ◌≡◌ {A = Option ℕ} None (Some x.key) = sym none ∙ it.head.ranked in
      absurd cc)

  -- after all tickets of the transport were taken out
  pub placed_elsewhere : (lines : List Jobs) (new : List Ticket) → AreElsewhere t lines lanes ks heads → ((x : Ticket) → stands x new ≡ (stands x heads.items && not (transport_of (class_of x.group heads.classes) == t))) →
      AreTickets (head_at (ranked_elsewhere t lines) lanes ks) new
  placed_elsewhere lines new elsewhere gone x = one (transport_of (class_of x.group heads.classes) == t) refl
    where
      one : (b : Bool) → (transport_of (class_of x.group heads.classes) == t) ≡ b → stands x new ≡ is_the x (head_at (ranked_elsewhere t lines) lanes ks x.item)
      one true e =
          gone x ∙ ap (λ b. stands x heads.items && not b) e ∙ and_false (stands x heads.items)
          ∙ sym (not_here lines x (eqb-true (transport_of (class_of x.group heads.classes)) t e))
      one false e =
          gone x ∙ ap (λ b. stands x heads.items && not b) e ∙ and_true (stands x heads.items)
          ∙ elsewhere x (λ same. both_ways (transport_of (class_of x.group heads.classes) == t) e (eq-eqb (transport_of (class_of x.group heads.classes)) t same))

  module _ (old new : List Jobs) (same : (p : Peer) → (p.site.transport ≡ t → ⊥) → rank_by new p ≡ rank_by old p) (placed : AreTickets (head_at (rank_by old) lanes ks) heads.items) where
    peer_step : (x : Ticket) (p : Peer) (b : Bool) → (p.site.transport == t) ≡ b → (transport_of (class_of x.group heads.classes) ≡ t → ⊥) → is_the x (head_in (rank_by old) lanes x.item p) ≡ is_the x (head_in (ranked_elsewhere t new) lanes x.item p)
    peer_step x p true e other =
        false_from_ne_true (is_the x (head_in (rank_by old) lanes x.item p)) (λ h.
        let head = head_tells (rank_by old) lanes x.item p x (the_is x (head_in (rank_by old) lanes x.item p) h) in
        other (lane_transport (rank_by old) lanes heads x.item p x apart are head ∙ eqb-true p.site.transport t e))
        ∙ sym (ap (is_the x) (no_rank (ranked_elsewhere t new) lanes x.item p (no_rank_here new p (eqb-true p.site.transport t e))))
    peer_step x p false e other =
        ap (is_the x) (sym (head_same (rank_by old) (ranked_elsewhere t new) lanes lanes x.item p p refl
        (ap (λ b. cond b None (rank_by new p)) e ∙ same p (λ at. both_ways (p.site.transport == t) e (eq-eqb p.site.transport t at)))))

    at_step : (x : Ticket) (o : Option Peer) → (transport_of (class_of x.group heads.classes) ≡ t → ⊥) → is_the x (option_and_then (head_in (rank_by old) lanes x.item) o) ≡ is_the x (option_and_then (head_in (ranked_elsewhere t new) lanes x.item) o)
    at_step x None other = refl
    at_step x (Some p) other = peer_step x p (p.site.transport == t) refl other

    -- those of other transports stay
    pub elsewhere_stay : AreElsewhere t new lanes ks heads
    elsewhere_stay x other = placed x ∙ at_step x (item_at x.item ks) other
