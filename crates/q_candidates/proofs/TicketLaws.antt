-- The ticket of a candidate in its lane.
use Rattle.std.proofs.Common.{◌≡◌, ◌∙◌, ap, false, List, None, Option, option_map, refl, Some, sym, true, ℕ}
use Rattle.std.specs.Option.{is_some}
use Rattle.std.specs.Prelude.{option_and_then}
use Rattle.q_keyed.specs.Numbered.{item_at, Numbered}
use Rattle.q_sorted.specs.declared.ticket.Ticket.{Ticket}
use Rattle.q_candidates.specs.declared.candidate.Candidate.{Candidate}
use Rattle.q_candidates.specs.declared.lane.Lane.{Lane}
use Rattle.q_candidates.specs.Filing.{lane_of, ticket_at, ticket_in, ticket_with}

pub some_from : {A : Type 0} (o : Option A) → is_some o ≡ true → (x : A) × (o ≡ Some x)
some_from None h = absurd cc
some_from (Some x) h = (x, refl)

pub none_from : {A : Type 0} (o : Option A) → is_some o ≡ false → o ≡ None
none_from None h = refl
none_from (Some x) h = absurd cc

module _ (key : Candidate → ℕ) where
  -- what a ticket tells of its candidate
  pub record TicketOf (lanes : List (Numbered Lane)) (ks : List (Numbered Candidate)) (n : ℕ) (e : Ticket) : Type 0 where
    pub candidate : Candidate
    pub there : item_at n ks ≡ Some candidate
    pub lane : lane_of candidate.site candidate.need lanes ≡ Some e.group
    pub keyed : e.key ≡ key candidate
    pub item : e.item ≡ n

  lane_step : (lanes : List (Numbered Lane)) (ks : List (Numbered Candidate)) (n : ℕ) (e : Ticket) (c : Candidate) (o : Option ℕ) → item_at n ks ≡ Some c → lane_of c.site c.need lanes ≡ o → option_map (λ lane. ticket_with key lane n c) o ≡ Some e → TicketOf lanes ks n e
  lane_step lanes ks n e c None there is h = absurd cc
  lane_step lanes ks n e c (Some lane) there is h =
      let same : ticket_with key lane n c ≡ e = cc in
      record {
        candidate = c;
        there = there;
        lane = is ∙ ap (λ (x : Ticket). Some x.group) same;
        keyed = ap (λ (x : Ticket). x.key) (sym same);
        item = ap (λ (x : Ticket). x.item) (sym same);
      }

  at_step : (lanes : List (Numbered Lane)) (ks : List (Numbered Candidate)) (n : ℕ) (e : Ticket) (o : Option Candidate) → item_at n ks ≡ o → option_and_then (ticket_in key lanes n) o ≡ Some e → TicketOf lanes ks n e
  at_step lanes ks n e None there h = absurd cc
  at_step lanes ks n e (Some c) there h = lane_step lanes ks n e c (lane_of c.site c.need lanes) there refl h

  pub ticket_tells : (lanes : List (Numbered Lane)) (ks : List (Numbered Candidate)) (n : ℕ) (e : Ticket) → ticket_at key lanes ks n ≡ Some e → TicketOf lanes ks n e
  ticket_tells lanes ks n e h = at_step lanes ks n e (item_at n ks) refl h

  pub ticket_is : (lanes : List (Numbered Lane)) (ks : List (Numbered Candidate)) (n lane : ℕ) (c : Candidate) → item_at n ks ≡ Some c → lane_of c.site c.need lanes ≡ Some lane → ticket_at key lanes ks n ≡ Some (ticket_with key lane n c)
  ticket_is lanes ks n lane c there is = ap (option_and_then (ticket_in key lanes n)) there ∙ ap (option_map (λ lane. ticket_with key lane n c)) is

  pub ticket_none : (lanes : List (Numbered Lane)) (ks : List (Numbered Candidate)) (n : ℕ) → item_at n ks ≡ None → ticket_at key lanes ks n ≡ None
  ticket_none lanes ks n none = ap (option_and_then (ticket_in key lanes n)) none

  same_step : (lanes others : List (Numbered Lane)) (n : ℕ) (o : Option Candidate) → ((c : Candidate) → o ≡ Some c → lane_of c.site c.need others ≡ lane_of c.site c.need lanes) → option_and_then (ticket_in key others n) o ≡ option_and_then (ticket_in key lanes n) o
  same_step lanes others n None h = refl
  same_step lanes others n (Some c) h = ap (option_map (λ lane. ticket_with key lane n c)) (h c refl)

  -- it stays where the lane does
  pub ticket_same : (lanes others : List (Numbered Lane)) (ks : List (Numbered Candidate)) (n : ℕ) → ((c : Candidate) → item_at n ks ≡ Some c → lane_of c.site c.need others ≡ lane_of c.site c.need lanes) → ticket_at key others ks n ≡ ticket_at key lanes ks n
  ticket_same lanes others ks n h = same_step lanes others n (item_at n ks) h

  -- and where the candidate does
  pub ticket_stays : (lanes : List (Numbered Lane)) (ks new : List (Numbered Candidate)) (n : ℕ) → item_at n new ≡ item_at n ks → ticket_at key lanes new n ≡ ticket_at key lanes ks n
  ticket_stays lanes ks new n same = ap (option_and_then (ticket_in key lanes n)) same
