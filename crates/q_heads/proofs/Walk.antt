-- What a walk along the heads of a class comes to, from the first one and on behind each: for
-- callers' proofs.
use Rattle.std.proofs.Common.{◌≡◌, ◌∙◌, [], ap, arith, Bool, false, inl, inr, List, None, Option, refl, Some, sym, true, ℕ}
use Rattle.std.proofs.lemmas.Bool.{and_from, and_parts, both_ways, cases_Bool, eq-eqb, eqb-true, false_from_ne_true}
use Rattle.std.proofs.lemmas.Bool.Decides.{nat_tests}
use Rattle.std.specs.Prelude.{◌==◌, filter, find}
use Rattle.q_sorted.specs.declared.ticket.Ticket.{Ticket}
use Rattle.q_sorted.specs.Tickets.{goes_before, is_of, Rises}
use Rattle.q_heads.specs.Lanes.{class_of, foremost, goes_ahead, heads_behind, heads_of, Lanes, stands}
use Rattle.q_heads.specs.Walking.{FailAhead, HasHead, IsHeadOf}
use Rattle.q_heads.proofs.Foremost.{foremost_is, foremost_none, foremost_stands, head_from, head_stands, none_ahead_of, none_foremost, same_head}
use Rattle.q_heads.proofs.Standing.{first_found, found, none_found, stands_filtered}

no_such : (e : Ticket) (xs : List Ticket) → xs ≡ [] → stands e xs ≡ true → ⊥
no_such e xs none h = both_ways (stands e xs) (ap (stands e) none) h

module _ (class : ℕ) (s : Lanes) where
  -- The first one.
  pub first_is_head : (e : Ticket) → foremost (heads_of class s) ≡ Some e → IsHeadOf class s e
  first_is_head e h = head_from class s e (foremost_stands (heads_of class s) e h)

  pub none_ahead : (e x : Ticket) → foremost (heads_of class s) ≡ Some e → IsHeadOf class s x → goes_ahead x e ≡ false
  none_ahead e x h is = none_ahead_of (heads_of class s) e x h (head_stands class s x is)

  pub no_head : (x : Ticket) → foremost (heads_of class s) ≡ None → IsHeadOf class s x → ⊥
  no_head x h is = no_such x (heads_of class s) (none_foremost (heads_of class s) h) (head_stands class s x is)

  -- The next one behind a ticket in a lane of the class.
  module _ (h : Ticket) (of : class_of h.group s.classes ≡ class) where
    behind_of : heads_behind h s ≡ filter (goes_ahead h) (heads_of class s)
    behind_of = ap (λ (n : ℕ). filter (goes_ahead h) (heads_of n s)) of

    stands_behind : (x : Ticket) → IsHeadOf class s x → goes_ahead h x ≡ true → stands x (heads_behind h s) ≡ true
    stands_behind x is ahead =
        ap (stands x) behind_of ∙ stands_filtered (goes_ahead h) x (heads_of class s) ∙ and_from (goes_ahead h x) (stands x (heads_of class s)) ahead (head_stands class s x is)

    pub next_is_head : (e : Ticket) → foremost (heads_behind h s) ≡ Some e → IsHeadOf class s e × (goes_ahead h e ≡ true)
    next_is_head e next =
        let there = sym (stands_filtered (goes_ahead h) e (heads_of class s)) ∙ ap (stands e) (sym behind_of) ∙ foremost_stands (heads_behind h s) e next in
        let both = and_parts (goes_ahead h e) (stands e (heads_of class s)) there in
        (head_from class s e both.1, both.0)

    pub none_between : (e x : Ticket) → foremost (heads_behind h s) ≡ Some e → IsHeadOf class s x → goes_ahead h x ≡ true → goes_ahead x e ≡ false
    none_between e x next is ahead = none_ahead_of (heads_behind h s) e x next (stands_behind x is ahead)

    pub none_behind : (x : Ticket) → foremost (heads_behind h s) ≡ None → IsHeadOf class s x → goes_ahead h x ≡ false
    none_behind x none is = false_from_ne_true (goes_ahead h x) (λ ahead. no_such x (heads_behind h s) (none_foremost (heads_behind h s) none) (stands_behind x is ahead))

  -- A walk with a test.
  module _ (test : Ticket → Bool) where
    pub fail_ahead_of_first : (e : Ticket) → foremost (heads_of class s) ≡ Some e → FailAhead class s test e
    fail_ahead_of_first e first = record { fails = λ x is ahead. absurd (both_ways (goes_ahead x e) (none_ahead e x first is) ahead) }

    module _ (h : Ticket) (is : IsHeadOf class s h) (fail : FailAhead class s test h) where
      up_to : (x : Ticket) → IsHeadOf class s x → goes_ahead h x ≡ false → test h ≡ false → test x ≡ false
      up_to x own not_behind fails =
          elim (cases_Bool (goes_ahead x h)) [
            | inl ahead ↦ fail.fails x own ahead
            | inr not_ahead ↦ ap test (same_head class s x h own is not_ahead not_behind) ∙ fails
          ]

      pub fail_ahead_of_next : (e : Ticket) → test h ≡ false → foremost (heads_behind h s) ≡ Some e → FailAhead class s test e
      fail_ahead_of_next e fails next = record {
        fails = λ x own ahead. up_to x own (false_from_ne_true (goes_ahead h x) (λ behind. both_ways (goes_ahead x e) (none_between h is.of_class e x next own behind) ahead)) fails;
      }

      -- where the walk ends, no head passes
      pub none_passes : (x : Ticket) → test h ≡ false → foremost (heads_behind h s) ≡ None → IsHeadOf class s x → test x ≡ false
      none_passes x fails none own = up_to x own (none_behind h is.of_class x none own) fails

      -- the one that passes is the foremost that does
      pub passes_foremost : test h ≡ true → foremost (filter test (heads_of class s)) ≡ Some h
      passes_foremost passes =
          foremost_is class s (filter test (heads_of class s)) h (λ x k. head_from class s x (passing x k).1)
          (stands_filtered test h (heads_of class s) ∙ and_from (test h) (stands h (heads_of class s)) passes (head_stands class s h is))
          (λ x k. false_from_ne_true (goes_ahead x h) (λ ahead. both_ways (test x) (fail.fails x (head_from class s x (passing x k).1) ahead) (passing x k).0))
        where
          passing : (x : Ticket) → stands x (filter test (heads_of class s)) ≡ true → (test x ≡ true) × (stands x (heads_of class s) ≡ true)
          passing x k = and_parts (test x) (stands x (heads_of class s)) (sym (stands_filtered test x (heads_of class s)) ∙ k)

    pub none_foremost_passes : ((x : Ticket) → IsHeadOf class s x → test x ≡ false) → foremost (filter test (heads_of class s)) ≡ None
    none_foremost_passes fails = foremost_none (filter test (heads_of class s)) (λ x k.
        let both = and_parts (test x) (stands x (heads_of class s)) (sym (stands_filtered test x (heads_of class s)) ∙ k) in
        both_ways (test x) (fails x (head_from class s x both.1)) both.0)

-- The head of a ticket's lane.
pub lane_head : (class lane : ℕ) (s : Lanes) (e : Ticket) → class_of lane s.classes ≡ class → find (is_of lane) s.items ≡ Some e → IsHeadOf class s e
lane_head class lane s e of first =
    let same = eqb-true e.group lane (found (is_of lane) e s.items first).1 in
    record { of_class = ap (λ (n : ℕ). class_of n s.classes) same ∙ of; first = ap (λ (n : ℕ). find (is_of n) s.items) same ∙ first }

has_step : (class : ℕ) (s : Lanes) (e : Ticket) (o : Option Ticket) → find (is_of e.group) s.items ≡ o → class_of e.group s.classes ≡ class → Rises s.items → stands e s.items ≡ true → HasHead class s e
has_step class s e None first of rising there = absurd (both_ways (e.group == e.group) (none_found (is_of e.group) e s.items first there) (eq-eqb e.group e.group refl))
has_step class s e (Some h) first of rising there = record {
  head = h;
  is = lane_head class e.group s h of first;
  lane = eqb-true h.group e.group (found (is_of e.group) h s.items first).1;
  first = first_found (is_of e.group) h e s.items rising first there (eq-eqb e.group e.group refl);
}

-- each ticket's lane has one
pub has_head : (class : ℕ) (s : Lanes) (e : Ticket) → class_of e.group s.classes ≡ class → Rises s.items → stands e s.items ≡ true → HasHead class s e
has_head class s e of rising there = has_step class s e (find (is_of e.group) s.items) refl of rising there

not_ahead_within : (e h : Ticket) → h.group ≡ e.group → goes_before e h ≡ false → goes_ahead e h ≡ false
not_ahead_within e h same k = grind (arith, nat_tests)

-- and the ticket doesn't go ahead of it
pub not_ahead_of_head : (class : ℕ) (s : Lanes) (e : Ticket) (has : HasHead class s e) → goes_ahead e has.head ≡ false
not_ahead_of_head class s e has = not_ahead_within e has.head has.lane has.first
