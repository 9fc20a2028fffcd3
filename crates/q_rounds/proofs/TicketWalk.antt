-- A walk along the tickets of a round.
use Rattle.std.proofs.Common.{◌≡◌, ◌∙◌, ◌+◌, ◌<◌, ◌≤◌, ap, arith, Bool, false, inl, inr, length, List, None, Option, refl, Some, subst, sym, true, ℕ, ◌⊎◌}
use Rattle.std.proofs.lemmas.Bool.{and_left, and_parts, both_ways, cases_Bool, eq-eqb, eqb-true, false_from_ne_true, lt-ltb, or_left}
use Rattle.std.proofs.lemmas.Bool.Decides.{nat_tests}
use Rattle.std.specs.Option.{option_map_or}
use Rattle.std.specs.Prelude.{◌==◌, ◌&&◌, ◌||◌, filter, find, nat_lt}
use Rattle.q_heads.proofs.Standing.{first_found, found, none_found, not_itself, same_is}
use Rattle.q_heads.specs.Lanes.{is_same, stands}
use Rattle.q_sorted.specs.declared.ticket.Ticket.{Ticket}
use Rattle.q_sorted.specs.Tickets.{goes_before, is_of, Rises}
use Rattle.q_rounds.specs.Walking.{IsLeast}
use Rattle.q_rounds.proofs.Fewer.{fewer_pass}

abbrev pub tickets_left : List Ticket → Option Ticket → ℕ
tickets_left items at = option_map_or (λ e. length (filter (goes_before e) items) + 1) at 0

along : (a b c : Ticket) → goes_before a b ≡ true → goes_before b c ≡ true → goes_before a c ≡ true
along a b c h k = grind (arith, nat_tests)

left_step : (items : List Ticket) (e : Ticket) (o : Option Ticket) → find (goes_before e) items ≡ o → tickets_left items o < length (filter (goes_before e) items) + 1
left_step items e None h = omega arith
left_step items e (Some d) h =
    let it = found (goes_before e) d items h in
    let fewer = fewer_pass (goes_before e) (goes_before d) d items (λ x after. along e d x it.1 after) it.0 it.1 (not_itself d) in
    omega (arith, fewer)

pub walks_smaller : (items : List Ticket) (e : Ticket) (at next : Option Ticket) → at ≡ Some e → next ≡ find (goes_before e) items → tickets_left items next < tickets_left items at
walks_smaller items e at next here is =
    let from = ap (tickets_left items) here in
    let step = left_step items e next (sym is) in
    omega (arith, from, step)

-- all that pass stand from this ticket on
pub record IsFrom (test : Ticket → Bool) (round : ℕ) (items : List Ticket) (a : Ticket) : Type 0 where
  pub there : stands a items ≡ true
  pub past : round ≤ a.group
  pub first : (x : Ticket) → stands x items ≡ true → test x ≡ true → goes_before x a ≡ false

abbrev pub StandFrom : (Ticket → Bool) → ℕ → List Ticket → Option Ticket → Type 0
StandFrom test round items None = (x : Ticket) → stands x items ≡ true → test x ≡ false
StandFrom test round items (Some a) = IsFrom test round items a

module _ (rest : Ticket → Bool) (round : ℕ) (items : List Ticket) (rising : Rises items) where
  abbrev test : Ticket → Bool
  test e = is_of round e && rest e

  of_round : (x : Ticket) → test x ≡ true → is_of round x ≡ true
  of_round x h = (and_parts (is_of round x) (rest x) h).0

  begin_step : (o : Option Ticket) → find (is_of round) items ≡ o → StandFrom test round items o
  begin_step None is = λ x there. and_left (is_of round x) (rest x) (none_found (is_of round) x items is there)
  begin_step (Some a) is =
      let it = found (is_of round) a items is in
      let group : a.group ≡ round = eqb-true a.group round it.1 in
      record {
        there = it.0;
        past = omega (arith, group);
        first = λ x there passes. first_found (is_of round) a x items rising is there (of_round x passes);
      }

  pub begins : (at : Option Ticket) → at ≡ find (is_of round) items → StandFrom test round items at
  begins at is = begin_step at (sym is)

  module _ (at : Option Ticket) (a : Ticket) (here : at ≡ Some a) (from : StandFrom test round items at) where
    begun : IsFrom test round items a
    begun = subst (StandFrom test round items) here from

    later_group : (x y : Ticket) → x.group < y.group → goes_before x y ≡ true
    later_group x y h = or_left (nat_lt x.group y.group) ((x.group == y.group) && (nat_lt x.key y.key || (x.key == y.key) && nat_lt x.item y.item)) (lt-ltb x.group y.group h)

    -- the round is at its end
    pub ends : (a.group ≡ round → ⊥) → (x : Ticket) → stands x items ≡ true → test x ≡ false
    ends other x there =
        false_from_ne_true (test x) (λ passes.
        let own : x.group ≡ round = eqb-true x.group round (of_round x passes) in
        both_ways (goes_before x a) (begun.first x there passes) (later_group x a (omega (arith, own, other, begun.past))))

    -- this one passes
    pub finds : a.group ≡ round → rest a ≡ true → IsLeast test items a
    finds own passes = record {
      there = begun.there;
      passes = ap (λ t. t && rest a) (ap (λ g. g == round) own ∙ eq-eqb round round refl) ∙ passes;
      first = begun.first;
    }

    not_before : (x y : Ticket) → goes_before x y ≡ false → goes_before y x ≡ false → is_same x y ≡ true
    not_before x y h k = grind (arith, nat_tests)

    goes_on : rest a ≡ false → (x : Ticket) → stands x items ≡ true → test x ≡ true → (goes_before a x ≡ true) ⊎ (goes_before a x ≡ false) → goes_before a x ≡ true
    goes_on fails x there passes (inl h) = h
    goes_on fails x there passes (inr h) =
        let same : x ≡ a = same_is x a (not_before x a (begun.first x there passes) h) in
        absurd (both_ways (rest a) fails (ap rest (sym same) ∙ (and_parts (is_of round x) (rest x) passes).1))

    group_on : (x y : Ticket) → goes_before x y ≡ true → x.group ≤ y.group
    group_on x y h = grind (arith, nat_tests)

    next_step : rest a ≡ false → (o : Option Ticket) → find (goes_before a) items ≡ o → StandFrom test round items o
    next_step fails None is = λ x there.
        false_from_ne_true (test x) (λ passes.
        both_ways (goes_before a x) (none_found (goes_before a) x items is there) (goes_on fails x there passes (cases_Bool (goes_before a x))))
    next_step fails (Some b) is =
        let it = found (goes_before a) b items is in
        record {
          there = it.0;
          past = omega (arith, begun.past, group_on a b it.1);
          first = λ x there passes. first_found (goes_before a) b x items rising is there (goes_on fails x there passes (cases_Bool (goes_before a x)));
        }

    pub walks : rest a ≡ false → (next : Option Ticket) → next ≡ find (goes_before a) items → StandFrom test round items next
    walks fails next is = next_step fails next (sym is)
