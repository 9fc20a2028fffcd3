-- All tickets of a class are taken out.
use Rattle.std.proofs.Common.{◌≡◌, ◌∙◌, ◌&&◌, ◌<◌, ◌+◌, ◌*◌, ◌/◌, ap, arith, Bool, false, length, List, None, not, refl, Some, sym, true, ℕ}
use Rattle.std.proofs.lemmas.Bool.{both_ways, eq-eqb, eqb-true, false_from_ne_true}
use Rattle.std.proofs.lemmas.Bool.Decides.{nat_tests}
use Rattle.std.specs.Prelude.{◌==◌, filter}
use Rattle.q_heads.proofs.Standing.{fewer_left, found, same_is, stands_left}
use Rattle.q_heads.proofs.Walk.{first_is_head, has_head, no_head}
use Rattle.q_heads.specs.Lanes.{class_of, foremost, heads_of, is_same, Lanes, stands}
use Rattle.q_sorted.specs.declared.ticket.Ticket.{Ticket}
use Rattle.q_sorted.specs.Tickets.{is_another, is_of, Rises}
use Rattle.q_turns.specs.Suspending.{class_in, transport_of}

abbrev pub with_items : Lanes → List Ticket → Lanes
with_items s xs = record s { items = xs }

-- only tickets change
pub rest_goes : (first cur next : Lanes) (xs : List Ticket) → next ≡ with_items cur xs → cur ≡ with_items first cur.items → next ≡ with_items first next.items
rest_goes first cur next xs is rest =
    is ∙ ap (λ s. with_items s xs) rest ∙ ap (with_items first) (sym (ap (λ (s : Lanes). s.items) is))

module _ (t : ℕ) (first cur next : Lanes) (rest : cur ≡ with_items first cur.items) (head : Ticket) (is : foremost (heads_of t cur) ≡ Some head) (gone : next ≡ with_items cur (filter (is_another head) cur.items)) where
  there : stands head cur.items ≡ true
  there = let own = first_is_head t cur head is in (found (is_of head.group) head cur.items own.first).0

  pub taken_smaller : length next.items < length cur.items
  taken_smaller =
      let same : length next.items ≡ length (filter (is_another head) cur.items) = ap (λ (s : Lanes). length s.items) gone in
      omega (arith, same, fewer_left head cur.items there)

  other_same : (x : Ticket) → (class_of x.group first.classes == t) ≡ false → is_same x head ≡ false
  other_same x other =
      false_from_ne_true (is_same x head) (λ h.
      let own = (first_is_head t cur head is).of_class in
      let class : class_of head.group first.classes ≡ t = ap (λ (s : Lanes). class_of head.group s.classes) (sym rest) ∙ own in
      both_ways (class_of x.group first.classes == t) other (eq-eqb (class_of x.group first.classes) t (ap (λ (y : Ticket). class_of y.group first.classes) (same_is x head h) ∙ class)))

  pub taken_others : ((x : Ticket) → (class_of x.group first.classes == t) ≡ false → stands x cur.items ≡ stands x first.items) → (x : Ticket) → (class_of x.group first.classes == t) ≡ false → stands x next.items ≡ stands x first.items
  taken_others stay x other =
      ap (λ (s : Lanes). stands x s.items) gone ∙ stands_left head x cur.items ∙ ap (λ b. not b && stands x cur.items) (other_same x other) ∙ stay x other

and_true : (b : Bool) → (b && true) ≡ b
and_true true = refl
and_true false = refl

and_false : (b : Bool) → (b && false) ≡ false
and_false true = refl
and_false false = refl

-- none is left where no head is
pub all_taken : (t : ℕ) (first cur : Lanes) → cur ≡ with_items first cur.items → Rises cur.items → foremost (heads_of t cur) ≡ None → ((x : Ticket) → (class_of x.group first.classes == t) ≡ false → stands x cur.items ≡ stands x first.items) →
    (x : Ticket) → stands x cur.items ≡ (stands x first.items && not (class_of x.group first.classes == t))
all_taken t first cur rest rising none stay x = one (class_of x.group first.classes == t) refl
  where
    one : (b : Bool) → (class_of x.group first.classes == t) ≡ b → stands x cur.items ≡ (stands x first.items && not (class_of x.group first.classes == t))
    one true e =
        false_from_ne_true (stands x cur.items) (λ there.
        let class : class_of x.group cur.classes ≡ t = ap (λ (s : Lanes). class_of x.group s.classes) rest ∙ eqb-true (class_of x.group first.classes) t e in
        let has = has_head t cur x class rising there in
        no_head t cur has.head none has.is)
        ∙ sym (ap (λ b. stands x first.items && not b) e ∙ and_false (stands x first.items))
    one false e = stay x e ∙ sym (ap (λ b. stands x first.items && not b) e ∙ and_true (stands x first.items))

-- of two classes, which are all of a transport
both_classes : (c t : ℕ) → (not (c == t * 2) && not (c == t * 2 + 1)) ≡ not (c / 2 == t)
both_classes c t = grind (arith, nat_tests)

and_along : (a b c : Bool) → ((a && b) && c) ≡ (a && (b && c))
and_along true b c = refl
and_along false b c = refl

pub transport_taken : (t : ℕ) (first next last : Lanes) → next ≡ with_items first next.items → ((x : Ticket) → stands x next.items ≡ (stands x first.items && not (class_of x.group first.classes == class_in false t))) →
    ((x : Ticket) → stands x last.items ≡ (stands x next.items && not (class_of x.group next.classes == class_in true t))) → (x : Ticket) → stands x last.items ≡ (stands x first.items && not (transport_of (class_of x.group first.classes) == t))
transport_taken t first next last rest once twice x =
    let c = class_of x.group first.classes in
    twice x
    ∙ ap (λ (s : Lanes). stands x next.items && not (class_of x.group s.classes == class_in true t)) rest
    ∙ ap (λ b. b && not (c == class_in true t)) (once x)
    ∙ and_along (stands x first.items) (not (c == class_in false t)) (not (c == class_in true t))
    ∙ ap (λ b. stands x first.items && b) (both_classes c t)
