-- How calls follow one another: what a crash may leave, and may have left meanwhile.
use Rattle.std.proofs.Common.{inl, inr, ⊎_elim, arith}
use Rattle.q_host.specs.View.{Remains, View, Step, After, Goes, LeavesOnly}

-- one run after another
pub goes_on : {S M S' M' : Step} (R N : Step) {a b c : View} → Goes S M a b → Goes S' M' b c
    → ((x y z : Remains) → S x y → S' y z → R x z) → ((x y : Remains) → M x y → N x y) → ((x y z : Remains) → S x y → M' y z → N x z) → Goes R N a c
goes_on R N p q both first second = record {
  later = omega (arith, p.later, q.later);
  crash = λ z left. let y = q.crash z left in let x = p.crash y.0 y.1 in (x.0, x.1, both x.0 y.0 z x.2 y.2);
  nothing_else = λ t z le left. ⊎_elim
      (λ was. ⊎_elim (λ before. inl before) (λ x. inr (x.0, x.1, first x.0 z x.2)) (p.nothing_else t z le was))
      (λ y. let x = p.crash y.0 y.1 in inr (x.0, x.1, second x.0 y.0 z x.2 y.2))
      (q.nothing_else t z (omega (arith, le, p.later)) left);
  keeps = λ t z le was. q.keeps t z (omega (arith, le, p.later)) (p.keeps t z le was);
}

-- a run does what a wider step does
pub goes_wider : {S M : Step} (R N : Step) {a b : View} → Goes S M a b → ((x y : Remains) → S x y → R x y) → ((x y : Remains) → M x y → N x y) → Goes R N a b
goes_wider R N p step meanwhile = record {
  later = p.later;
  crash = λ z left. let y = p.crash z left in (y.0, y.1, step y.0 z y.2);
  nothing_else = λ t z le left. ⊎_elim (λ was. inl was) (λ y. inr (y.0, y.1, meanwhile y.0 z y.2)) (p.nothing_else t z le left);
  keeps = p.keeps;
}

-- a step that may be taken again and again
pub goes_again : {S M : Step} (R : Step) {a b c : View} → Goes R R a b → Goes S M b c
    → ((x y z : Remains) → R x y → R y z → R x z) → ((x y : Remains) → S x y → R x y) → ((x y : Remains) → M x y → R x y) → Goes R R a c
goes_again R p q chain step meanwhile = goes_on R R p (goes_wider R R q step meanwhile) chain (λ x y h. h) chain

-- no call
pub goes_nowhere : (R N : Step) (a : View) → ((x : Remains) → R x x) → Goes R N a a
goes_nowhere R N a here = record {
  later = omega arith;
  crash = λ z left. (z, left, here z);
  nothing_else = λ t z le left. inl left;
  keeps = λ t z le was. was;
}

-- a run that begins here leaves, at each moment, what a crash here or a step from it may leave
pub leaves_only : {S M : Step} {a b : View} → ((c : Remains) → a.left_since a.moment c → a.may_leave c) → ((x : Remains) → M x x) → Goes S M a b → LeavesOnly a b (After M a.may_leave)
leaves_only only here p = record {
  later = p.later;
  each = λ c left. ⊎_elim (λ was. (c, only c was, here c)) (λ y. y) (p.nothing_else _ c (omega arith) left);
  before = p.nothing_else;
}

-- one run after another, each of which leaves only what has a property
pub leaves_on : {P Q : Remains → Type 0} (R : Remains → Type 0) {a b c : View} → LeavesOnly a b P → LeavesOnly b c Q → ((x : Remains) → P x → R x) → ((x : Remains) → Q x → R x) → LeavesOnly a c R
leaves_on R {a = a} {b = b} {c = c} p q first second = record {
  later = omega (arith, p.later, q.later);
  each = λ x left. ⊎_elim (λ was. first x (p.each x was)) (λ new. second x new) (q.before a.moment x p.later left);
  before = λ t x le left. ⊎_elim (λ was. ⊎_elim (λ old. inl old) (λ mid. inr (first x mid)) (p.before t x le was)) (λ new. inr (second x new)) (q.before t x (omega (arith, le, p.later)) left);
}

-- no run: what a crash may leave here has the property
pub leaves_here : (R : Remains → Type 0) (a : View) → ((c : Remains) → a.left_since a.moment c → a.may_leave c) → ((c : Remains) → a.may_leave c → R c) → LeavesOnly a a R
leaves_here R a only here = record { later = omega arith; each = λ c left. here c (only c left); before = λ t c le left. inl left }

-- what all that may remain has, carried over a run
pub leaves_by : {S M : Step} (P R : Remains → Type 0) {a b : View} → ((c : Remains) → a.left_since a.moment c → a.may_leave c) → Goes S M a b → ((d : Remains) → a.may_leave d → P d)
    → ((d : Remains) → P d → R d) → ((d c : Remains) → P d → M d c → R c) → LeavesOnly a b R
leaves_by P R {a = a} only p all here step = record {
  later = p.later;
  each = λ c left. ⊎_elim (λ was. here c (all c (only c was))) (λ y. step y.0 c (all y.0 y.1) y.2) (p.nothing_else a.moment c (omega arith) left);
  before = λ t c le left. ⊎_elim (λ was. inl was) (λ y. inr (step y.0 c (all y.0 y.1) y.2)) (p.nothing_else t c le left);
}
