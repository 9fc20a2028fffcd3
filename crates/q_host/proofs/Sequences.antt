-- Sequences of calls each of which leaves all as the old or as the new.
use Rattle.std.proofs.Common.{inl, inr, ⊎_elim, ◌<◌, ℕ, zero, suc, arith}
use Rattle.q_host.specs.View.{Remains, View, Step, Goes, LeavesOnly}
use Rattle.q_host.specs.Steps.{OldOrNew}
use Rattle.q_host.proofs.Moments.{goes_on, goes_again, goes_nowhere, leaves_on, leaves_here}

-- one step and another are a third
abbrev pub Chain : Step → Step → Step → Type 0
Chain R S T = (x y z : Remains) → R x y → S y z → T x z

-- one step is a case of another
abbrev pub Within : Step → Step → Type 0
Within R S = (x y : Remains) → R x y → S x y

-- how a change that was made stays made
pub record StaysMade (Old New : Step) : Type 0 where
  pub old_old : Chain Old Old Old
  pub old_new : Chain Old New New
  pub new_old : Chain New Old New
  pub new_new : Chain New New New

-- old or new, and then old or new
pub old_or_new-chain : {Old New : Step} → StaysMade Old New → Chain (OldOrNew Old New) (OldOrNew Old New) (OldOrNew Old New)
old_or_new-chain made x y z first second = ⊎_elim
    (λ old. ⊎_elim (λ still. inl (made.old_old x y z old still)) (λ new. inr (made.old_new x y z old new)) second)
    (λ new. ⊎_elim (λ still. inr (made.new_old x y z new still)) (λ more. inr (made.new_new x y z new more)) second)
    first

-- a call that leaves the old, and one that makes the new
pub goes_to_new : {Old New : Step} {a b c : View} → StaysMade Old New → Goes Old Old a b → Goes New (OldOrNew Old New) b c → Goes New (OldOrNew Old New) a c
goes_to_new {Old = Old} {New = New} made p q = goes_on New (OldOrNew Old New) p q made.old_new (λ x y old. inl old)
    (λ x y z old second. old_or_new-chain made x y z (inl old) second)

-- a call that makes the new, and one that leaves it so
pub goes_on_new : {Old New : Step} {a b c : View} → StaysMade Old New → Goes New (OldOrNew Old New) a b → Goes Old Old b c → Goes New (OldOrNew Old New) a c
goes_on_new {Old = Old} {New = New} made p q = goes_on New (OldOrNew Old New) p q made.new_old (λ x y first. first)
    (λ x y z new old. inr (made.new_old x y z new old))

-- any number of calls by one step that may be taken again and again
pub goes_each : (R : Step) (view_at : ℕ → View) → ((x : Remains) → R x x) → Chain R R R → (n : ℕ) → ((i : ℕ) → i < n → Goes R R (view_at i) (view_at (suc i))) → Goes R R (view_at zero) (view_at n)
goes_each R view_at here chain zero each = goes_nowhere R R (view_at zero) here
goes_each R view_at here chain (suc n) each = goes_again R (goes_each R view_at here chain n (λ i h. each i (omega (arith, h)))) (each n (omega arith)) chain (λ x y r. r) (λ x y r. r)

-- any number of calls, each of which leaves the old or the new
pub goes_old_or_new : {Old New : Step} (view_at : ℕ → View) → ((x : Remains) → Old x x) → StaysMade Old New → (n : ℕ)
    → ((i : ℕ) → i < n → Goes (OldOrNew Old New) (OldOrNew Old New) (view_at i) (view_at (suc i))) → Goes (OldOrNew Old New) (OldOrNew Old New) (view_at zero) (view_at n)
goes_old_or_new {Old = Old} {New = New} view_at here made n each = goes_each (OldOrNew Old New) view_at (λ x. inl (here x)) (old_or_new-chain made) n each

-- any number of runs, each of which leaves only what has a property
pub leaves_each : (P : Remains → Type 0) (view_at : ℕ → View)
    → ((c : Remains) → (view_at zero).left_since (view_at zero).moment c → (view_at zero).may_leave c) → ((c : Remains) → (view_at zero).may_leave c → P c)
    → (n : ℕ) → ((i : ℕ) → i < n → LeavesOnly (view_at i) (view_at (suc i)) P) → LeavesOnly (view_at zero) (view_at n) P
leaves_each P view_at only here zero each = leaves_here P (view_at zero) only here
leaves_each P view_at only here (suc n) each = leaves_on P (leaves_each P view_at only here n (λ i h. each i (omega (arith, h)))) (each n (omega arith)) (λ x p. p) (λ x p. p)
