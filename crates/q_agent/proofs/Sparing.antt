-- How often links may still answer `NotYet`, in parts and call after call.
use native.Mathlib.Omega.{arith}
use Rattle.std.proofs.Common.{◌≡◌, ◌≤◌, ◌+◌, ◌∙◌, ℕ, Option, None, Some, refl, sym, ap, subst}
use Rattle.q_link.specs.WaitsLeft.{Spares, waits_sum}

pub sum_grouped : (a b c : Option ℕ) → waits_sum (waits_sum a b) c ≡ waits_sum a (waits_sum b c)
sum_grouped None b c = refl
sum_grouped (Some x) None c = refl
sum_grouped (Some x) (Some y) None = refl
sum_grouped (Some x) (Some y) (Some z) = let same : x + y + z ≡ x + (y + z) = omega arith in ap (λ (n : ℕ). Some n) same

pub sum_swapped : (a b c : Option ℕ) → waits_sum a (waits_sum b c) ≡ waits_sum b (waits_sum a c)
sum_swapped None None c = refl
sum_swapped None (Some y) c = refl
sum_swapped (Some x) None c = refl
sum_swapped (Some x) (Some y) None = refl
sum_swapped (Some x) (Some y) (Some z) = let same : x + (y + z) ≡ y + (x + z) = omega arith in ap (λ (n : ℕ). Some n) same

pub sum_none : (a : Option ℕ) → waits_sum a (Some 0) ≡ a
sum_none None = refl
sum_none (Some x) = let same : x + 0 ≡ x = omega arith in ap (λ (n : ℕ). Some n) same

pub spares_same : (a : Option ℕ) → Spares 0 a a
spares_same None = tt
spares_same (Some x) = (x, refl, omega arith)

pub spares_is : (a b : Option ℕ) → b ≡ a → Spares 0 a b
spares_is a b is = subst (λ (c : Option ℕ). Spares 0 a c) (sym is) (spares_same a)

pub spares_both : (m n : ℕ) (a b c d : Option ℕ) → Spares m a b → Spares n c d → Spares (m + n) (waits_sum a c) (waits_sum b d)
spares_both m n None b c d h k = tt
spares_both m n (Some x) b None d h k = tt
spares_both m n (Some x) b (Some y) d (l, is, few) (r, same, less) =
    (l + r, ap (λ (e : Option ℕ). waits_sum e d) is ∙ ap (waits_sum (Some l)) same, omega (arith, few, less))

pub spares_then : (m n : ℕ) (a b c : Option ℕ) → Spares m a b → Spares n b c → Spares (m + n) a c
spares_then m n None b c h k = tt
spares_then m n (Some x) b c (l, is, few) k =
    let (r, same, less) = subst (λ (e : Option ℕ). Spares n e c) is k in
    (r, same, omega (arith, few, less))

pub spares_less : (m n : ℕ) (a b : Option ℕ) → n ≤ m → Spares m a b → Spares n a b
spares_less m n None b fewer h = tt
spares_less m n (Some x) b fewer (l, is, few) = (l, is, omega (arith, few, fewer))

-- behind or before a call that spends none
pub spares_on : (m : ℕ) (a b c : Option ℕ) → Spares 0 a b → Spares m b c → Spares m a c
spares_on m a b c h k = spares_less (0 + m) m a c (omega arith) (spares_then 0 m a b c h k)

pub spares_still : (m : ℕ) (a b c : Option ℕ) → Spares m a b → Spares 0 b c → Spares m a c
spares_still m a b c h k = spares_less (m + 0) m a c (omega arith) (spares_then m 0 a b c h k)

-- without the first part
pub spares_gone : (a b : Option ℕ) → Spares 0 (waits_sum a b) b
spares_gone None b = tt
spares_gone (Some x) None = tt
spares_gone (Some x) (Some y) = (y, refl, omega arith)

-- between other names of both
pub spares_as : (m : ℕ) (a b c d : Option ℕ) → c ≡ a → d ≡ b → Spares m a b → Spares m c d
spares_as m a b c d first last h =
    subst (λ (e : Option ℕ). Spares m e d) (sym first) (subst (λ (e : Option ℕ). Spares m a e) (sym last) h)
