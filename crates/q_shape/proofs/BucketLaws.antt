-- Limits rise, and an age belongs to one bucket.
use Rattle.std.proofs.Common.{◌≡◌, ◌≤◌, ◌<◌, ◌*◌, ◌^◌, ◌==◌, ◌&&◌, ℕ, suc, zero, Bool, true, false, nat_le, nat_lt, if◌then◌else◌, ap, sym, refl, ◌∙◌, ◌⊎◌, inl, inr, arith}
use Rattle.std.proofs.lemmas.Nat.{mul-le}
use Rattle.std.proofs.lemmas.Bool.{and_right, cases_lt, eq-eqb, le-leb, le-ltb, lt-leb, lt-ltb, ne_eqb, or_from, or_left, or_right}
use Rattle.std.proofs.Math.Pow.{pow_mono}
use Rattle.q_shape.specs.declared.options.ShapeOptions.{ShapeOptions}
use Rattle.q_shape.specs.Buckets.{is_below, is_from, is_in, limit_of}

pub small_limit : (m b p : ℕ) → m ≤ 10000 → b < 20 → p ≡ 2 ^ b → m * p ≤ 10000 * 2 ^ 19
small_limit m b p few within is = rw is (mul-le m (2 ^ b) 10000 (2 ^ 19) few (pow_mono {i = b} {j = 19} (omega (arith, within))))

rises_by : (b : Bool) (m i j : ℕ) → i ≤ j → (if b then m * suc i else m * 2 ^ i) ≤ (if b then m * suc j else m * 2 ^ j)
rises_by true m i j h = mul-le m (suc i) m (suc j) (omega arith) (omega (arith, h))
rises_by false m i j h = mul-le m (2 ^ i) m (2 ^ j) (omega arith) (pow_mono {i = i} {j = j} h)

pub rises : (o : ShapeOptions) (i j : ℕ) → i ≤ j → limit_of o i ≤ limit_of o j
rises o i j h = rises_by o.linear o.minutes i j h

-- the age has reached all limits before the bucket's own, and hasn't reached that, or it has none
pub record IsBucket (o : ShapeOptions) (age b : ℕ) : Type 0 where
  pub there : b < o.buckets
  pub reached : (j : ℕ) → j < b → 60 * limit_of o j ≤ age
  pub below : (o.buckets ≤ suc b) ⊎ (age < 60 * limit_of o b)

module _ (o : ShapeOptions) (age b : ℕ) (h : IsBucket o age b) where
  before : (i : ℕ) → i < b → is_in o i age ≡ false
  before i less = and_right (is_from o i age) (is_below o i age) (or_from (nat_le o.buckets (suc i)) (nat_lt age (60 * limit_of o i))
      (lt-leb o.buckets (suc i) (omega (arith, less, h.there))) (le-ltb age (60 * limit_of o i) (h.reached i less)))

  from : (i : ℕ) → i ≡ b → is_from o i age ≡ true
  from zero is = refl
  from (suc i) is = le-leb (60 * limit_of o i) age (h.reached i (omega (arith, is)))

  under : is_below o b age ≡ true
  under = by h.below
    where
      by : (o.buckets ≤ suc b) ⊎ (age < 60 * limit_of o b) → is_below o b age ≡ true
      by (inl last) = or_left (nat_le o.buckets (suc b)) (nat_lt age (60 * limit_of o b)) (le-leb o.buckets (suc b) last)
      by (inr less) = or_right (nat_le o.buckets (suc b)) (nat_lt age (60 * limit_of o b)) (lt-ltb age (60 * limit_of o b) less)

  own : is_in o b age ≡ true
  own = ap (λ t. t && is_below o b age) (from b refl) ∙ under

  behind : (i : ℕ) → i < o.buckets → b < i → is_in o i age ≡ false
  behind zero within more = absurd (omega (arith, more))
  behind (suc i) within more = ap (λ t. t && is_below o (suc i) age) (lt-leb (60 * limit_of o i) age (by h.below))
    where
      by : (o.buckets ≤ suc b) ⊎ (age < 60 * limit_of o b) → age < 60 * limit_of o i
      by (inl last) = absurd (omega (arith, last, within, more))
      by (inr less) = omega (arith, less, mul-le 60 (limit_of o b) 60 (limit_of o i) (omega arith) (rises o b i (omega (arith, more))))

  pub alone : (i : ℕ) → i < o.buckets → is_in o i age ≡ (i == b)
  alone i within = by (cases_lt i b) (cases_lt b i)
    where
      by : (i < b) ⊎ (b ≤ i) → (b < i) ⊎ (i ≤ b) → is_in o i age ≡ (i == b)
      by (inl less) k = before i less ∙ sym (ne_eqb i b (λ e. omega (arith, e, less)))
      by (inr ge) (inl more) = behind i within more ∙ sym (ne_eqb i b (λ e. omega (arith, e, more)))
      by (inr ge) (inr le) = ap (λ j. is_in o j age) (omega (arith, ge, le)) ∙ own ∙ sym (eq-eqb i b (omega (arith, ge, le)))
