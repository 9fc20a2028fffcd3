-- What each event makes of what a crash may leave.
use Rattle.std.proofs.Common.{◌≡◌, ◌⊎◌, ⊎_elim, ℕ, zero, suc, ◌≤◌, ◌<◌, ◌+◌, ◌-◌, max, min, Bool, true, false, ◌||◌, if◌then◌else◌, List, [], ◌∷◌, ◌++◌, length, take, drop, get_or, refl, sym, ◌∙◌, ap, arith, length-append, length-take, length-drop, true≢false}
use Rattle.std.proofs.lemmas.Bool.Decides.{nat_tests}
use Rattle.std.proofs.lemmas.List.{get_or-take, get_or-drop, ext_get_or, get_or_append_left, get_or-append_right}
use Rattle.q_host.specs.Files.{written}
use Rattle.q_host.specs.Steps.{TornBytes}
use Rattle.q_mem_host.specs.Kept.{Kept, in_range, is_soft, firm, overwritten}
use Rattle.q_mem_host.specs.Left.{IsRemnant}

-- ---- ranges

below_range : (at len i : ℕ) → i < at → in_range at len i ≡ false
below_range at len i h = grind (arith, nat_tests)

above_range : (at len i : ℕ) → at + len ≤ i → in_range at len i ≡ false
above_range at len i h = grind (arith, nat_tests)

out_of_range : (at len i : ℕ) → in_range at len i ≡ false → (i < at) ⊎ (at + len ≤ i)
out_of_range at len i h = grind (arith, nat_tests)

neither : (a b : Bool) → (a || b) ≡ false → (a ≡ false) × (b ≡ false)
neither true b h = absurd (true≢false h)
neither false b h = (refl, h)

soft_more : (rs : List (ℕ × ℕ)) (at len i : ℕ) → is_soft rs i ≡ false → in_range at len i ≡ false → is_soft (rs ++ (at, len) ∷ []) i ≡ false
soft_more [] at len i h g = ap (λ b. b || false) g
soft_more (r ∷ rs) at len i h g =
    let both = neither (in_range r.0 r.1 i) (is_soft rs i) h in
    ap (λ b. b || is_soft (rs ++ (at, len) ∷ []) i) both.0 ∙ soft_more rs at len i both.1 g

-- ---- a list by a function

tabulate : ℕ → (ℕ → ℕ) → List ℕ
tabulate zero f = []
tabulate (suc n) f = f 0 ∷ tabulate n (λ i. f (suc i))

length-tabulate : (n : ℕ) (f : ℕ → ℕ) → length (tabulate n f) ≡ n
unfolding tabulate
length-tabulate zero f = refl
length-tabulate (suc n) f = ap suc (length-tabulate n (λ i. f (suc i)))

get_or-tabulate : (n : ℕ) (f : ℕ → ℕ) (i : ℕ) → i < n → get_or (tabulate n f) i 0 ≡ f i
unfolding tabulate
get_or-tabulate zero f i h = absurd (omega arith)
get_or-tabulate (suc n) f zero h = refl
get_or-tabulate (suc n) f (suc i) h = get_or-tabulate n (λ i. f (suc i)) i (omega arith)

-- ---- bytes over others

length-written : (at : ℕ) (over bytes : List ℕ) → at ≤ length bytes → length (written at over bytes) ≡ max (length bytes) (at + length over)
length-written at over bytes h = omega (arith, length-append (take at bytes ++ over) (drop (at + length over) bytes), length-append (take at bytes) over, length-take at bytes, length-drop (at + length over) bytes)

pub outside : (at : ℕ) (over bytes : List ℕ) (i : ℕ) → at ≤ length bytes → in_range at (length over) i ≡ false → get_or (written at over bytes) i 0 ≡ get_or bytes i 0
outside at over bytes i h out = ⊎_elim before behind (out_of_range at (length over) i out)
  where
    front : length (take at bytes) ≡ at
    front = omega (arith, length-take at bytes)

    both : length (take at bytes ++ over) ≡ at + length over
    both = omega (arith, length-append (take at bytes) over, front)

    before : i < at → get_or (written at over bytes) i 0 ≡ get_or bytes i 0
    before lt = get_or_append_left (take at bytes ++ over) (drop (at + length over) bytes) 0 i (omega (arith, both))
        ∙ get_or_append_left (take at bytes) over 0 i (omega (arith, front)) ∙ get_or-take at bytes i 0 lt

    behind : at + length over ≤ i → get_or (written at over bytes) i 0 ≡ get_or bytes i 0
    behind le = get_or-append_right (take at bytes ++ over) (drop (at + length over) bytes) (at + length over) i 0 both le
        ∙ get_or-drop (at + length over) bytes (i - (at + length over)) 0
        ∙ ap (λ n. get_or bytes n 0) (let e : at + length over + (i - (at + length over)) ≡ i = omega arith in e)

-- ---- one file

-- what reads give is among what a crash may leave
pub whole : (k : Kept) → IsRemnant k k.bytes
whole k = record { no_shorter = omega arith; no_longer = omega arith; firm = λ i h out. refl }

-- of bytes on the disk all is left
pub firm-only : (bytes c : List ℕ) → IsRemnant (firm bytes) c → c ≡ bytes
firm-only bytes c r = ext_get_or 0 c bytes (omega (arith, r.no_shorter, r.no_longer)) (λ i h. r.firm i h refl)

module _ (at : ℕ) (over : List ℕ) (k : Kept) (c : List ℕ) (within : at ≤ length k.bytes) (r : IsRemnant (overwritten at over k) c) where
  len : ℕ
  len = length over

  most : length c ≤ max (length k.bytes) (at + length over)
  most = omega (arith, r.no_longer, length-written at over k.bytes within)

  -- what was left before the write: the old bytes in the range
  byte_before : ℕ → ℕ
  byte_before i = if in_range at (length over) i then get_or k.bytes i 0 else get_or c i 0

  before_len : ℕ
  before_len = min (length c) (length k.bytes)

  pub before : List ℕ
  before = tabulate before_len byte_before

  long : length before ≡ min (length c) (length k.bytes)
  unfolding before before_len
  long = length-tabulate (min (length c) (length k.bytes)) byte_before

  at_before : (i : ℕ) → i < min (length c) (length k.bytes) → get_or before i 0 ≡ byte_before i
  unfolding before before_len
  at_before i h = get_or-tabulate (min (length c) (length k.bytes)) byte_before i h

  out_before : (i : ℕ) → in_range at (length over) i ≡ false → byte_before i ≡ get_or c i 0
  unfolding byte_before
  out_before i h = ap (λ b. if b then get_or k.bytes i 0 else get_or c i 0) h

  in_before : (i : ℕ) → in_range at (length over) i ≡ true → byte_before i ≡ get_or k.bytes i 0
  unfolding byte_before
  in_before i h = ap (λ b. if b then get_or k.bytes i 0 else get_or c i 0) h

  firm_before : (i : ℕ) → i < length before → is_soft k.soft i ≡ false → get_or before i 0 ≡ get_or k.bytes i 0
  firm_before i h stays = by (in_range at (length over) i) refl
    where
      here : i < min (length c) (length k.bytes)
      here = omega (arith, long)

      by : (b : Bool) → in_range at (length over) i ≡ b → get_or before i 0 ≡ get_or k.bytes i 0
      by true e = at_before i here ∙ in_before i e
      by false e = at_before i here ∙ out_before i e ∙ r.firm i (omega (arith, long)) (soft_more k.soft at (length over) i stays e) ∙ outside at over k.bytes i within e

  pub was_left : IsRemnant k before
  was_left = record {
    no_shorter = omega (arith, long, r.no_shorter, length-written at over k.bytes within);
    no_longer = omega (arith, long);
    firm = firm_before;
  }

  pub is_torn : TornBytes at (length over) before c
  is_torn = record {
    before = ext_get_or 0 (take at c) (take at before) (omega (arith, long, length-take at c, length-take at before))
        (λ i h. let lt : i < at = omega (arith, length-take at c) in let lt' : i < min (length c) (length k.bytes) = omega (arith, length-take at c) in
        get_or-take at c i 0 lt ∙ sym (get_or-take at before i 0 lt ∙ at_before i lt' ∙ out_before i (below_range at (length over) i lt)));
    after = ext_get_or 0 (drop (at + length over) c) (drop (at + length over) before) (omega (arith, long, most, length-drop (at + length over) c, length-drop (at + length over) before))
        (λ i h. let j : at + length over + i < length c = omega (arith, length-drop (at + length over) c) in
        get_or-drop (at + length over) c i 0 ∙ sym (get_or-drop (at + length over) before i 0 ∙ at_before (at + length over + i) (omega (arith, most)) ∙ out_before (at + length over + i) (above_range at (length over) (at + length over + i) (omega arith))));
    no_shorter = omega (arith, long);
    no_longer = omega (arith, long, most);
  }
