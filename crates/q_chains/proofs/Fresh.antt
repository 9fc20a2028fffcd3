-- The arrays of lists that are all empty.
use Rattle.std.proofs.Common.{◌≡◌, ◌∙◌, ◌∷◌, ◌+◌, ◌<◌, ◌≤◌, ◌^◌, [], arith, get_or, length, List, replicate, subst, suc, sym, zero, ℕ}
use Rattle.std.proofs.lemmas.Grind.{common_steps}
use Rattle.std.proofs.lemmas.List.{length-replicate}
use Rattle.std.proofs.lemmas.List.Elements.{All-from_get_or}
use Rattle.q_chains.specs.Lists.{AllBelow}
use Rattle.q_chains.specs.Laid.{AreApart, fresh_before, fresh_next, IsLaid, IsPath, strung}
use Rattle.q_chains.proofs.Borders.{strung_lacks}

all_below_fresh : (numbers count : ℕ) → AllBelow numbers (replicate count [])
all_below_fresh numbers zero = tt
all_below_fresh numbers (suc count) = (tt, all_below_fresh numbers count)

apart_fresh : (numbers border count : ℕ) → numbers ≤ border → AreApart (border ∷ strung border (replicate count []))
apart_fresh numbers border zero h = (tt, tt)
apart_fresh numbers border (suc count) h =
    (strung_lacks numbers border border (replicate (suc count) []) (all_below_fresh numbers (suc count)) h (omega arith), apart_fresh numbers (border + 1) count (omega (arith, h)))

module _ (nx bf : List ℕ) (numbers last : ℕ) (next : (p : ℕ) → p ≤ last → get_or nx p 0 ≡ fresh_next numbers last p) (before : (p : ℕ) → p ≤ last → get_or bf p 0 ≡ fresh_before numbers p) where
  path_fresh : (border count : ℕ) → numbers ≤ border → border + count ≡ last → IsPath nx bf border (strung border (replicate count []))
  path_fresh border zero h k = tt
  path_fresh border (suc count) h k =
      let leads : fresh_next numbers last border ≡ border + 1 = grind (arith, common_steps, h, k) in
      let back : fresh_before numbers (border + 1) ≡ border = grind (arith, common_steps, h) in
      (next border (omega (arith, k)) ∙ leads, before (border + 1) (omega (arith, k)) ∙ back, path_fresh (border + 1) count (omega (arith, h)) (omega (arith, k)))

  next_within : (p : ℕ) → numbers ≤ last → p ≤ last → get_or nx p 0 < last + 1
  next_within p few h = let is = next p h in grind (arith, common_steps, is, few, h)

  before_within : (p : ℕ) → p ≤ last → get_or bf p 0 < last + 1
  before_within p h = let is = before p h in grind (arith, common_steps, is, h)

  alone_fresh : (m : ℕ) → m < numbers → numbers ≤ last → (get_or nx m 0 ≡ m) × (get_or bf m 0 ≡ m)
  alone_fresh m h few =
      let own : fresh_next numbers last m ≡ m = grind (arith, common_steps, h) in
      let back : fresh_before numbers m ≡ m = grind (arith, common_steps, h) in
      (next m (omega (arith, h, few)) ∙ own, before m (omega (arith, h, few)) ∙ back)

  pub laid_fresh : (count : ℕ) → last ≡ numbers + count → last < 2 ^ 32 → length nx ≡ last + 1 → length bf ≡ last + 1 → IsLaid nx bf numbers (replicate count [])
  laid_fresh count is few len len_before =
      let within : numbers ≤ last = omega (arith, is) in
      let lists = length-replicate {A = List ℕ} count [] in
      record {
        joined = record {
          same = len_before ∙ sym len;
          few = omega (arith, len, few);
          next = All-from_get_or (λ p. p < length nx) nx 0 (λ i k. subst (λ (n : ℕ). get_or nx i 0 < n) (sym len) (next_within i within (omega (arith, k, len))));
          before = All-from_get_or (λ p. p < length nx) bf 0 (λ i k. subst (λ (n : ℕ). get_or bf i 0 < n) (sym len) (before_within i (omega (arith, k, len_before))));
        };
        count = omega (arith, len, is, lists);
        below = all_below_fresh numbers count;
        path = path_fresh numbers count (omega arith) (sym is);
        apart = apart_fresh numbers numbers count (omega arith);
        alone = λ m k l. alone_fresh m k within;
      }
