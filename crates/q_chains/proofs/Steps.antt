-- Where a walk along a list begins, and a step of it, from a number to the one right behind it.
use Rattle.std.proofs.Common.{◌≡◌, ◌∙◌, ◌<◌, [], ap, arith, Bool, cond, false, get_or, length, Option, Some, subst, suc, sym, true, ℕ}
use Rattle.std.specs.List.{concat}
use Rattle.std.specs.Prelude.{find, IfSome}
use Rattle.q_chains.specs.Lists.{behind, first_of, list_with, Lists, StandOnce, stands}
use Rattle.q_chains.specs.Onward.{after, from_on}
use Rattle.q_chains.proofs.Numbers.{AreOnce, first_stands, from_next, next_stands, once_from}

pub once_in : (s : Lists) → StandOnce s → AreOnce (concat s.lists)
once_in s h = once_from (concat s.lists) h.once

-- a walk begins
pub begins : (b : ℕ) (s : Lists) (from : Option ℕ) → from ≡ first_of (get_or s.lists b []) → IfSome from (λ n. stands n s.lists ≡ true)
begins b s from h = subst (λ (o : Option ℕ). IfSome o (λ n. stands n s.lists ≡ true)) (sym h) (first_stands b s.lists)

-- it goes on behind a number
pub goes_on : (n : ℕ) (s : Lists) (from : Option ℕ) → from ≡ behind n (list_with n s.lists) → IfSome from (λ n. stands n s.lists ≡ true)
goes_on n s from h = subst (λ (o : Option ℕ). IfSome o (λ n. stands n s.lists ≡ true)) (sym h) (next_stands n s.lists)

module _ (s : Lists) (once : StandOnce s) (n : ℕ) (at next : Option ℕ) (here : at ≡ Some n) (is : next ≡ behind n (list_with n s.lists)) where
  from_there : from_on next s.lists ≡ after n (list_with n s.lists)
  from_there = ap (λ o. from_on o s.lists) is ∙ from_next n s.lists (once_in s once)

  pub shorter : length (from_on next s.lists) < length (from_on at s.lists)
  shorter =
      let from : length (from_on at s.lists) ≡ suc (length (after n (list_with n s.lists))) = ap (λ o. length (from_on o s.lists)) here in
      let left : length (from_on next s.lists) ≡ length (after n (list_with n s.lists)) = ap length from_there in
      omega (arith, from, left)

  pub still_there : IfSome next (λ m. stands m s.lists ≡ true)
  still_there = subst (λ (o : Option ℕ). IfSome o (λ m. stands m s.lists ≡ true)) (sym is) (next_stands n s.lists)

  -- the number doesn't pass, so the first that does stands behind it
  pub found_behind : (p : ℕ → Bool) → p n ≡ false → find p (from_on next s.lists) ≡ find p (from_on at s.lists)
  found_behind p h =
      ap (find p) from_there
      ∙ sym (ap (λ t. cond t (Some n) (find p (after n (list_with n s.lists)))) h)
      ∙ sym (ap (λ o. find p (from_on o s.lists)) here)
