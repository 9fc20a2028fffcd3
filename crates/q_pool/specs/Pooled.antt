-- What a contract sees of a pool.
use Rattle.std.specs.Prelude.{◌≡◌, [], find, List, None, ℕ, ◌∷◌}
use Rattle.q_pool.specs.Kept.{is_of}
use Rattle.q_pool.specs.declared.kept.Kept.{Kept}

-- The messages in the order of their admission, how many have room, at how many marks one wants a
-- sync, and how many recipients one reads at least.
pub record Pooled : Type 0 where
  pub items : List Kept
  pub room : ℕ
  pub sync_limit : ℕ
  pub minimum : ℕ

-- no two are of one id
abbrev pub AreApart : List Kept → Type 0
AreApart [] = Unit {0}
AreApart (k ∷ ks) = (find (is_of k.slot.id) ks ≡ None) × AreApart ks
