-- Ids as keys of a map are the same where they are the same ids.
use Rattle.std.proofs.Common.{◌≡◌, ℕ, Bool, true, false, refl}
use Rattle.std.specs.Prelude.{◌&&◌, ◌==◌}
use Rattle.q_model.specs.Ids.{id_eq}
use Rattle.q_model.specs.contracts.id.IdPartialEq.TheImpl.{eq-value}
use Rattle.q_model.specs.declared.id.Id.{Id}

abbrev id_with : ℕ → ℕ → Bool → Id
id_with g s b = record { generation = g; serial = s; bounce = b }

all_three : (a b c : Bool) → (a && (b && c)) ≡ ((a && b) && c)
all_three true b c = refl
all_three false b c = refl

same_with : (g s h t : ℕ) (a b : Bool) → eq-value.it (id_with g s a) (id_with h t b) ≡ id_eq (id_with g s a) (id_with h t b)
same_with g s h t true true = all_three (g == h) (s == t) true
same_with g s h t true false = all_three (g == h) (s == t) false
same_with g s h t false true = all_three (g == h) (s == t) false
same_with g s h t false false = all_three (g == h) (s == t) true

pub same_key : (a b : Id) → eq-value.it a b ≡ id_eq a b
same_key a b = same_with a.generation a.serial b.generation b.serial a.bounce b.bounce
