-- Ids and sites that pass for equal are equal.
use Rattle.std.proofs.Common.{◌≡◌, ℕ, Bool, true, false, refl, sym, ap, ◌∙◌, arith}
use Rattle.std.specs.Prelude.{◌&&◌, ◌==◌, ◌||◌}
use Rattle.std.proofs.lemmas.Grind.{common_steps}
use Rattle.q_model.specs.Ids.{bool_eq, id_eq}
use Rattle.q_model.specs.declared.id.Id.{Id}

bool_eq-true : (a b : Bool) → bool_eq a b ≡ true → a ≡ b
bool_eq-true true b h = sym h
bool_eq-true false true h = cc
bool_eq-true false false h = refl

number-true : (a b : ℕ) → (a == b) ≡ true → a ≡ b
number-true a b h = grind (arith, common_steps)

three_true : (a b c : Bool) → (a && b && c) ≡ true → (a ≡ true) × (b ≡ true) × (c ≡ true)
three_true true true c h = (refl, refl, h)
three_true true false c h = cc
three_true false b c h = cc

pub id_eq-true : (a b : Id) → id_eq a b ≡ true → a ≡ b
id_eq-true a b h =
    let parts = three_true (a.generation == b.generation) (a.serial == b.serial) (bool_eq a.bounce b.bounce) h in
    let first : a.generation ≡ b.generation = number-true a.generation b.generation parts.0 in
    let second : a.serial ≡ b.serial = number-true a.serial b.serial parts.1 in
    let third : a.bounce ≡ b.bounce = bool_eq-true a.bounce b.bounce parts.2 in
    ap (λ n. record { generation = n; serial = a.serial; bounce = a.bounce }) first
    ∙ ap (λ n. record { generation = b.generation; serial = n; bounce = a.bounce }) second
    ∙ ap (λ z. record { generation = b.generation; serial = b.serial; bounce = z }) third

same_bool : (b : Bool) → bool_eq b b ≡ true
same_bool true = refl
same_bool false = refl

same_number : (n : ℕ) → (n == n) ≡ true
same_number n = grind arith

pub id_eq-same : (a : Id) → id_eq a a ≡ true
id_eq-same a =
    ap (λ b. b && (a.serial == a.serial) && bool_eq a.bounce a.bounce) (same_number a.generation)
    ∙ ap (λ b. true && b && bool_eq a.bounce a.bounce) (same_number a.serial)
    ∙ same_bool a.bounce

-- both hold
pub and_true_parts : (a b : Bool) → (a && b) ≡ true → (a ≡ true) × (b ≡ true)
and_true_parts true b h = (refl, h)
and_true_parts false b h = cc

-- the second holds
pub or_right : (a b : Bool) → b ≡ true → (a || b) ≡ true
or_right true b h = refl
or_right false b h = h
