-- Keys of rounds that are equal are one and the same.
use Rattle.std.proofs.Common.{◌≡◌, ◌∙◌, ap, refl, true, ℕ}
use Rattle.std.proofs.lemmas.Bool.{and_from, and_parts, eq-eqb, eqb-true}
use Rattle.std.specs.Prelude.{◌==◌}
use Rattle.q_model.proofs.IdLaws.{id_eq-refl, id_eq-true}
use Rattle.q_model.specs.declared.id.Id.{Id}
use Rattle.q_model.specs.Ids.{id_eq}
use Rattle.q_rounds.specs.declared.round.RoundKey.{RoundKey}
use Rattle.q_rounds.specs.Jobs.{round_eq}

abbrev key_with : Id → ℕ → RoundKey
key_with id transport = record { id = id; transport = transport }

same_parts : (i j : Id) (s t : ℕ) → i ≡ j → s ≡ t → key_with i s ≡ key_with j t
same_parts i j s t a b = ap (λ x. key_with x s) a ∙ ap (key_with j) b

pub round_eq-true : (a b : RoundKey) → round_eq a b ≡ true → a ≡ b
round_eq-true a b h =
    let parts = and_parts (id_eq a.id b.id) (a.transport == b.transport) h in
    same_parts a.id b.id a.transport b.transport (id_eq-true a.id b.id parts.0) (eqb-true a.transport b.transport parts.1)

pub round_eq-refl : (a : RoundKey) → round_eq a a ≡ true
round_eq-refl a = and_from (id_eq a.id a.id) (a.transport == a.transport) (id_eq-refl a.id) (eq-eqb a.transport a.transport refl)
