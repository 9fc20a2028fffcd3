-- What the first name in boot says.
use Rattle.std.specs.Prelude.{◌<◌, ◌^◌, ◌≡◌, [], List, true, ℕ, ◌∷◌}
use Rattle.q_model.specs.IdTexts.{hex}
use Rattle.q_model.specs.Texts.{is_name}

-- the generation that the first name spells, 0 without one; any number where it spells none
abbrev pub IsFirstGeneration : List (List ℕ) → ℕ → Type 0
IsFirstGeneration [] generation = generation ≡ 0
IsFirstGeneration (name ∷ names) generation =
    (is_name name ≡ true) × ((g : ℕ) → g < 2 ^ 32 → hex 8 g ≡ name → generation ≡ g)
