-- One step of a search for the least from the end of a list.
use Rattle.std.specs.Option.{option_map_or}
use Rattle.std.specs.Prelude.{Bool, if◌then◌else◌, Option, Some}

-- this one, where there is one, or the best behind it where that stands before it
abbrev pub best_with : {A : Type 0} → (A → A → Bool) → Option A → Option A → Option A
best_with before o best = option_map_or (λ x. Some (option_map_or (λ y. if before y x then y else x) best x)) o best

-- the same with an element, where it passes
abbrev pub prefer : {A : Type 0} → (A → Bool) → (A → A → Bool) → A → Option A → Option A
prefer passes before x best = if passes x then best_with before (Some x) best else best
