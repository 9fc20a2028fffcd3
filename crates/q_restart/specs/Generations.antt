-- Area boot: its one file has the last generation as its name.
use Rattle.std.specs.Prelude.{◌&&◌, ◌^◌, [], bytes_eq, if◌then◌else◌, List, nat_lt, None, Option, Some, unwrap_or, ℕ, ◌∷◌}
use Rattle.std.specs.Str.Parse.{digits_value}
use Rattle.q_model.specs.IdTexts.{hex}

-- the generation that a name spells: eight hexadecimal digits, from 1 to 2^32 - 1
abbrev pub generation_of : List ℕ → Option ℕ
generation_of name =
    let number = digits_value 16 name in
    if nat_lt 0 number && nat_lt number (2 ^ 32) && bytes_eq name (hex 8 number)
    then Some number
    else None

-- the last generation that the names of boot tell; 0 before the first
abbrev pub boot_generation : List (List ℕ) → ℕ
boot_generation [] = 0
boot_generation (name ∷ names) = unwrap_or (generation_of name) 0
