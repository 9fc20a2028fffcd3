-- The texts of ids: the names of files, and the ids in a trace.
use Rattle.std.specs.Prelude.{◌%◌, ◌+◌, ◌++◌, ◌/◌, ◌<◌, [], ◌^◌, if◌then◌else◌, List, nat_lt, suc, zero, ℕ, ◌∷◌, ◌≤◌}
use Rattle.q_model.specs.declared.id.Id.{Id}

-- the digit of a number below 16, in lower case
abbrev pub hex_digit : ℕ → ℕ
hex_digit d = if nat_lt d 10 then 48 + d else 87 + d

-- the last n hexadecimal digits of a number
unfoldable pub hex : ℕ → ℕ → List ℕ
hex zero x = []
hex (suc n) x = hex n (x / 16) ++ hex_digit (x % 16) ∷ []

-- the generation, a dash, the serial, and `b` for a bounce
abbrev pub id_text : Id → List ℕ
id_text a = hex 8 a.generation ++ 45 ∷ hex 8 a.serial ++ (if a.bounce then 98 ∷ [] else [])

-- the last n decimal digits of a number
unfoldable pub decimals : ℕ → ℕ → List ℕ
decimals zero x = []
decimals (suc n) x = decimals n (x / 10) ++ (48 + x % 10) ∷ []

-- the name of a file in deferred: the due time in 12 digits, a dash, and the id
abbrev pub due_text : ℕ → Id → List ℕ
due_text due id = decimals 12 due ++ 45 ∷ id_text id

-- an id that a file may be named by: both numbers are from 1 to 2^32 - 1
pub record IsId (id : Id) : Type 0 where
  pub generation : 1 ≤ id.generation
  pub generation_fits : id.generation < 2 ^ 32
  pub serial : 1 ≤ id.serial
  pub serial_fits : id.serial < 2 ^ 32
