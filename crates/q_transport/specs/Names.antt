-- The names of transports, and their numbers.
use Rattle.std.specs.List.{list_all}
use Rattle.std.specs.Prelude.{◌++◌, ◌==◌, ◌≡◌, ◌<◌, [], bytes_eq, codes, if◌then◌else◌, length, List, position, slice_get, true, unwrap_or, ℕ, ◌∷◌}
use Rattle.q_transport.specs.Texts.{is_transport}

-- the number of a name: its place, or the next number where it is new
abbrev pub number_of : List (List ℕ) → List ℕ → ℕ
number_of names name = unwrap_or (position (λ other. bytes_eq other name) names) (length names)

-- the name of this number
abbrev pub name_of_number : List (List ℕ) → ℕ → List ℕ
name_of_number names n = unwrap_or (slice_get names n) []

-- the names with this one
abbrev pub with_name : List (List ℕ) → List ℕ → List (List ℕ)
with_name names name = if number_of names name == length names then names ++ name ∷ [] else names

-- each has the form of a transport's name, and is the first of its name, so that no two are the same
pub record AreTransportNames (names : List (List ℕ)) : Type 0 where
  pub forms : list_all is_transport names ≡ true
  pub numbers : (n : ℕ) → n < length names → number_of names (name_of_number names n) ≡ n

-- the transport of addresses that no entry routes (transport(5))
abbrev pub smtp : List ℕ
smtp = codes "smtp"
