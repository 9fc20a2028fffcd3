-- The kinds of records, and the lengths that their bodies can have.
use Rattle.std.specs.List.{list_any}
use Rattle.std.specs.Prelude.{◌&&◌, ◌==◌, Bool, codes, if◌then◌else◌, nat_le, ◌||◌, ℕ}

-- counts, arrival, sender, original address, recipient, content and end
abbrev pub is_kind : ℕ → Bool
is_kind kind = list_any (λ k. kind == k) (codes "CTSORNE")

-- `C` 12, `T` 8, `S` and `O` 0 or 3 to 254, `R` 4 to 255, `N` at most 40,000,000, `E` 0
abbrev pub is_length : ℕ → ℕ → Bool
is_length kind n =
    if kind == 67 then n == 12
    else if kind == 84 then n == 8
    else if (kind == 83) || (kind == 79) then (n == 0) || (nat_le 3 n && nat_le n 254)
    else if kind == 82 then nat_le 4 n && nat_le n 255
    else if kind == 78 then nat_le n 40000000
    else (kind == 69) && (n == 0)
