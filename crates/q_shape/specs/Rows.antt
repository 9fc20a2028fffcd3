-- The rows of a table that is being filled.
use Rattle.std.specs.Borrow.{Bor}
use Rattle.std.specs.declared.cmp.Reverse.{Reverse}
use Rattle.std.specs.List.Sorted.{IsPermutation, IsSorted}
use Rattle.std.specs.Map.{keys_of, lookup}
use Rattle.std.specs.Prelude.{◌≡◌, bytes_eq, List, map, unwrap_or, Vec, ℕ}
use Rattle.q_shape.specs.declared.numbers.Numbers.{Numbers}
use Rattle.q_shape.specs.declared.options.ShapeOptions.{ShapeOptions}
use Rattle.q_shape.specs.declared.age_table.AgeTable.{AgeTable}
use Rattle.q_shape.specs.Buckets.{IsShape}
use Rattle.q_shape.specs.Counted.{AreNumbers, no_numbers}
use Rattle.q_shape.specs.Counts.{Count, domains, of_domain}
use Rattle.q_shape.specs.Tables.{rank_cmp}

-- the numbers of a name
abbrev pub numbers_at : {A : Type 0} → List (Vec ℕ A × Numbers) → List ℕ → Numbers
numbers_at rows name = unwrap_or (lookup (λ key. bytes_eq name key.items) rows) no_numbers

-- the names of the rows
abbrev pub names_of : {A : Type 0} → List (Vec ℕ A × Numbers) → List (List ℕ)
names_of rows = map (λ key. key.items) (keys_of rows)

-- the table has counted this, and nothing else
pub record HasCounted (o : ShapeOptions) (cs : List Count) (t : AgeTable) : Type 0 where
  pub options : t.options ≡ o
  pub shape : IsShape o
  pub all : AreNumbers o t.all cs
  pub names : names_of t.rows.entries ≡ domains cs
  pub rows : (name : List ℕ) → AreNumbers o (numbers_at t.rows.entries name) (of_domain name cs)

-- how many are of a name, and the name
abbrev pub rank_at : {A : Type 0} → List (Vec ℕ A × Numbers) → List ℕ → ℕ × List ℕ
rank_at rows name = ((numbers_at rows name).total, name)

-- a rank as the code has it
abbrev pub rank_seen : Reverse ℕ × Bor (List ℕ) → ℕ × List ℕ
rank_seen r = (r.0.0, r.1.now)

-- the ranks of all rows, in order
pub record AreRanks {A : Type 0} (rows : List (Vec ℕ A × Numbers)) (ranks : List (ℕ × List ℕ)) : Type 0 where
  pub each_once : IsPermutation (map (rank_at rows) (names_of rows)) ranks
  pub in_order : IsSorted rank_cmp ranks
