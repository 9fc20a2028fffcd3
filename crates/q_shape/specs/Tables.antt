-- The table of ages (QSHAPE_README): a line for all, and one for each domain.
use Rattle.std.specs.Cmp.Lexicographic.{slice_cmp}
use Rattle.std.specs.List.{range_with_len}
use Rattle.std.specs.List.Sorted.{IsPermutation, IsSorted}
use Rattle.std.specs.Ordering.{nat_cmp, ordering_then}
use Rattle.std.specs.declared.cmp.Ordering.{Ordering}
use Rattle.std.specs.Prelude.{◌++◌, ◌-◌, ◌≡◌, [], codes, decimal, flat_map, length, List, map, replicate, ℕ}
use Rattle.q_model.specs.TextParts.{text_line}
use Rattle.q_shape.specs.declared.options.ShapeOptions.{ShapeOptions}
use Rattle.q_shape.specs.Buckets.{limit_of}
use Rattle.q_shape.specs.Counts.{Count, domains, in_bucket, of_domain, total}

-- a text, set right in so many places; a longer one is whole
abbrev pub right : ℕ → List ℕ → List ℕ
right places text = replicate (places - length text) 32 ++ text

-- a number in its column
abbrev pub cell : ℕ → List ℕ
cell n = right 6 (decimal n)

-- the limits of all buckets but the last
abbrev pub limit_cells : ShapeOptions → List ℕ
limit_cells o = flat_map (λ i. cell (limit_of o i)) (range_with_len 0 (o.buckets - 1))

-- the last bucket is headed by the limit before it
abbrev pub last_cell : ShapeOptions → List ℕ
last_cell o = right 6 (decimal (limit_of o (o.buckets - 2)) ++ codes "+")

abbrev pub head_line : ShapeOptions → List ℕ
head_line o = text_line (right 24 [] ++ right 6 (codes "T") ++ limit_cells o ++ last_cell o)

-- how many there are in each bucket
abbrev pub bucket_cells : ShapeOptions → List Count → List ℕ
bucket_cells o cs = flat_map (λ i. cell (total (in_bucket o i cs))) (range_with_len 0 o.buckets)

-- how many there are, and how many in each bucket
abbrev pub row_line : ShapeOptions → List ℕ → List Count → List ℕ
row_line o name cs = text_line (right 24 name ++ cell (total cs) ++ bucket_cells o cs)

-- how many are of a domain, and its name
abbrev pub rank_of : List Count → List ℕ → ℕ × List ℕ
rank_of cs name = (total (of_domain name cs), name)

-- greater numbers first, and equal ones by the bytes of the names
abbrev pub rank_cmp : ℕ × List ℕ → ℕ × List ℕ → Ordering
rank_cmp a b = ordering_then (nat_cmp b.0 a.0) (slice_cmp nat_cmp a.1 b.1)

-- the lines of domains
abbrev pub rank_lines : ShapeOptions → List Count → List (ℕ × List ℕ) → List ℕ
rank_lines o cs ranks = flat_map (λ r. row_line o r.1 (of_domain r.1 cs)) ranks

-- the table: the heads, all, and each domain
pub record IsTable (o : ShapeOptions) (cs : List Count) (text : List ℕ) : Type 0 where
  pub ranks : List (ℕ × List ℕ)
  pub each_once : IsPermutation (map (rank_of cs) (domains cs)) ranks
  pub in_order : IsSorted rank_cmp ranks
  pub written : text ≡ head_line o ++ row_line o (codes "TOTAL") cs ++ rank_lines o cs ranks
