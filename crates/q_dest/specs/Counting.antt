-- The sites that are counted.
use Rattle.std.specs.Prelude.{◌≡◌, Bool, filter, if◌then◌else◌, length, List, ℕ}
use Rattle.q_dest.specs.declared.counting.Counts.{Counts}
use Rattle.q_dest.specs.declared.dest.Dest.{Dest}
use Rattle.q_dest.specs.Dests.{is_dead_waiting, is_remembered}

abbrev pub one_if : Bool → ℕ
one_if b = if b then 1 else 0

abbrev pub count_of : (Dest → Bool) → List Dest → ℕ
count_of test ds = length (filter test ds)

-- the counts are of these sites
pub record AreCounted (counts : Counts) (ds : List Dest) : Type 0 where
  pub remembered_is : counts.remembered ≡ count_of is_remembered ds
  pub dead_waiting_is : counts.dead_waiting ≡ count_of is_dead_waiting ds
