-- What a tally counts.
use Rattle.std.specs.List.{list_all}
use Rattle.std.specs.Prelude.{◌&&◌, ◌++◌, ◌≡◌, ◌-◌, [], ◌^◌, Bool, false, is_none, List, min, not, true, ℕ, ◌∷◌}
use Rattle.q_model.specs.declared.entry.Entry.{Entry}
use Rattle.q_model.specs.declared.id.Id.{Id}
use Rattle.q_model.specs.PreemptingStarts.{child_of, ends_job, preempting_starts}
use Rattle.q_tallies.specs.Tallying.{Counted, counted}
use Rattle.q_tallies.specs.Ways.{capped_sum}

-- a tally before anything was counted
abbrev pub fresh : Counted
fresh = record { count = 0; over = false; ways = [] }

-- the tally behind these entries, by this way to add
abbrev pub counted_all : (ℕ → ℕ → ℕ) → Id → ℕ → List Entry → Counted → Counted
counted_all add own transport [] c = c
counted_all add own transport (e ∷ es) c = counted_all add own transport es (counted add own transport e c)

-- Of each job the count is that of its preempting starts, as far as 64 bits reach.
abbrev pub IsExact : Type 0
IsExact = (own : Id) (transport : ℕ) (es : List Entry) →
    (counted_all capped_sum own transport es fresh).count ≡ min (preempting_starts own transport es) (2 ^ 64 - 1)

-- the entry neither ends the job nor preempts it
abbrev pub leaves_job : Id → ℕ → Entry → Bool
leaves_job own transport e = not (ends_job own e) && is_none (child_of own transport e)

-- So it is of a tally that begins behind entries that leave the job alone.
abbrev pub IsExactLater : Type 0
IsExactLater = (own : Id) (transport : ℕ) (es fs : List Entry) → list_all (leaves_job own transport) es ≡ true →
    (counted_all capped_sum own transport fs fresh).count
    ≡ min (preempting_starts own transport (es ++ fs)) (2 ^ 64 - 1)
