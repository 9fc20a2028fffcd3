-- The ranks of sites, by which the first of some is found.
use Rattle.std.specs.Prelude.{if◌then◌else◌, min, None, Option, Some, ℕ}
use Rattle.q_dest.specs.declared.dest.Dest.{Dest}
use Rattle.q_dest.specs.Dests.{is_dead, is_remembered}
use Rattle.q_model.specs.declared.rows.Health.{Health}
use Rattle.q_model.specs.declared.rows.Health.TheVariants as healths
use Rattle.q_register.specs.Members.{no_rank}

-- the moment until which it is dead
abbrev pub time_rank_in : Health → ℕ
time_rank_in healths.Alive = no_rank
time_rank_in (healths.DeadUntil until) = until

-- the moment up to which it rests
abbrev pub rest_rank_in : Option ℕ → ℕ
rest_rank_in None = no_rank
rest_rank_in (Some moment) = moment

-- the earlier of the two
abbrev pub time_rank : Dest → ℕ
time_rank d = min (time_rank_in d.known.health) (rest_rank_in d.known.rest)

-- 0 where it is dead
abbrev pub dead_rank : Dest → ℕ
dead_rank d = if is_dead d then 0 else no_rank

-- 0 where it is remembered
abbrev pub remembered_rank : Dest → ℕ
remembered_rank d = if is_remembered d then 0 else no_rank
