-- What always holds of the table of sites.
use Rattle.std.specs.Prelude.{◌≡◌, ◌==◌, map, ℕ}
use Rattle.q_dest.specs.declared.dest.Dest.{Dest}
use Rattle.q_dest.specs.Dests.{AreBounded}
use Rattle.q_dest.specs.Ranks.{dead_rank, remembered_rank, time_rank}
use Rattle.q_keyed.specs.Numbered.{Items, Numbered, values_of}
use Rattle.q_register.specs.Members.{changed, Members}
use Rattle.q_register.specs.declared.member.Member.{Member}

abbrev pub Numbers : Type 0
Numbers = Members ℕ (Unit {0})

-- the number of a site, at the site's rank
abbrev pub ranked_by : (Dest → ℕ) → Numbered Dest → Member ℕ (Unit {0})
ranked_by rank k = record { key = k.number; value = tt; rank = rank k.item }

-- the numbers of the sites in one order with them
abbrev pub numbers_by : (Dest → ℕ) → Items Dest → Numbers
numbers_by rank dests = record { items = map (ranked_by rank) dests.items; room = dests.room }

-- with this rank of a number
abbrev pub ranked_at : ℕ → ℕ → Numbers → Numbers
ranked_at number rank ns =
    record ns { items = map (changed (λ a b. a == b) number tt rank) ns.items }

-- the three registers have the numbers of the sites
pub record IsSound (dests : Items Dest) (times dead remembered : Numbers) : Type 0 where
  pub times_are : times ≡ numbers_by time_rank dests
  pub dead_are : dead ≡ numbers_by dead_rank dests
  pub remembered_are : remembered ≡ numbers_by remembered_rank dests
  pub bounded : AreBounded (values_of dests.items)
