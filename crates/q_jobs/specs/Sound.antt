-- What always holds of a line, and which ranks it shows.
use Rattle.std.specs.Prelude.{◌≡◌, get_or, List, map, ℕ}
use Rattle.q_keyed.specs.Numbered.{Items, Numbered}
use Rattle.q_jobs.specs.declared.job.Job.{Job}
use Rattle.q_ranks.specs.Ranking.{Ranking}

-- the numbers of the jobs in their order
abbrev pub numbers_of : List (Numbered Job) → List ℕ
numbers_of ks = map (λ k. k.number) ks

-- the ranks of these numbers
abbrev pub ranks_at : List ℕ → List ℕ → List ℕ
ranks_at ranks numbers = map (λ n. get_or ranks n 0) numbers

-- the numbers of the jobs, and no others, stand in the ranked order as their jobs do
pub record IsSound (jobs : Items Job) (ranked : Ranking) : Type 0 where
  pub same : ranked.order ≡ numbers_of jobs.items
  pub numbers : ranked.numbers ≡ jobs.room
