-- What always holds of a line, as its jobs change.
use Rattle.std.proofs.Common.{◌≡◌, ◌∙◌, ◌∷◌, ◌++◌, ◌<◌, [], ap, Bool, false, List, map, None, Some, sym, true, ℕ}
use Rattle.std.specs.List.{AllByRecursion}
use Rattle.std.specs.Prelude.{find}
use Rattle.q_chains.specs.Lists.{inserted, is_in, without}
use Rattle.q_keyed.specs.Numbered.{AreApart, first_such, has_number, inserted_at, Items, Numbered, put_at, values_of, without_number}
use Rattle.q_model.specs.declared.id.Id.{Id}
use Rattle.q_model.specs.Ids.{id_eq}
use Rattle.q_ranks.specs.Ranking.{Ranking}
use Rattle.q_jobs.specs.declared.job.Job.{Job}
use Rattle.q_jobs.specs.Jobs.{is_job_of, Jobs, rank_of}
use Rattle.q_jobs.specs.Sound.{IsSound, numbers_of}
use Rattle.q_jobs.proofs.NumberLaws.{free_number, number_below, number_there, numbers_inserted, numbers_put, numbers_without}
use Rattle.q_jobs.proofs.RankLaws.{KeepRanks, rank_in, rank_inserted, rank_more, rank_without, same_ranks}

-- a line of these jobs and ranks
pub line_is : (js ks : List Job) (room space : ℕ) (rs qs : List ℕ) → js ≡ ks → room ≡ space → rs ≡ qs →
    ◌≡◌ {A = Jobs} (record { jobs = js; room = room; ranks = rs }) (record { jobs = ks; room = space; ranks = qs })
line_is js ks room space rs qs jobs rooms ranks =
    ap (λ js. record { jobs = js; room = room; ranks = rs }) jobs ∙ ap (λ n. record { jobs = ks; room = n; ranks = rs }) rooms
    ∙ ap (λ rs. record { jobs = ks; room = space; ranks = rs }) ranks

module _ (jobs : Items Job) (ranked : Ranking) (sound : IsSound jobs ranked) where
  pub sound_put : (n : ℕ) (job : Job) → IsSound (record jobs { items = map (put_at n job) jobs.items }) ranked
  sound_put n job = record { same = sound.same ∙ sym (numbers_put n job jobs.items); numbers = sound.numbers }

  -- the job of a number goes
  module _ (n : ℕ) (left : Items Job) (rest : Ranking) (items : left ≡ record jobs { items = without_number n jobs.items }) (order : rest ≡ record ranked { order = without n ranked.order }) where
    pub sound_left : IsSound left rest
    sound_left = record {
      same =
          ap (λ (v : Ranking). v.order) order ∙ ap (without n) sound.same ∙ sym (numbers_without n jobs.items)
          ∙ sym (ap (λ (v : Items Job). numbers_of v.items) items);
      numbers = ap (λ (v : Ranking). v.numbers) order ∙ sound.numbers ∙ sym (ap (λ (v : Items Job). v.room) items);
    }

    pub kept_left : (id other : Id) → id_eq other id ≡ false → AreApart jobs.items → first_such (is_job_of id) jobs.items ≡ Some n → rank_in other rest.ranks left.items ≡ rank_in other ranked.ranks jobs.items
    kept_left id other differ apart found =
        ap (λ (v : Ranking). rank_in other v.ranks left.items) order
        ∙ ap (λ (v : Items Job). rank_in other ranked.ranks v.items) items
        ∙ rank_without id other differ ranked.ranks n jobs.items apart found

  pub sound_inserted : (at : ℕ) (new : Numbered Job) (next : Ranking) → AreApart jobs.items → next.order ≡ inserted new.number at ranked.order → next.numbers ≡ ranked.numbers →
      IsSound (record jobs { items = inserted_at at new jobs.items }) next
  sound_inserted at new next apart order numbers = record {
    same = order ∙ ap (inserted new.number at) sound.same ∙ sym (numbers_inserted at new jobs.items apart);
    numbers = numbers ∙ sound.numbers;
  }

  -- the number of a job stands in the ranked order
  pub found_in : (p : Job → Bool) (n : ℕ) → first_such p jobs.items ≡ Some n → is_in n ranked.order ≡ true
  found_in p n found = ap (is_in n) sound.same ∙ number_there p n jobs.items found

  pub found_below : (p : Job → Bool) (n : ℕ) → AllByRecursion (λ m. m < ranked.numbers) ranked.order → first_such p jobs.items ≡ Some n → n < ranked.numbers
  found_below p n below found = number_below ranked.numbers n ranked.order below (found_in p n found)

  pub free_in : (n : ℕ) → find (has_number n) jobs.items ≡ None → is_in n ranked.order ≡ false
  free_in n free = ap (is_in n) sound.same ∙ free_number n jobs.items free

-- All but a number that no job had have the ranks that they had.
module _ (id other : Id) (differ : id_eq other id ≡ false) (new : Numbered Job) (same : new.item.id ≡ id) (old ranks : List ℕ) (ks : List (Numbered Job)) (free : find (has_number new.number) ks ≡ None) (kept : KeepRanks new.number old ranks) where
  stay : rank_in other ranks ks ≡ rank_in other old ks
  stay = ap (rank_of other (values_of ks)) (same_ranks new.number old ranks (numbers_of ks) kept (free_number new.number ks free))

  pub kept_more : rank_in other ranks (ks ++ new ∷ []) ≡ rank_in other old ks
  kept_more = rank_more id other differ ranks new ks same ∙ stay

  pub kept_inserted : (at : ℕ) → rank_in other ranks (inserted_at at new ks) ≡ rank_in other old ks
  kept_inserted at = rank_inserted id other differ ranks at new ks same ∙ stay
