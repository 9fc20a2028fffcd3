-- The ranks of jobs by their numbers, and those that other jobs keep as one comes or goes.
use Rattle.std.proofs.Common.{◌≡◌, ◌∙◌, ◌∷◌, ◌++◌, ◌<◌, ◌≢◌, [], ap, Bool, cond, false, get_or, length, List, None, Option, option_map, refl, Some, suc, sym, true, ℕ}
use Rattle.std.proofs.lemmas.Bool.{eqb-false, eqb-true}
use Rattle.std.specs.List.{AllByRecursion}
use Rattle.std.specs.Prelude.{◌==◌, find, nat_eq, not}
use Rattle.q_chains.specs.Lists.{is_in}
use Rattle.q_keyed.specs.Numbered.{AreApart, first_such, has_number, inserted_at, Numbered, values_of, without_number}
use Rattle.q_model.proofs.IdLaws.{id_eq-true}
use Rattle.q_model.specs.declared.id.Id.{Id}
use Rattle.q_model.specs.Ids.{id_eq}
use Rattle.q_chains.proofs.Numbers.{flipped, or_parts}
use Rattle.q_ranks.specs.Ranking.{RiseAbove}
use Rattle.q_jobs.specs.declared.job.Job.{Job}
use Rattle.q_jobs.specs.Jobs.{is_job_of, rank_of, RiseFrom}
use Rattle.q_jobs.specs.Sound.{numbers_of, ranks_at}
use Rattle.q_jobs.proofs.LineWalks.{flipped as flipped_id}
use Rattle.q_jobs.proofs.NumberLaws.{free_number, number_there}

-- the rank of a message's job where these jobs have such ranks by number
abbrev pub rank_in : Id → List ℕ → List (Numbered Job) → Option ℕ
rank_in id ranks ks = rank_of id (values_of ks) (ranks_at ranks (numbers_of ks))

rank_step : (id : Id) (ranks : List ℕ) (k : Numbered Job) (ks : List (Numbered Job)) (t : Bool) → rank_in id ranks ks ≡ option_map (λ n. get_or ranks n 0) (first_such (is_job_of id) ks) →
    cond t (Some (get_or ranks k.number 0)) (rank_in id ranks ks) ≡ option_map (λ n. get_or ranks n 0) (option_map (λ (k : Numbered Job). k.number) (cond t (Some k) (find (λ k. is_job_of id k.item) ks)))
rank_step id ranks k ks true rest = refl
rank_step id ranks k ks false rest = rest

rank_is : (id : Id) (ranks : List ℕ) (ks : List (Numbered Job)) → rank_in id ranks ks ≡ option_map (λ n. get_or ranks n 0) (first_such (is_job_of id) ks)
rank_is id ranks [] = refl
rank_is id ranks (k ∷ ks) = rank_step id ranks k ks (id_eq k.item.id id) (rank_is id ranks ks)

-- it is that of the job's number
pub rank_found : (id : Id) (ranks : List ℕ) (ks : List (Numbered Job)) (o : Option ℕ) → first_such (is_job_of id) ks ≡ o → rank_in id ranks ks ≡ option_map (λ n. get_or ranks n 0) o
rank_found id ranks ks o found = rank_is id ranks ks ∙ ap (option_map (λ n. get_or ranks n 0)) found

pub as_many : (ranks : List ℕ) (ks : List (Numbered Job)) → length (ranks_at ranks (numbers_of ks)) ≡ length (values_of ks)
as_many ranks [] = refl
as_many ranks (k ∷ ks) = ap suc (as_many ranks ks)

-- ranks that rise along the numbers
pub rising : (low : ℕ) (ranks ns : List ℕ) → RiseAbove low ranks ns → RiseFrom low (ranks_at ranks ns)
rising low ranks [] rise = tt
rising low ranks (n ∷ ns) rise = (rise.0, rising (get_or ranks n 0) ranks ns rise.1)

pub all_below : (limit : ℕ) (ranks ns : List ℕ) → ((n : ℕ) → get_or ranks n 0 < limit) → AllByRecursion (λ r. r < limit) (ranks_at ranks ns)
all_below limit ranks [] low = tt
all_below limit ranks (n ∷ ns) low = (low n, all_below limit ranks ns low)

-- all but one number have the ranks that they had
abbrev pub KeepRanks : ℕ → List ℕ → List ℕ → Type 0
KeepRanks number old new = (n : ℕ) → n ≢ number → get_or new n 0 ≡ get_or old n 0

-- numbers among which that one isn't
pub same_ranks : (number : ℕ) (old new ns : List ℕ) → KeepRanks number old new → is_in number ns ≡ false → ranks_at new ns ≡ ranks_at old ns
same_ranks number old new [] kept free = refl
same_ranks number old new (n ∷ ns) kept free =
    let parts = or_parts (nat_eq number n) (is_in number ns) free in
    ap (λ r. r ∷ ranks_at new ns) (kept n (eqb-false n number (flipped n number ∙ parts.0)))
    ∙ ap (λ rs. get_or old n 0 ∷ rs) (same_ranks number old new ns kept parts.1)

-- Of another message than that of the job that comes or goes.
module _ (id other : Id) (differ : id_eq other id ≡ false) (ranks : List ℕ) where
  not_its : (job : Job) → job.id ≡ id → id_eq job.id other ≡ false
  not_its job same = flipped_id job.id other ∙ ap (id_eq other) same ∙ differ

  -- the rank of the first, or of one behind it
  abbrev either : Numbered Job → Option ℕ → Option ℕ
  either k found = cond (id_eq k.item.id other) (Some (get_or ranks k.number 0)) found

  pub rank_more : (new : Numbered Job) (ks : List (Numbered Job)) → new.item.id ≡ id → rank_in other ranks (ks ++ new ∷ []) ≡ rank_in other ranks ks
  rank_more new [] same = ap (λ t. cond t (Some (get_or ranks new.number 0)) None) (not_its new.item same)
  rank_more new (k ∷ ks) same = ap (either k) (rank_more new ks same)

  inserted_step : (at : ℕ) (new k : Numbered Job) (ks : List (Numbered Job)) (t : Bool) → new.item.id ≡ id → rank_in other ranks (inserted_at at new ks) ≡ rank_in other ranks ks →
      rank_in other ranks (cond t (new ∷ k ∷ ks) (k ∷ inserted_at at new ks)) ≡ rank_in other ranks (k ∷ ks)
  inserted_step at new k ks true same rest = ap (λ t. cond t (Some (get_or ranks new.number 0)) (rank_in other ranks (k ∷ ks))) (not_its new.item same)
  inserted_step at new k ks false same rest = ap (either k) rest

  pub rank_inserted : (at : ℕ) (new : Numbered Job) (ks : List (Numbered Job)) → new.item.id ≡ id → rank_in other ranks (inserted_at at new ks) ≡ rank_in other ranks ks
  rank_inserted at new [] same = refl
  rank_inserted at new (k ∷ ks) same = inserted_step at new k ks (k.number == at) same (rank_inserted at new ks same)

  -- just the message's job has the number
  abbrev AreOther : ℕ → List (Numbered Job) → Type 0
  AreOther n ks = AllByRecursion (λ (k : Numbered Job). k.number ≡ n → k.item.id ≡ id) ks

  without_step : (n : ℕ) (k : Numbered Job) (ks : List (Numbered Job)) (t : Bool) → (k.number == n) ≡ t → (k.number ≡ n → k.item.id ≡ id) → rank_in other ranks (without_number n ks) ≡ rank_in other ranks ks →
      rank_in other ranks (cond (not t) (k ∷ without_number n ks) (without_number n ks)) ≡ rank_in other ranks (k ∷ ks)
  without_step n k ks true e own rest =
      rest ∙ sym (ap (λ t. cond t (Some (get_or ranks k.number 0)) (rank_in other ranks ks)) (not_its k.item (own (eqb-true k.number n e))))
  without_step n k ks false e own rest = ap (either k) rest

  left_rank : (n : ℕ) (ks : List (Numbered Job)) → AreOther n ks → rank_in other ranks (without_number n ks) ≡ rank_in other ranks ks
  left_rank n [] own = refl
  left_rank n (k ∷ ks) own = without_step n k ks (k.number == n) refl own.0 (left_rank n ks own.1)

  none_own : (n : ℕ) (ks : List (Numbered Job)) → is_in n (numbers_of ks) ≡ false → AreOther n ks
  none_own n [] free = tt
  none_own n (k ∷ ks) free =
      let parts = or_parts (nat_eq n k.number) (is_in n (numbers_of ks)) free in
      ((λ e. absurd (eqb-false n k.number parts.0 (sym e))), none_own n ks parts.1)

  own_step : (n : ℕ) (k : Numbered Job) (ks : List (Numbered Job)) (t : Bool) → id_eq k.item.id id ≡ t → find (has_number k.number) ks ≡ None →
      option_map (λ (k : Numbered Job). k.number) (cond t (Some k) (find (λ k. is_job_of id k.item) ks)) ≡ Some n → (first_such (is_job_of id) ks ≡ Some n → AreOther n ks) → AreOther n (k ∷ ks)
  own_step n k ks true e apart h rest =
      let same : k.number ≡ n = cc in
      ((λ _. id_eq-true k.item.id id e), none_own n ks (ap (λ m. is_in m (numbers_of ks)) (sym same) ∙ free_number k.number ks apart))
  own_step n k ks false e apart h rest =
      let there = number_there (is_job_of id) n ks h in
      let free = free_number k.number ks apart in
      ((λ same. let here : is_in k.number (numbers_of ks) ≡ true = ap (λ m. is_in m (numbers_of ks)) same ∙ there in cc), rest h)

  own_number : (n : ℕ) (ks : List (Numbered Job)) → AreApart ks → first_such (is_job_of id) ks ≡ Some n → AreOther n ks
  own_number n [] apart h = cc
  own_number n (k ∷ ks) apart h = own_step n k ks (id_eq k.item.id id) refl apart.0 h (own_number n ks apart.1)

  pub rank_without : (n : ℕ) (ks : List (Numbered Job)) → AreApart ks → first_such (is_job_of id) ks ≡ Some n → rank_in other ranks (without_number n ks) ≡ rank_in other ranks ks
  rank_without n ks apart found = left_rank n ks (own_number n ks apart found)
