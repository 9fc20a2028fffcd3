-- Jobs of other messages stay fresh or not, as a line changes.
use Rattle.std.proofs.Common.{◌≡◌, ◌∙◌, ◌∷◌, ◌++◌, [], ap, Bool, cond, false, inl, inr, List, None, not, Option, option_map, refl, Some, suc, sym, true, zero, ℕ, ◌⊎◌}
use Rattle.std.proofs.lemmas.Bool.{cases_Bool}
use Rattle.std.specs.Option.{option_map_or}
use Rattle.std.specs.Prelude.{◌&&◌, ◌==◌, filter, find, map}
use Rattle.q_jobs.specs.declared.job.Job.{Job}
use Rattle.q_jobs.specs.Jobs.{account_in, fresh_job, is_job_of, is_job_of_another, moved_job, put_job}
use Rattle.q_model.proofs.EachLaws.{find-passes}
use Rattle.q_model.proofs.IdLaws.{id_eq-true}
use Rattle.q_model.specs.declared.id.Id.{Id}
use Rattle.q_model.specs.Ids.{id_eq}
use Rattle.q_model.specs.Lists.{drop_first}
use Rattle.q_turns.specs.Turns.{with_line}
use Rattle.q_rounds.specs.declared.peer.Peer.{Peer}
use Rattle.q_rounds.specs.Rounds.{is_peer}
use Rattle.q_turns.specs.declared.filing.Facts.{Facts}
use Rattle.q_turns.specs.Filing.{candidate_at, candidate_of, is_fresh}
use Rattle.std.specs.List.{list_any}
use Rattle.q_model.specs.Values.{Site}

-- the message has a job among these that began nothing
abbrev fresh_in : List Job → Id → Bool
fresh_in jobs i = option_map_or (λ (j : Job). j.starts == 0) (find (is_job_of i) jobs) false

-- a change of a line that leaves the message's job
pub fresh_same : (i : Id) (g : List Job → List Job) → ((js : List Job) → find (is_job_of i) (g js) ≡ find (is_job_of i) js) → (t u : ℕ) (ls : List (List Job)) → is_fresh (with_line t g ls) u i ≡ is_fresh ls u i
fresh_same i g same t u [] = refl
fresh_same i g same zero zero (js ∷ ls) = ap (λ o. option_map_or (λ (j : Job). j.starts == 0) o false) (same js)
fresh_same i g same zero (suc u) (js ∷ ls) = refl
fresh_same i g same (suc t) zero (js ∷ ls) = refl
fresh_same i g same (suc t) (suc u) (js ∷ ls) = fresh_same i g same t u ls

module _ (id i : Id) (other : id_eq id i ≡ false) where
  -- it joins the line
  pub find_joined : (js : List Job) → find (is_job_of i) (js ++ fresh_job id ∷ []) ≡ find (is_job_of i) js
  find_joined [] = ap (λ b. cond b (Some (fresh_job id)) None) other
  find_joined (j ∷ js) = ap (cond (is_job_of i j) (Some j)) (find_joined js)

  left_step : (j : Job) (js : List Job) (b : Bool) → id_eq j.id id ≡ b → find (is_job_of i) (cond (not b) (j ∷ js) js) ≡ cond (is_job_of i j) (Some j) (find (is_job_of i) js)
  left_step j js true is = sym (ap (λ c. cond c (Some j) (find (is_job_of i) js)) (ap (λ x. id_eq x i) (id_eq-true j.id id is) ∙ other))
  left_step j js false is = refl

  -- it leaves it
  pub find_left : (js : List Job) → find (is_job_of i) (filter (is_job_of_another id) js) ≡ find (is_job_of i) js
  find_left [] = refl
  find_left (j ∷ js) = left_step j (filter (is_job_of_another id) js) (id_eq j.id id) refl ∙ ap (cond (is_job_of i j) (Some j)) (find_left js)

  dropped_step : (j : Job) (js ds : List Job) (b : Bool) → id_eq j.id id ≡ b → find (is_job_of i) ds ≡ find (is_job_of i) js → find (is_job_of i) (cond b js (j ∷ ds)) ≡ find (is_job_of i) (j ∷ js)
  dropped_step j js ds true is rest = sym (ap (λ c. cond c (Some j) (find (is_job_of i) js)) (ap (λ x. id_eq x i) (id_eq-true j.id id is) ∙ other))
  dropped_step j js ds false is rest = ap (cond (is_job_of i j) (Some j)) rest

  find_dropped : (js : List Job) → find (is_job_of i) (drop_first (λ j. id_eq j.id id) js) ≡ find (is_job_of i) js
  find_dropped [] = refl
  find_dropped (j ∷ js) = dropped_step j js (drop_first (λ j. id_eq j.id id) js) (id_eq j.id id) refl (find_dropped js)

  module _ (job : Job) (own : job.id ≡ id) where
    not_own : is_job_of i job ≡ false
    not_own = ap (λ x. id_eq x i) own ∙ other

    put_step : (parent : Id) (j : Job) (js ps : List Job) (b : Bool) → find (is_job_of i) ps ≡ find (is_job_of i) js → find (is_job_of i) (cond b (job ∷ j ∷ js) (j ∷ ps)) ≡ find (is_job_of i) (j ∷ js)
    put_step parent j js ps true rest = ap (λ c. cond c (Some job) (find (is_job_of i) (j ∷ js))) not_own
    put_step parent j js ps false rest = ap (cond (is_job_of i j) (Some j)) rest

    find_put : (parent : Id) (js : List Job) → find (is_job_of i) (put_job job parent js) ≡ find (is_job_of i) js
    find_put parent [] = refl
    find_put parent (j ∷ js) = put_step parent j js (put_job job parent js) (id_eq j.id parent) (find_put parent js)

    account_step : (j : Job) (o : Option Job) (b : Bool) → id_eq j.id id ≡ b → cond (is_job_of i (cond b job j)) (Some (cond b job j)) o ≡ cond (is_job_of i j) (Some j) o
    account_step j o true is = ap (λ c. cond c (Some job) o) not_own ∙ sym (ap (λ c. cond c (Some j) o) (ap (λ x. id_eq x i) (id_eq-true j.id id is) ∙ other))
    account_step j o false is = refl

    pub find_account : (js : List Job) → find (is_job_of i) (map (account_in job) js) ≡ find (is_job_of i) js
    find_account [] = refl
    find_account (j ∷ js) =
        account_step j (find (is_job_of i) (map (account_in job) js)) (id_eq j.id job.id) (ap (id_eq j.id) (sym own)) ∙ ap (cond (is_job_of i j) (Some j)) (find_account js)

  moved_step : (parent : Id) (js : List Job) (o : Option Job) → find (is_job_of id) js ≡ o → find (is_job_of i) (option_map_or (λ job. put_job job parent (drop_first (λ j. id_eq j.id id) js)) o js) ≡ find (is_job_of i) js
  moved_step parent js None is = refl
  moved_step parent js (Some job) is =
      find_put job (id_eq-true job.id id (find-passes (is_job_of id) js job is)) parent (drop_first (λ j. id_eq j.id id) js) ∙ find_dropped js

  -- it goes before another
  pub find_moved : (parent : Id) (js : List Job) → find (is_job_of i) (moved_job id parent js) ≡ find (is_job_of i) js
  find_moved parent js = moved_step parent js (find (is_job_of id) js) refl

-- Another account of the message.
module _ (job : Job) (i : Id) where
  own_step : (j : Job) (js : List Job) (o : Option Job) (b : Bool) → id_eq j.id job.id ≡ b → id_eq job.id job.id ≡ true → o ≡ option_map (λ (k : Job). job) (find (is_job_of job.id) js) →
      cond (is_job_of job.id (cond b job j)) (Some (cond b job j)) o ≡ option_map (λ (k : Job). job) (cond b (Some j) (find (is_job_of job.id) js))
  own_step j js o true is self rest = ap (λ c. cond c (Some job) o) self
  own_step j js o false is self rest = ap (λ c. cond c (Some j) o) is ∙ rest

  find_own : id_eq job.id job.id ≡ true → (js : List Job) → find (is_job_of job.id) (map (account_in job) js) ≡ option_map (λ (k : Job). job) (find (is_job_of job.id) js)
  find_own self [] = refl
  find_own self (j ∷ js) = own_step j js (find (is_job_of job.id) (map (account_in job) js)) (id_eq j.id job.id) refl self (find_own self js)

  none_fresh : (o : Option Job) → (job.starts == 0) ≡ false → option_map_or (λ (j : Job). j.starts == 0) (option_map (λ (k : Job). job) o) false ≡ false
  none_fresh None h = refl
  none_fresh (Some k) h = h

  account_fresh : (js : List Job) → (id_eq job.id i ≡ true) ⊎ (id_eq job.id i ≡ false) → id_eq job.id job.id ≡ true → (job.starts == 0) ≡ false → fresh_in js job.id ≡ false → fresh_in (map (account_in job) js) i ≡ fresh_in js i
  account_fresh js (inl same) self some was =
      let its = id_eq-true job.id i same in
      ap (fresh_in (map (account_in job) js)) (sym its)
      ∙ ap (λ o. option_map_or (λ (j : Job). j.starts == 0) o false) (find_own self js) ∙ none_fresh (find (is_job_of job.id) js) some
      ∙ sym was ∙ ap (fresh_in js) its
  account_fresh js (inr other) self some was = ap (λ o. option_map_or (λ (j : Job). j.starts == 0) o false) (find_account job.id i other job refl js)

  -- an account in which something began, in the place of one that wasn't fresh
  pub fresh_account : id_eq job.id job.id ≡ true → (job.starts == 0) ≡ false → (t u : ℕ) (ls : List (List Job)) → is_fresh ls t job.id ≡ false → is_fresh (with_line t (map (account_in job)) ls) u i ≡ is_fresh ls u i
  fresh_account self some t u [] was = refl
  fresh_account self some zero zero (js ∷ ls) was = account_fresh js (cases_Bool (id_eq job.id i)) self some was
  fresh_account self some zero (suc u) (js ∷ ls) was = refl
  fresh_account self some (suc t) zero (js ∷ ls) was = refl
  fresh_account self some (suc t) (suc u) (js ∷ ls) was = fresh_account self some t u ls was

-- the candidate of a job that is as fresh as it was
pub candidate_lined : (ls new : List (List Job)) (ps : List Peer) (facts : Option Facts) (i : Id) (s : Site) → is_fresh new s.transport i ≡ is_fresh ls s.transport i → candidate_at new ps facts i s ≡ candidate_at ls ps facts i s
candidate_lined ls new ps facts i s same = ap (λ f. cond (list_any (is_peer i s) ps && f) (option_map (candidate_of ps i s) facts) None) same
