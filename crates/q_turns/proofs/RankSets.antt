-- The ranks of peers, as the jobs of one line change.
use Rattle.std.proofs.Common.{◌≡◌, ◌≢◌, ◌∙◌, ◌∷◌, ◌<◌, [], ap, arith, Bool, cond, false, inl, inr, length, List, map, None, refl, set, Some, subst, suc, sym, true, zero, ℕ, ◌⊎◌}
use Rattle.std.proofs.lemmas.Bool.{both_ways, cases_eq, eq-eqb, eqb-true, false_from_ne_true}
use Rattle.std.specs.List.{list_any}
use Rattle.std.specs.Option.{is_some}
use Rattle.std.specs.Prelude.{◌==◌, ◌&&◌, find, option_and_then, slice_get}
use Rattle.q_jobs.proofs.LineRanks.{ranked_with_job}
use Rattle.q_jobs.specs.declared.job.Job.{Job}
use Rattle.q_jobs.specs.Jobs.{account_in, is_job_of, Jobs, moved_job, rank_of}
use Rattle.q_keyed.specs.Numbered.{item_at, Numbered, values_of}
use Rattle.q_model.proofs.EachLaws.{find-any}
use Rattle.q_model.proofs.IdLaws.{id_eq-true}
use Rattle.q_model.specs.declared.id.Id.{Id}
use Rattle.q_model.specs.Ids.{id_eq}
use Rattle.q_rounds.specs.declared.peer.Peer.{Peer}
use Rattle.q_turns.specs.Heading.{rank_at, rank_by, ranked_before, ranked_elsewhere}
use Rattle.q_turns.specs.Sound.{AreRanked, AreSound, jobs_of}
use Rattle.q_rounds.specs.Rounds.{is_peer_for}
use Rattle.q_turns.specs.Turns.{has_job, may_wait}
use Rattle.q_turns.proofs.Having.{have_at}
use Rattle.q_turns.proofs.HavingLines.{any_moved, may_to, other_id}
use Rattle.q_turns.proofs.Choosing.{any_peer}
use Rattle.q_turns.proofs.LaneLaws.{none_from}
use Rattle.q_turns.proofs.LineSets.{jobs_at}

get_set_own : (t : ℕ) (l l0 : Jobs) (ls : List Jobs) → slice_get ls t ≡ Some l0 → slice_get (set ls t l) t ≡ Some l
get_set_own t l l0 [] h = cc
get_set_own zero l l0 (x ∷ ls) h = refl
get_set_own (suc t) l l0 (x ∷ ls) h = get_set_own t l l0 ls h

get_set_other : (t s : ℕ) (l : Jobs) (ls : List Jobs) → s ≢ t → slice_get (set ls t l) s ≡ slice_get ls s
get_set_other t s l [] other = refl
get_set_other zero zero l (x ∷ ls) other = absurd (other refl)
get_set_other zero (suc s) l (x ∷ ls) other = refl
get_set_other (suc t) zero l (x ∷ ls) other = refl
get_set_other (suc t) (suc s) l (x ∷ ls) other = get_set_other t s l ls (λ same. other (ap suc same))

pub rank_there : (t : ℕ) (l : Jobs) (ls : List Jobs) (id : Id) → slice_get ls t ≡ Some l → rank_at ls t id ≡ rank_of id l.jobs l.ranks
rank_there t l ls id h = ap (option_and_then (λ (l : Jobs). rank_of id l.jobs l.ranks)) h

pub rank_set_own : (t : ℕ) (l l0 : Jobs) (ls : List Jobs) (id : Id) → slice_get ls t ≡ Some l0 → rank_at (set ls t l) t id ≡ rank_of id l.jobs l.ranks
rank_set_own t l l0 ls id h = rank_there t l (set ls t l) id (get_set_own t l l0 ls h)

pub rank_set_other : (t s : ℕ) (l : Jobs) (ls : List Jobs) (id : Id) → s ≢ t → rank_at (set ls t l) s id ≡ rank_at ls s id
rank_set_other t s l ls id other = ap (option_and_then (λ (l : Jobs). rank_of id l.jobs l.ranks)) (get_set_other t s l ls other)

pub ranked_set : (t : ℕ) (l : Jobs) (ls : List Jobs) → AreRanked ls → length l.ranks ≡ length l.jobs → AreRanked (set ls t l)
ranked_set t l [] are h = tt
ranked_set zero l (x ∷ ls) are h = (h, are.1)
ranked_set (suc t) l (x ∷ ls) are h = (are.0, ranked_set t l ls are.1 h)

pub ranked_at : (t : ℕ) (ls : List Jobs) (l : Jobs) → AreRanked ls → slice_get ls t ≡ Some l → length l.ranks ≡ length l.jobs
ranked_at t [] l are h = cc
ranked_at zero (x ∷ ls) l are h = let same : x ≡ l = cc in subst (λ (k : Jobs). length k.ranks ≡ length k.jobs) same are.0
ranked_at (suc t) (x ∷ ls) l are h = ranked_at t ls l are.1 h

-- a line that there is
pub line_there : (t : ℕ) (ls : List Jobs) → t < length ls → (l : Jobs) × (slice_get ls t ≡ Some l)
line_there t [] h = absurd (omega (arith, h))
line_there zero (x ∷ ls) h = (x, refl)
line_there (suc t) (x ∷ ls) h = line_there t ls (omega (arith, h))

count_jobs : (ls : List Jobs) → length (jobs_of ls) ≡ length ls
count_jobs [] = refl
count_jobs (l ∷ ls) = ap suc (count_jobs ls)

-- each peer of a transport with a line has a rank
pub peer_ranked : (lines : List Jobs) (ks : List (Numbered Peer)) (room : ℕ) → AreSound lines (values_of ks) room → (m : ℕ) (q : Peer) → item_at m ks ≡ Some q → q.site.transport < length lines → is_some (rank_by lines q) ≡ true
peer_ranked lines ks room sound m q there below =
    let t = q.site.transport in
    let it = line_there t lines below in
    let low : t < length (jobs_of lines) = omega (arith, below, count_jobs lines) in
    let has : has_job (jobs_of lines) t q.id ≡ true = may_to (jobs_of lines) t q.id (have_at (jobs_of lines) m q ks sound.jobs there).1 low in
    ap is_some (rank_there t it.0 lines q.id it.1)
    ∙ ranked_with_job q.id it.0.jobs it.0.ranks (ranked_at t lines it.0 sound.ranked it.1)
    ∙ find-any (is_job_of q.id) it.0.jobs
    ∙ sym (ap (list_any (is_job_of q.id)) (jobs_at t lines it.0 it.1))
    ∙ has

-- What becomes of ranks.
module _ (lines : List Jobs) (t : ℕ) (old new : Jobs) (there : slice_get lines t ≡ Some old) where
  -- the others keep theirs
  pub others_kept : (id : Id) (q : Peer) → ((other : Id) → id_eq other id ≡ false → rank_of other new.jobs new.ranks ≡ rank_of other old.jobs old.ranks) → (q.site.transport ≡ t → id_eq q.id id ≡ false) → rank_by (set lines t new) q ≡ rank_by lines q
  others_kept id q kept other = one (cases_eq q.site.transport t)
    where
      one : (q.site.transport ≡ t) ⊎ (q.site.transport ≢ t) → rank_by (set lines t new) q ≡ rank_by lines q
      one (inl same) =
          ap (λ n. rank_at (set lines t new) n q.id) same ∙ rank_set_own t new old lines q.id there ∙ kept q.id (other same)
          ∙ sym (ap (λ n. rank_at lines n q.id) same ∙ rank_there t old lines q.id there)
      one (inr differ) = rank_set_other t q.site.transport new lines q.id differ

  pub all_kept : (q : Peer) → ((other : Id) → rank_of other new.jobs new.ranks ≡ rank_of other old.jobs old.ranks) → rank_by (set lines t new) q ≡ rank_by lines q
  all_kept q kept = one (cases_eq q.site.transport t)
    where
      one : (q.site.transport ≡ t) ⊎ (q.site.transport ≢ t) → rank_by (set lines t new) q ≡ rank_by lines q
      one (inl same) =
          ap (λ n. rank_at (set lines t new) n q.id) same ∙ rank_set_own t new old lines q.id there ∙ kept q.id
          ∙ sym (ap (λ n. rank_at lines n q.id) same ∙ rank_there t old lines q.id there)
      one (inr differ) = rank_set_other t q.site.transport new lines q.id differ

  -- before one job got another rank
  pub before_kept : (id : Id) (from : ℕ) (q : Peer) → ((other : Id) → id_eq other id ≡ false → rank_of other new.jobs new.ranks ≡ rank_of other old.jobs old.ranks) → rank_at lines t id ≡ Some from → ranked_before id t from (set lines t new) q ≡ rank_by lines q
  before_kept id from q kept was = one (id_eq q.id id) (q.site.transport == t) refl refl
    where
      one : (a b : Bool) → id_eq q.id id ≡ a → (q.site.transport == t) ≡ b → cond (a && b) (Some from) (rank_by (set lines t new) q) ≡ rank_by lines q
      one true true e f = sym (ap (λ n. rank_at lines n q.id) (eqb-true q.site.transport t f) ∙ ap (rank_at lines t) (id_eq-true q.id id e) ∙ was)
      one true false e f = others_kept id q kept (λ same. absurd (both_ways (q.site.transport == t) f (eq-eqb q.site.transport t same)))
      one false b e f = others_kept id q kept (λ same. e)

  -- of other transports
  pub elsewhere_kept : (q : Peer) → ranked_elsewhere t (set lines t new) q ≡ cond (q.site.transport == t) None (rank_by lines q)
  elsewhere_kept q = one (q.site.transport == t) refl
    where
      one : (b : Bool) → (q.site.transport == t) ≡ b → cond b None (rank_by (set lines t new) q) ≡ cond b None (rank_by lines q)
      one true e = refl
      one false e = rank_set_other t q.site.transport new lines q.id (λ same. both_ways (q.site.transport == t) e (eq-eqb q.site.transport t same))

-- Another account changes no rank.
same_account : (job j : Job) (id : Id) (b : Bool) → id_eq j.id job.id ≡ b → id_eq (cond b job j).id id ≡ id_eq j.id id
same_account job j id true e = ap (λ i. id_eq i id) (sym (id_eq-true j.id job.id e))
same_account job j id false e = refl

pub rank_put : (job : Job) (id : Id) (js : List Job) (rs : List ℕ) → rank_of id (map (account_in job) js) rs ≡ rank_of id js rs
rank_put job id [] rs = refl
rank_put job id (j ∷ js) [] = refl
rank_put job id (j ∷ js) (r ∷ rs) =
    ap (λ b. cond b (Some r) (rank_of id (map (account_in job) js) rs)) (same_account job j id (id_eq j.id job.id) refl)
    ∙ ap (cond (id_eq j.id id) (Some r)) (rank_put job id js rs)

-- No peer is of a message without a job.
pub not_joined : (lines : List Jobs) (ks : List (Numbered Peer)) (room t : ℕ) (old : Jobs) (id : Id) → AreSound lines (values_of ks) room → slice_get lines t ≡ Some old → t < length (jobs_of lines) → find (is_job_of id) old.jobs ≡ None →
    (m : ℕ) (q : Peer) → item_at m ks ≡ Some q → q.site.transport ≡ t → id_eq q.id id ≡ false
not_joined lines ks room t old id sound there low absent m q h at =
    false_from_ne_true (id_eq q.id id) (λ same.
    let may = (have_at (jobs_of lines) m q ks sound.jobs h).1 in
    let has : has_job (jobs_of lines) t q.id ≡ true = may_to (jobs_of lines) t q.id (subst (λ n. may_wait (jobs_of lines) n q.id ≡ true) at may) low in
    let own : list_any (is_job_of id) old.jobs ≡ true = ap (list_any (is_job_of id)) (sym (jobs_at t lines old there)) ∙ ap (λ i. has_job (jobs_of lines) t i) (sym (id_eq-true q.id id same)) ∙ has in
    both_ways (list_any (is_job_of id) old.jobs) (sym (find-any (is_job_of id) old.jobs) ∙ ap is_some absent) own)

-- nor one that isn't there at the transport
pub not_there : (ks : List (Numbered Peer)) (t : ℕ) (id : Id) → list_any (is_peer_for id t) (values_of ks) ≡ false → (m : ℕ) (q : Peer) → item_at m ks ≡ Some q → q.site.transport ≡ t → id_eq q.id id ≡ false
not_there ks t id done m q h at =
    other_id id t q (false_from_ne_true (is_peer_for id t q) (λ own. both_ways (list_any (is_peer_for id t) (values_of ks)) done (any_peer (is_peer_for id t) m q ks h own))) at

-- A job that goes before another has a rank again.
module _ (lines : List Jobs) (t : ℕ) (old new : Jobs) (there : slice_get lines t ≡ Some old) (each_old : length old.ranks ≡ length old.jobs) (each_new : length new.ranks ≡ length new.jobs) (child parent : Id) where
  pub moved_ranked : (from : ℕ) → new.jobs ≡ moved_job child parent old.jobs → id_eq child parent ≡ false → list_any (is_job_of parent) old.jobs ≡ true → rank_at lines t child ≡ Some from → is_some (rank_at (set lines t new) t child) ≡ true
  moved_ranked from is differ has rank =
      ap is_some (rank_set_own t new old lines child there) ∙ ranked_with_job child new.jobs new.ranks each_new ∙ find-any (is_job_of child) new.jobs
      ∙ ap (list_any (is_job_of child)) is ∙ any_moved (is_job_of child) child parent old.jobs differ has
      ∙ sym (find-any (is_job_of child) old.jobs) ∙ sym (ranked_with_job child old.jobs old.ranks each_old) ∙ sym (ap is_some (rank_there t old lines child there)) ∙ ap is_some rank

  pub unranked_absent : rank_at lines t child ≡ None → find (is_job_of child) old.jobs ≡ None
  unranked_absent none =
      none_from (find (is_job_of child) old.jobs) (sym (ranked_with_job child old.jobs old.ranks each_old) ∙ sym (ap is_some (rank_there t old lines child there)) ∙ ap is_some none)
