-- Where it is known what was touched, looking at that alone tidies all.
use Rattle.std.proofs.Common.{◌≡◌, ◌<◌, ℕ, ◌+◌, Bool, true, false, cond, List, [], ◌∷◌, filter, map, not, length, refl, sym, ap, ◌∙◌, arith, inl, inr, Some, get_or, suc, zero}
use Rattle.std.proofs.lemmas.Bool.{cases_Bool}
use Rattle.std.specs.Prelude.{◌||◌, slice_get}
use Rattle.q_core.proofs.ListLaws.{numbered_front}
use Rattle.q_core.specs.Tidied.{stays_among, tidied_jobs, tidied_line}
use Rattle.std.specs.List.{enumerate_from}
use Rattle.q_core.specs.Touched.{DoJobsStay, jobs_stay}
use Rattle.q_jobs.specs.declared.job.Job.{Job}
use Rattle.q_pool.specs.declared.slot.Slot.{Slot}
use Rattle.q_core.specs.declared.touched.Touched.TheVariants.{Nothing, One}
use Rattle.q_laws.proofs.Members.{IsIn, all_at}
use Rattle.q_model.proofs.IdLaws.{id_eq-true}
use Rattle.q_model.specs.Ids.{id_eq}
use Rattle.q_model.specs.declared.id.Id.{Id}
use Rattle.q_model.specs.declared.rows.Row.{Row}

filter_members : {X : Type 0} (p q : X → Bool) (xs : List X) → ((x : X) → IsIn x xs → p x ≡ q x) → filter p xs ≡ filter q xs
filter_members p q [] h = refl
filter_members p q (x ∷ xs) h = ap (λ b. cond b (x ∷ filter p xs) (filter p xs)) (h x (inl refl)) ∙ ap (λ ys. cond (q x) (x ∷ ys) ys) (filter_members p q xs (λ y k. h y (inr k)))

filter_pass : {X : Type 0} (q : X → Bool) (xs : List X) → ((x : X) → IsIn x xs → q x ≡ true) → filter q xs ≡ xs
filter_pass q [] h = refl
filter_pass q (x ∷ xs) h = ap (λ b. cond b (x ∷ filter q xs) (filter q xs)) (h x (inl refl)) ∙ ap (λ ys. x ∷ ys) (filter_pass q xs (λ y k. h y (inr k)))

tied : (t p : Bool) → t ≡ false → (t || p) ≡ true → p ≡ true
tied true p e h = absurd cc
tied false p e h = h

-- ---- jobs

pub jobs_whole : (a : List Slot) (w : List Row) (n : ℕ) (js : List Job) → jobs_stay Nothing a w n js ≡ true → tidied_jobs a w n js ≡ js
jobs_whole a w n js h = filter_pass (λ (j : Job). stays_among a w n j.id) js (λ j inside. all_at (λ (x : Job). stays_among a w n x.id) j js h inside)

lines_from : (a : List Slot) (w : List Row) (n : ℕ) (ls : List (List Job)) → ((k : ℕ) (js : List Job) → slice_get ls k ≡ Some js → tidied_jobs a w (n + k) js ≡ js) →
    map (tidied_line a w) (enumerate_from n ls) ≡ ls
lines_from a w n [] h = refl
lines_from a w n (js ∷ ls) h =
    let here : n ≡ n + 0 = omega arith in
    ap (λ x. x ∷ map (tidied_line a w) (enumerate_from (n + 1) ls)) (ap (λ k. tidied_jobs a w k js) here ∙ h 0 js refl)
    ∙ ap (λ xs. js ∷ xs) (lines_from a w (n + 1) ls (λ k ks e. let next : n + 1 + k ≡ n + suc k = omega arith in ap (λ i. tidied_jobs a w i ks) next ∙ h (suc k) ks e))

pub lines_whole : (a : List Slot) (w : List Row) (ls : List (List Job)) → DoJobsStay Nothing a w ls → map (tidied_line a w) (enumerate_from 0 ls) ≡ ls
lines_whole a w ls h = lines_from a w 0 ls (λ k js e. let same : 0 + k ≡ k = omega arith in ap (λ i. tidied_jobs a w i js) same ∙ jobs_whole a w k js (h k js e))

-- the message stays, and so do all
pub job_stays : (a : List Slot) (w : List Row) (n : ℕ) (id : Id) (js : List Job) → jobs_stay (One id) a w n js ≡ true → stays_among a w n id ≡ true → tidied_jobs a w n js ≡ js
job_stays a w n id js h stays = filter_pass (λ (j : Job). stays_among a w n j.id) js (λ j inside. elim (cases_Bool (id_eq j.id id)) [
  | inl same ↦ ap (stays_among a w n) (id_eq-true j.id id same) ∙ stays
  | inr other ↦ tied (id_eq j.id id) (stays_among a w n j.id) other (all_at (λ (x : Job). id_eq x.id id || stays_among a w n x.id) j js h inside)
])

-- it leaves, and no other does
pub job_leaves : (a : List Slot) (w : List Row) (n : ℕ) (id : Id) (js : List Job) → jobs_stay (One id) a w n js ≡ true → stays_among a w n id ≡ false →
    filter (λ (j : Job). not (id_eq j.id id)) js ≡ tidied_jobs a w n js
job_leaves a w n id js h leaves = filter_members (λ (j : Job). not (id_eq j.id id)) (λ (j : Job). stays_among a w n j.id) js (λ j inside. elim (cases_Bool (id_eq j.id id)) [
  | inl same ↦ ap not same ∙ sym (ap (stays_among a w n) (id_eq-true j.id id same) ∙ leaves)
  | inr other ↦ ap not other ∙ sym (tied (id_eq j.id id) (stays_among a w n j.id) other (all_at (λ (x : Job). id_eq x.id id || stays_among a w n x.id) j js h inside))
])

-- what a walk didn't come to yet is as it was
pub front_at : {X : Type 0} (f : (ℕ × X) → X) (n i : ℕ) (xs : List X) (x : X) → i < length xs → x ≡ get_or (numbered_front f n i xs) i x → slice_get xs i ≡ Some x
front_at f n i [] x h e = absurd (omega (arith, h))
front_at f n zero (y ∷ ys) x h e = ap Some (sym e)
front_at f n (suc i) (y ∷ ys) x h e = front_at f (n + 1) i ys x (omega (arith, h)) e
