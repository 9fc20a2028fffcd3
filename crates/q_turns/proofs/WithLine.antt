-- One line that is changed among all.
use Rattle.std.proofs.Common.{◌≡◌, ◌∙◌, ◌+◌, ◌<◌, ◌≤◌, ◌∷◌, [], ap, arith, Bool, cond, false, length, List, map, refl, Some, suc, sym, true, zero, ℕ}
use Rattle.std.proofs.lemmas.Grind.{common_steps}
use Rattle.std.specs.List.{enumerate_from, list_any}
use Rattle.std.specs.Prelude.{◌==◌, ◌||◌, find, slice_get}
use Rattle.q_jobs.specs.declared.job.Job.{Job}
use Rattle.q_jobs.specs.Jobs.{AreOfOthers, changed_job, is_job_of}
use Rattle.q_model.specs.declared.id.Id.{Id}
use Rattle.q_model.specs.Ids.{id_eq}
use Rattle.q_turns.specs.Turns.{AreLinesApart, has_job, line_at, with_line}

pub length_with : (t : ℕ) (g : List Job → List Job) (ls : List (List Job)) → length (with_line t g ls) ≡ length ls
length_with t g [] = refl
length_with zero g (js ∷ ls) = refl
length_with (suc t) g (js ∷ ls) = ap suc (length_with t g ls)

pub line_with : (t : ℕ) (g : List Job → List Job) (ls : List (List Job)) → t < length ls → line_at t (with_line t g ls) ≡ g (line_at t ls)
line_with t g [] h = absurd (omega (arith, h))
line_with zero g (js ∷ ls) h = refl
line_with (suc t) g (js ∷ ls) h = line_with t g ls (omega (arith, h))

-- where both make the same of it
pub with_both : (t : ℕ) (g h : List Job → List Job) (ls : List (List Job)) → g (line_at t ls) ≡ h (line_at t ls) → with_line t g ls ≡ with_line t h ls
with_both t g h [] e = refl
with_both zero g h (js ∷ ls) e = ap (λ ks. ks ∷ ls) e
with_both (suc t) g h (js ∷ ls) e = ap (λ ks. js ∷ ks) (with_both t g h ls e)

with_whole : (t : ℕ) (ls : List (List Job)) → with_line t (λ js. js) ls ≡ ls
with_whole t [] = refl
with_whole zero (js ∷ ls) = refl
with_whole (suc t) (js ∷ ls) = ap (λ ks. js ∷ ks) (with_whole t ls)

-- where it stays
pub with_same : (t : ℕ) (g : List Job → List Job) (ls : List (List Job)) → g (line_at t ls) ≡ line_at t ls → with_line t g ls ≡ ls
with_same t g ls e = with_both t g (λ js. js) ls e ∙ with_whole t ls

-- one change behind another
pub with_twice : (t : ℕ) (g h : List Job → List Job) (ls : List (List Job)) → with_line t g (with_line t h ls) ≡ with_line t (λ js. g (h js)) ls
with_twice t g h [] = refl
with_twice zero g h (js ∷ ls) = refl
with_twice (suc t) g h (js ∷ ls) = ap (λ ks. js ∷ ks) (with_twice t g h ls)

-- A change that each line is asked for, but is that of one of them.
module _ (f : (ℕ × List Job) → List Job) (g : List Job → List Job) (t : ℕ) (here : (js : List Job) → f (t, js) ≡ g js) (elsewhere : (at : ℕ) (js : List Job) → (t == at) ≡ false → f (at, js) ≡ js) where
  behind : (n : ℕ) (ls : List (List Job)) → t < n → map f (enumerate_from n ls) ≡ ls
  behind n [] h = refl
  behind n (js ∷ ls) h =
      let other : (t == n) ≡ false = grind (arith, common_steps, h) in
      ap (λ ks. ks ∷ map f (enumerate_from (n + 1) ls)) (elsewhere n js other) ∙ ap (λ ks. js ∷ ks) (behind (n + 1) ls (omega (arith, h)))

  pub with_one : (n i : ℕ) (ls : List (List Job)) → t ≡ n + i → with_line i g ls ≡ map f (enumerate_from n ls)
  with_one n i [] e = refl
  with_one n zero (js ∷ ls) e =
      let same : t ≡ n = omega (arith, e) in
      ap (λ ks. ks ∷ ls) (sym (here js) ∙ ap (λ m. f (m, js)) same) ∙ ap (λ ks. f (n, js) ∷ ks) (sym (behind (n + 1) ls (omega (arith, e))))
  with_one n (suc i) (js ∷ ls) e =
      let other : (t == n) ≡ false = grind (arith, common_steps, e) in
      ap (λ ks. js ∷ ks) (with_one (n + 1) i ls (omega (arith, e))) ∙ ap (λ ks. ks ∷ map f (enumerate_from (n + 1) ls)) (sym (elsewhere n js other))

-- The lines before a place are changed, each by its number.
abbrev pub changed_below : ((ℕ × List Job) → List Job) → ℕ → ℕ → List (List Job) → List (List Job)
changed_below f n zero ls = ls
changed_below f n (suc i) [] = []
changed_below f n (suc i) (js ∷ ls) = f (n, js) ∷ changed_below f (n + 1) i ls

pub length_below : (f : (ℕ × List Job) → List Job) (n i : ℕ) (ls : List (List Job)) → length (changed_below f n i ls) ≡ length ls
length_below f n zero ls = refl
length_below f n (suc i) [] = refl
length_below f n (suc i) (js ∷ ls) = ap suc (length_below f (n + 1) i ls)

pub line_below : (f : (ℕ × List Job) → List Job) (n i : ℕ) (ls : List (List Job)) → line_at i (changed_below f n i ls) ≡ line_at i ls
line_below f n zero ls = refl
line_below f n (suc i) [] = refl
line_below f n (suc i) (js ∷ ls) = line_below f (n + 1) i ls

pub one_below : (f : (ℕ × List Job) → List Job) (n i j : ℕ) (ls : List (List Job)) → j ≡ n + i → with_line i (λ js. f (j, js)) (changed_below f n i ls) ≡ changed_below f n (suc i) ls
one_below f n zero j [] e = refl
one_below f n (suc i) j [] e = refl
one_below f n zero j (js ∷ ls) e = let same : j ≡ n = omega (arith, e) in ap (λ m. f (m, js) ∷ ls) same
one_below f n (suc i) j (js ∷ ls) e = ap (λ ks. f (n, js) ∷ ks) (one_below f (n + 1) i j ls (omega (arith, e)))

pub all_below : (f : (ℕ × List Job) → List Job) (n i : ℕ) (ls : List (List Job)) → length ls ≤ i → changed_below f n i ls ≡ map f (enumerate_from n ls)
all_below f n zero [] h = refl
all_below f n (suc i) [] h = refl
all_below f n zero (js ∷ ls) h = absurd (omega (arith, h))
all_below f n (suc i) (js ∷ ls) h = ap (λ ks. f (n, js) ∷ ks) (all_below f (n + 1) i ls (omega (arith, h)))

-- one that fails, or all that pass, of the lines before a place
pub line_there : (i : ℕ) (ls : List (List Job)) → i < length ls → slice_get ls i ≡ Some (line_at i ls)
line_there i [] h = absurd (omega (arith, h))
line_there zero (js ∷ ls) h = refl
line_there (suc i) (js ∷ ls) h = line_there i ls (omega (arith, h))

-- of each line that is there, and of none
pub apart_at : (t : ℕ) (ls : List (List Job)) → AreLinesApart ls → AreOfOthers (line_at t ls)
apart_at t [] h = tt
apart_at zero (js ∷ ls) h = h.0
apart_at (suc t) (js ∷ ls) h = apart_at t ls h.1

pub eq-self : (n : ℕ) → (n == n) ≡ true
eq-self n = grind (arith, common_steps)

-- the change of one line, where each is asked
pub one_line : (f : (ℕ × List Job) → List Job) (g : List Job → List Job) (t : ℕ) → ((js : List Job) → f (t, js) ≡ g js) → ((at : ℕ) (js : List Job) → (t == at) ≡ false → f (at, js) ≡ js) → (ls : List (List Job)) →
    with_line t g ls ≡ map f (enumerate_from 0 ls)
one_line f g t here elsewhere ls = let count : t ≡ 0 + t = omega arith in with_one f g t here elsewhere 0 t ls count

-- a job is found where there is a line
pub found_there : (t : ℕ) (id : Id) (ls : List (List Job)) (j : Job) → find (is_job_of id) (line_at t ls) ≡ Some j → t < length ls
found_there t id [] j h = cc
found_there zero id (js ∷ ls) j h = omega arith
found_there (suc t) id (js ∷ ls) j h = let there = found_there t id ls j h in omega (arith, there)

job_there : (t : ℕ) (id : Id) (ls : List (List Job)) → has_job ls t id ≡ true → t < length ls
job_there t id [] h = cc
job_there zero id (js ∷ ls) h = omega arith
job_there (suc t) id (js ∷ ls) h = let there = job_there t id ls h in omega (arith, there)

pub there_with : (t : ℕ) (g : List Job → List Job) (ls new : List (List Job)) → new ≡ with_line t g ls → (id : Id) → has_job ls t id ≡ true → t < length new
there_with t g ls new is id h =
    let there = job_there t id ls h in
    let same = ap length is ∙ length_with t g ls in omega (arith, there, same)

-- A change of a job leaves the jobs that there are.
stays_step : (id other : Id) (g : Job → Job) → ((j : Job) → (g j).id ≡ j.id) → (j : Job) (b : Bool) → is_job_of other (cond b (g j) j) ≡ is_job_of other j
stays_step id other g same j true = ap (λ i. id_eq i other) (same j)
stays_step id other g same j false = refl

any_stays : (id other : Id) (g : Job → Job) → ((j : Job) → (g j).id ≡ j.id) → (js : List Job) → list_any (is_job_of other) (map (changed_job id g) js) ≡ list_any (is_job_of other) js
any_stays id other g same [] = refl
any_stays id other g same (j ∷ js) =
    ap (λ b. b || list_any (is_job_of other) (map (changed_job id g) js)) (stays_step id other g same j (id_eq j.id id))
    ∙ ap (λ b. is_job_of other j || b) (any_stays id other g same js)

pub job_stays : (t : ℕ) (id other : Id) (g : Job → Job) → ((j : Job) → (g j).id ≡ j.id) → (ls : List (List Job)) → has_job (with_line t (map (changed_job id g)) ls) t other ≡ has_job ls t other
job_stays t id other g same [] = refl
job_stays zero id other g same (js ∷ ls) = any_stays id other g same js
job_stays (suc t) id other g same (js ∷ ls) = job_stays t id other g same ls
