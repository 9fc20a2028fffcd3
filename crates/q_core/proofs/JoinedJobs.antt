-- A message that has joined the lines in which it has come to wait has a job there.
use Rattle.std.proofs.Common.{◌≡◌, ◌∙◌, ◌+◌, ◌++◌, ◌<◌, [], ◌∷◌, ap, arith, Bool, cond, false, length, List, map, refl, suc, sym, true, zero, ℕ}
use Rattle.std.proofs.lemmas.Grind.{common_steps}
use Rattle.std.proofs.lemmas.List.{append_assoc}
use Rattle.std.proofs.lemmas.List.Folds.{list_any-append}
use Rattle.std.specs.List.{enumerate_from, list_all, list_any}
use Rattle.std.specs.Prelude.{◌&&◌, ◌||◌, ◌==◌, nat_lt, not}
use Rattle.q_core.specs.Loading.{joined_line}
use Rattle.q_jobs.proofs.LineWalks.{flipped}
use Rattle.q_jobs.specs.declared.job.Job.{Job}
use Rattle.q_jobs.specs.Jobs.{fresh_job, is_job_of}
use Rattle.q_model.proofs.IdLaws.{id_eq-refl}
use Rattle.q_model.specs.declared.id.Id.{Id}
use Rattle.q_model.specs.declared.rows.Row.{Row}
use Rattle.q_model.specs.Ids.{id_eq}
use Rattle.q_turns.proofs.WithLine.{eq-self}
use Rattle.q_turns.specs.Turns.{has_job, line_at, may_wait}

-- a line where each is changed by its number
line_each : (f : (ℕ × List Job) → List Job) (n i : ℕ) (ls : List (List Job)) → i < length ls → line_at i (map f (enumerate_from n ls)) ≡ f (n + i, line_at i ls)
line_each f n i [] h = absurd (omega (arith, h))
line_each f n zero (js ∷ ls) h = let same : n ≡ n + 0 = omega arith in ap (λ m. f (m, js)) same
line_each f n (suc i) (js ∷ ls) h =
    let same : n + 1 + i ≡ n + suc i = omega arith in
    line_each f (n + 1) i ls (omega (arith, h)) ∙ ap (λ m. f (m, line_at i ls)) same

length_each : (f : (ℕ × List Job) → List Job) (n : ℕ) (ls : List (List Job)) → length (map f (enumerate_from n ls)) ≡ length ls
length_each f n [] = refl
length_each f n (js ∷ ls) = ap suc (length_each f (n + 1) ls)

turned : (id : Id) (js : List Job) → list_any (is_job_of id) js ≡ list_any (λ j. id_eq id j.id) js
turned id [] = refl
turned id (j ∷ js) = ap (λ b. b || list_any (is_job_of id) js) (flipped j.id id) ∙ ap (λ b. id_eq id j.id || b) (turned id js)

or_true : (b : Bool) → (b || true) ≡ true
or_true true = refl
or_true false = refl

less : (m n : ℕ) → nat_lt m n ≡ true → m < n
less m n h = grind (arith, common_steps, h)

-- Of a message with these rows.
module _ (id : Id) (rows : List Row) where
  joined_step : (t : ℕ) (js : List Job) (a b : Bool) → list_any (λ j. id_eq id j.id) js ≡ b → a ≡ true → list_any (is_job_of id) (cond (a && not b) (js ++ fresh_job id ∷ []) js) ≡ true
  joined_step t js false b f h = cc
  joined_step t js true true f h = turned id js ∙ f
  joined_step t js true false f h = list_any-append (is_job_of id) js (fresh_job id ∷ []) ∙ ap (λ x. list_any (is_job_of id) js || (x || false)) (id_eq-refl id) ∙ or_true (list_any (is_job_of id) js)

  joined_has : (t : ℕ) (js : List Job) → list_any (λ (r : Row). r.site.transport == t) rows ≡ true → list_any (is_job_of id) (joined_line id rows (t, js)) ≡ true
  joined_has t js h = joined_step t js (list_any (λ (r : Row). r.site.transport == t) rows) (list_any (λ j. id_eq id j.id) js) refl h

  may_step : (t : ℕ) (ls : List (List Job)) → list_any (λ (r : Row). r.site.transport == t) rows ≡ true → (b : Bool) → nat_lt t (length (map (joined_line id rows) (enumerate_from 0 ls))) ≡ b →
      (not b || has_job (map (joined_line id rows) (enumerate_from 0 ls)) t id) ≡ true
  may_step t ls h false e = refl
  may_step t ls h true e =
      let there : t < length ls = (let inside = less t (length (map (joined_line id rows) (enumerate_from 0 ls))) e in omega (arith, inside, length_each (joined_line id rows) 0 ls)) in
      let same : 0 + t ≡ t = omega arith in
      ap (list_any (is_job_of id)) (line_each (joined_line id rows) 0 t ls there ∙ ap (λ m. joined_line id rows (m, line_at t ls)) same) ∙ joined_has t (line_at t ls) h

  row_here : (front : List Row) (r : Row) (rest : List Row) → rows ≡ front ++ r ∷ rest → list_any (λ (x : Row). x.site.transport == r.site.transport) rows ≡ true
  row_here front r rest e =
      ap (list_any (λ (x : Row). x.site.transport == r.site.transport)) e
      ∙ list_any-append (λ (x : Row). x.site.transport == r.site.transport) front (r ∷ rest)
      ∙ ap (λ b. list_any (λ (x : Row). x.site.transport == r.site.transport) front || (b || list_any (λ (x : Row). x.site.transport == r.site.transport) rest)) (eq-self r.site.transport)
      ∙ or_true (list_any (λ (x : Row). x.site.transport == r.site.transport) front)

  may_from : (ls : List (List Job)) (front rest : List Row) → rows ≡ front ++ rest → list_all (λ (r : Row). may_wait (map (joined_line id rows) (enumerate_from 0 ls)) r.site.transport id) rest ≡ true
  may_from ls front [] e = refl
  may_from ls front (r ∷ rest) e =
      ap (λ b. b && list_all (λ (x : Row). may_wait (map (joined_line id rows) (enumerate_from 0 ls)) x.site.transport id) rest)
      (may_step r.site.transport ls (row_here front r rest e) (nat_lt r.site.transport (length (map (joined_line id rows) (enumerate_from 0 ls)))) refl)
      ∙ may_from ls (front ++ r ∷ []) rest (e ∙ sym (append_assoc front (r ∷ []) rest))

  pub all_may_wait : (ls : List (List Job)) → list_all (λ (r : Row). may_wait (map (joined_line id rows) (enumerate_from 0 ls)) r.site.transport id) rows ≡ true
  all_may_wait ls = may_from ls [] rows refl
