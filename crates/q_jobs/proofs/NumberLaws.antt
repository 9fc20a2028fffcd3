-- The numbers of jobs in their order, as a job comes, as one goes, and which number one has.
use Rattle.std.proofs.Common.{◌≡◌, ◌∙◌, ◌∷◌, ◌++◌, ◌<◌, [], ap, arith, Bool, cond, false, List, map, None, refl, Some, sym, true, ℕ}
use Rattle.std.proofs.lemmas.Bool.{eqb-true}
use Rattle.std.proofs.lemmas.List.{map-append}
use Rattle.std.specs.List.{AllByRecursion}
use Rattle.std.specs.Prelude.{◌==◌, ◌||◌, find, nat_eq, not, option_map}
use Rattle.q_chains.specs.Lists.{inserted, is_in, without}
use Rattle.q_keyed.proofs.Inserted.{inserted_head, inserted_tail}
use Rattle.q_keyed.specs.Numbered.{AreApart, first_such, has_number, inserted_at, Numbered, put_at, without_number}
use Rattle.q_chains.proofs.Numbers.{flipped, head_in, or_right}
use Rattle.q_jobs.specs.declared.job.Job.{Job}
use Rattle.q_jobs.specs.Sound.{numbers_of}

free_step : (n : ℕ) (k : Numbered Job) (ks : List (Numbered Job)) (t : Bool) → (k.number == n) ≡ t → cond t (Some k) (find (has_number n) ks) ≡ None → (find (has_number n) ks ≡ None → is_in n (numbers_of ks) ≡ false) →
    is_in n (numbers_of (k ∷ ks)) ≡ false
free_step n k ks true e h rest = cc
free_step n k ks false e h rest = ap (λ t. t || is_in n (numbers_of ks)) (flipped n k.number ∙ e) ∙ rest h

-- a number that no job has
pub free_number : (n : ℕ) (ks : List (Numbered Job)) → find (has_number n) ks ≡ None → is_in n (numbers_of ks) ≡ false
free_number n [] h = refl
free_number n (k ∷ ks) h = free_step n k ks (k.number == n) refl h (free_number n ks)

there_step : (p : Job → Bool) (n : ℕ) (k : Numbered Job) (ks : List (Numbered Job)) (t : Bool) → option_map (λ (k : Numbered Job). k.number) (cond t (Some k) (find (λ k. p k.item) ks)) ≡ Some n →
    (first_such p ks ≡ Some n → is_in n (numbers_of ks) ≡ true) → is_in n (numbers_of (k ∷ ks)) ≡ true
there_step p n k ks true h rest =
    let same : k.number ≡ n = cc in
    ap (λ m. is_in m (numbers_of (k ∷ ks))) (sym same) ∙ head_in k.number (numbers_of ks)
there_step p n k ks false h rest = or_right (nat_eq n k.number) (is_in n (numbers_of ks)) (rest h)

-- the number of the first that passes
pub number_there : (p : Job → Bool) (n : ℕ) (ks : List (Numbered Job)) → first_such p ks ≡ Some n → is_in n (numbers_of ks) ≡ true
number_there p n [] h = cc
number_there p n (k ∷ ks) h = there_step p n k ks (p k.item) h (number_there p n ks)

below_step : (limit n m : ℕ) (ns : List ℕ) (t : Bool) → nat_eq n m ≡ t → m < limit → (t || is_in n ns) ≡ true → (is_in n ns ≡ true → n < limit) → n < limit
below_step limit n m ns true e below h rest = let same : n ≡ m = eqb-true n m e in omega (arith, same, below)
below_step limit n m ns false e below h rest = rest h

-- one of these numbers
pub number_below : (limit n : ℕ) (ns : List ℕ) → AllByRecursion (λ m. m < limit) ns → is_in n ns ≡ true → n < limit
number_below limit n [] below h = cc
number_below limit n (m ∷ ns) below h = below_step limit n m ns (nat_eq n m) refl below.0 h (number_below limit n ns below.1)

-- one comes behind all
pub numbers_more : (new : Numbered Job) (ks : List (Numbered Job)) → numbers_of (ks ++ new ∷ []) ≡ numbers_of ks ++ new.number ∷ []
numbers_more new ks = map-append (λ (k : Numbered Job). k.number) ks (new ∷ [])

without_step : (n : ℕ) (k : Numbered Job) (ks : List (Numbered Job)) (t : Bool) → numbers_of (without_number n ks) ≡ without n (numbers_of ks) →
    numbers_of (cond (not t) (k ∷ without_number n ks) (without_number n ks)) ≡ cond (not t) (k.number ∷ without n (numbers_of ks)) (without n (numbers_of ks))
without_step n k ks true rest = rest
without_step n k ks false rest = ap (λ ns. k.number ∷ ns) rest

-- one goes
pub numbers_without : (n : ℕ) (ks : List (Numbered Job)) → numbers_of (without_number n ks) ≡ without n (numbers_of ks)
numbers_without n [] = refl
numbers_without n (k ∷ ks) = without_step n k ks (k.number == n) (numbers_without n ks)

inserted_step : (at : ℕ) (new k : Numbered Job) (ks : List (Numbered Job)) (t : Bool) → (k.number == at) ≡ t → find (has_number k.number) ks ≡ None →
    numbers_of (inserted_at at new ks) ≡ inserted new.number at (numbers_of ks) →
    numbers_of (cond t (new ∷ k ∷ ks) (k ∷ inserted_at at new ks)) ≡ inserted new.number at (k.number ∷ numbers_of ks)
inserted_step at new k ks true e apart rest =
    sym (inserted_head new.number k.number (numbers_of ks) (free_number k.number ks apart))
    ∙ ap (λ m. inserted new.number m (k.number ∷ numbers_of ks)) (eqb-true k.number at e)
inserted_step at new k ks false e apart rest =
    ap (λ ns. k.number ∷ ns) rest ∙ sym (inserted_tail new.number at k.number (numbers_of ks) e)

-- one comes before another
pub numbers_inserted : (at : ℕ) (new : Numbered Job) (ks : List (Numbered Job)) → AreApart ks → numbers_of (inserted_at at new ks) ≡ inserted new.number at (numbers_of ks)
numbers_inserted at new [] apart = refl
numbers_inserted at new (k ∷ ks) apart = inserted_step at new k ks (k.number == at) refl apart.0 (numbers_inserted at new ks apart.1)

put_step : (n : ℕ) (job : Job) (k : Numbered Job) (t : Bool) → (k.number == n) ≡ t → (cond t (record { number = n; item = job }) k).number ≡ k.number
put_step n job k true e = sym (eqb-true k.number n e)
put_step n job k false e = refl

-- another stands under a number
pub numbers_put : (n : ℕ) (job : Job) (ks : List (Numbered Job)) → numbers_of (map (put_at n job) ks) ≡ numbers_of ks
numbers_put n job [] = refl
numbers_put n job (k ∷ ks) =
    ap (λ m. m ∷ numbers_of (map (put_at n job) ks)) (put_step n job k (k.number == n) refl) ∙ ap (λ ns. k.number ∷ ns) (numbers_put n job ks)
