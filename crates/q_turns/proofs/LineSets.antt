-- One line in the place of another, and lines that are empty.
use Rattle.std.proofs.Common.{◌≡◌, ◌∙◌, ◌∷◌, ◌<◌, [], ap, arith, get_or, length, List, refl, set, Some, subst, suc, sym, true, zero, ℕ}
use Rattle.std.proofs.lemmas.Bool.{ltb-true}
use Rattle.std.specs.Prelude.{ltb, replicate, slice_get}
use Rattle.q_jobs.specs.declared.job.Job.{Job}
use Rattle.q_jobs.specs.Jobs.{AreOfOthers, Jobs}
use Rattle.q_turns.specs.Sound.{HaveRoom, jobs_of}
use Rattle.q_turns.specs.Turns.{AreLinesApart, line_at, with_line}

pub at_index : (t : ℕ) (ls : List Jobs) (l : Jobs) → t < length ls → l ≡ get_or ls t l → slice_get ls t ≡ Some l
at_index t [] l h e = absurd (omega (arith, h))
at_index zero (x ∷ ls) l h e = ap Some (sym e)
at_index (suc t) (x ∷ ls) l h e = at_index t ls l (omega (arith, h)) e

pub below_jobs : (t : ℕ) (ls : List Jobs) → t < length (jobs_of ls) → t < length ls
below_jobs t [] h = h
below_jobs zero (x ∷ ls) h = omega arith
below_jobs (suc t) (x ∷ ls) h = let there = below_jobs t ls (omega (arith, h)) in omega (arith, there)

pub below_seen : (t : ℕ) (ls : List Jobs) (seen : List (List Job)) → jobs_of ls ≡ seen → t < length seen → t < length (jobs_of ls)
below_seen t ls seen is below = subst (λ js. t < length js) (sym is) below

-- a line that a contract sees
pub at_there : (t : ℕ) (ls : List Jobs) (l : Jobs) (seen : List (List Job)) → jobs_of ls ≡ seen → t < length seen → l ≡ get_or ls t l → slice_get ls t ≡ Some l
at_there t ls l seen is below e = at_index t ls l (below_jobs t ls (subst (λ js. t < length js) (sym is) below)) e

pub at_got : (t : ℕ) (ls got : List Jobs) (l : Jobs) → got ≡ ls → true ≡ ltb t (length got) → l ≡ get_or got t l → slice_get ls t ≡ Some l
at_got t ls got l same below e =
    at_index t ls l (ltb-true t (length ls) (sym (below ∙ ap (λ xs. ltb t (length xs)) same))) (e ∙ ap (λ xs. get_or xs t l) same)

pub jobs_at : (t : ℕ) (ls : List Jobs) (l : Jobs) → slice_get ls t ≡ Some l → line_at t (jobs_of ls) ≡ l.jobs
jobs_at t [] l h = cc
jobs_at zero (x ∷ ls) l h = let same : x ≡ l = cc in ap (λ (k : Jobs). k.jobs) same
jobs_at (suc t) (x ∷ ls) l h = jobs_at t ls l h

pub room_at : (room t : ℕ) (ls : List Jobs) (l : Jobs) → HaveRoom room ls → slice_get ls t ≡ Some l → l.room ≡ room
room_at room t [] l have h = cc
room_at room zero (x ∷ ls) l have h = let same : x ≡ l = cc in subst (λ (k : Jobs). k.room ≡ room) same have.0
room_at room (suc t) (x ∷ ls) l have h = room_at room t ls l have.1 h

pub count_set : (t : ℕ) (l : Jobs) (ls : List Jobs) → length (set ls t l) ≡ length ls
count_set t l [] = refl
count_set zero l (x ∷ ls) = refl
count_set (suc t) l (x ∷ ls) = ap suc (count_set t l ls)

pub jobs_set : (t : ℕ) (l : Jobs) (g : List Job → List Job) (ls : List Jobs) → l.jobs ≡ g (line_at t (jobs_of ls)) → jobs_of (set ls t l) ≡ with_line t g (jobs_of ls)
jobs_set t l g [] h = refl
jobs_set zero l g (x ∷ ls) h = ap (λ js. js ∷ jobs_of ls) h
jobs_set (suc t) l g (x ∷ ls) h = ap (λ ks. x.jobs ∷ ks) (jobs_set t l g ls h)

pub room_set : (room t : ℕ) (l : Jobs) (ls : List Jobs) → HaveRoom room ls → l.room ≡ room → HaveRoom room (set ls t l)
room_set room t l [] have h = tt
room_set room zero l (x ∷ ls) have h = (h, have.1)
room_set room (suc t) l (x ∷ ls) have h = (have.0, room_set room t l ls have.1 h)

pub apart_set : (t : ℕ) (l : Jobs) (ls : List Jobs) → AreLinesApart (jobs_of ls) → AreOfOthers l.jobs → AreLinesApart (jobs_of (set ls t l))
apart_set t l [] apart h = tt
apart_set zero l (x ∷ ls) apart h = (h, apart.1)
apart_set (suc t) l (x ∷ ls) apart h = (apart.0, apart_set t l ls apart.1 h)

-- Lines without a job.
abbrev pub empty_line : ℕ → Jobs
empty_line room = record { jobs = []; room = room; ranks = [] }

pub jobs_empty : (room n : ℕ) → jobs_of (replicate n (empty_line room)) ≡ replicate n []
jobs_empty room zero = refl
jobs_empty room (suc n) = ap (λ ks. [] ∷ ks) (jobs_empty room n)

pub room_empty : (room n : ℕ) → HaveRoom room (replicate n (empty_line room))
room_empty room zero = tt
room_empty room (suc n) = (refl, room_empty room n)

pub apart_empty : (n : ℕ) → AreLinesApart (replicate n [])
apart_empty zero = tt
apart_empty (suc n) = (tt, apart_empty n)
