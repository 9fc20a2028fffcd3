-- After each change of the core's lists nothing has to go but what was touched.
use Rattle.std.proofs.Common.{◌≡◌, ℕ, Bool, true, false, List, [], ◌∷◌, ◌++◌, map, not, Option, Some, None, option_map, length, append-nil, take, drop, inl, inr, refl, sym, ap, ◌∙◌, subst, arith, if◌then◌else◌}
use Rattle.std.proofs.lemmas.Bool.{cases_Bool}
use Rattle.std.specs.List.{enumerate_from, remove}
use Rattle.std.specs.Prelude.{◌||◌, ◌==◌, slice_get}
use Rattle.q_core.proofs.ListLaws.{length-numbered, slice_get-numbered}
use Rattle.std.proofs.lemmas.List.{drop_all, take_all}
use Rattle.q_core.proofs.StayLaws.{stays_by, unread_entered, unread_left, waits_left}
use Rattle.q_core.proofs.TouchedLaws.{all_kept, all_touched}
use Rattle.q_core.specs.Changes.{slots_without}
use Rattle.q_core.specs.Tidied.{stays_among, unread_among}
use Rattle.q_core.specs.Touched.{DoJobsStay, IsTidyBut, is_touched, jobs_stay, touched_with}
use Rattle.q_jobs.specs.declared.job.Job.{Job}
use Rattle.q_pool.specs.declared.slot.Slot.{Slot}
use Rattle.q_core.specs.declared.touched.Touched.{Touched}
use Rattle.q_laws.proofs.Members.{all_at, all_from, in_unmap}
use Rattle.q_model.proofs.IdLaws.{id_eq-true}
use Rattle.q_model.specs.Ids.{id_eq}
use Rattle.q_model.specs.declared.id.Id.{Id}
use Rattle.q_model.specs.declared.rows.Row.{Row}

or_unless : (x y : Bool) → (x ≡ false → y ≡ true) → (x || y) ≡ true
or_unless true y h = refl
or_unless false y h = h refl

-- ---- the parts

pub lines_kept : (m : Touched Id) (a b : List Slot) (w v : List Row) (ls : List (List Job)) → ((n : ℕ) (id : Id) → stays_among a w n id ≡ true → stays_among b v n id ≡ true) →
    DoJobsStay m a w ls → DoJobsStay m b v ls
lines_kept m a b w v ls h old = λ n js e. all_kept id_eq (λ (j : Job). j.id) m (λ (j : Job). stays_among a w n j.id) (λ (j : Job). stays_among b v n j.id) js (λ j inside. h n j.id) (old n js e)

pub lines_touched : (m : Touched Id) (k : Id) (a b : List Slot) (w v : List Row) (ls : List (List Job)) → ((n : ℕ) (id : Id) → id_eq id k ≡ false → stays_among a w n id ≡ true → stays_among b v n id ≡ true) →
    DoJobsStay m a w ls → DoJobsStay (touched_with id_eq k m) b v ls
lines_touched m k a b w v ls h old = λ n js e. all_touched id_eq id_eq-true (λ (j : Job). j.id) m k (λ (j : Job). stays_among a w n j.id) (λ (j : Job). stays_among b v n j.id) js
    (λ j inside stays. or_unless (id_eq j.id k) (stays_among b v n j.id) (λ other. h n j.id other stays)) (old n js e)

at_line : (m : Touched Id) (a : List Slot) (w : List Row) (f : (ℕ × List Job) → List Job) (n : ℕ) (o : Option (List Job)) →
    ((js : List Job) → o ≡ Some js → jobs_stay m a w n (f (n, js)) ≡ true) → (ks : List Job) → option_map (λ js. f (n, js)) o ≡ Some ks → jobs_stay m a w n ks ≡ true
at_line m a w f n None h ks e = absurd cc
at_line m a w f n (Some js) h ks e = let same : f (n, js) ≡ ks = cc in subst (λ xs. jobs_stay m a w n xs ≡ true) same (h js refl)

-- each line changes
pub lines_mapped : (m : Touched Id) (a : List Slot) (w : List Row) (f : (ℕ × List Job) → List Job) (ls : List (List Job)) →
    ((n : ℕ) (js : List Job) → slice_get ls n ≡ Some js → jobs_stay m a w n (f (n, js)) ≡ true) → DoJobsStay m a w (map f (enumerate_from 0 ls))
lines_mapped m a w f ls h = λ n ks e. at_line m a w f n (slice_get ls n) (h n) ks (sym (slice_get-numbered f 0 n n ls (omega arith)) ∙ e)

-- ---- messages in memory

-- what was unread still is
pub slots_kept : {m : Touched Id} {a b : List Slot} {w : List Row} {ls : List (List Job)} →
    ((id : Id) → not (unread_among a id == 0) ≡ true → not (unread_among b id == 0) ≡ true) → IsTidyBut m a w ls → IsTidyBut m b w ls
slots_kept {m = m} {a = a} {b = b} {w = w} {ls = ls} h t =
    record { jobs = lines_kept m a b w w ls (λ k id. stays_by a b w w k id (h id) (λ e. e)) t.jobs }

-- the same is unread
pub slots_same : {m : Touched Id} {a b : List Slot} {w : List Row} {ls : List (List Job)} →
    ((id : Id) → unread_among b id ≡ unread_among a id) → IsTidyBut m a w ls → IsTidyBut m b w ls
slots_same h t = slots_kept (λ id e. ap (λ k. not (k == 0)) (h id) ∙ e) t

-- the same of the others
pub slots_touched : {m : Touched Id} {a b : List Slot} {w : List Row} {ls : List (List Job)} →
    (k : Id) → ((id : Id) → id_eq id k ≡ false → unread_among b id ≡ unread_among a id) → IsTidyBut m a w ls → IsTidyBut (touched_with id_eq k m) b w ls
slots_touched {m = m} {a = a} {b = b} {w = w} {ls = ls} k h t =
    record { jobs = lines_touched m k a b w w ls (λ i id other. stays_by a b w w i id (λ e. ap (λ j. not (j == 0)) (h id other) ∙ e) (λ e. e)) t.jobs }

pub slot_entered : {m : Touched Id} {a : List Slot} {w : List Row} {ls : List (List Job)} →
    (x : Slot) → IsTidyBut m a w ls → IsTidyBut m (a ++ x ∷ []) w ls
slot_entered {a = a} x t = slots_kept (λ id. unread_entered a x id) t

none_unread : (n : ℕ) → (n == 0) ≡ true → not (n == 0) ≡ true → ⊥
none_unread n e h = let bad : false ≡ true = ap not (sym e) ∙ h in absurd cc

gone_by : {m : Touched Id} {a : List Slot} {w : List Row} {ls : List (List Job)} →
    (k : Id) (b : Bool) → (unread_among a k == 0) ≡ b → IsTidyBut m a w ls → IsTidyBut (if b then m else touched_with id_eq k m) (slots_without k a) w ls
gone_by {a = a} k false e t = slots_touched k (λ id other. unread_left k a id other) t
gone_by {a = a} k true e t = slots_kept {a = a} (λ id h. elim (cases_Bool (id_eq id k)) [
  | inl same ↦ absurd (none_unread (unread_among a id) (ap (λ i. unread_among a i == 0) (id_eq-true id k same) ∙ e) h)
  | inr other ↦ ap (λ j. not (j == 0)) (unread_left k a id other) ∙ h
]) t

-- one goes, which is touched where something of it is unread
pub slot_gone : {m : Touched Id} {a : List Slot} {w : List Row} {ls : List (List Job)} →
    (k : Id) → IsTidyBut m a w ls → IsTidyBut (if unread_among a k == 0 then m else touched_with id_eq k m) (slots_without k a) w ls
slot_gone {a = a} k t = gone_by k (unread_among a k == 0) refl t

-- ---- rows

-- a row goes
pub row_gone : {m : Touched Id} {a : List Slot} {w : List Row} {ls : List (List Job)} →
    (i : ℕ) (row : Row) → slice_get w i ≡ Some row → IsTidyBut m a w ls →
    IsTidyBut (touched_with id_eq row.id m) a (remove w i) ls
row_gone {m = m} {a = a} {w = w} {ls = ls} i row at t =
    record { jobs = lines_touched m row.id a a w (remove w i) ls (λ k id other. stays_by a a w (remove w i) k id (λ e. e) (waits_left w i row k id at other)) t.jobs }

-- ---- jobs

-- each job keeps its message
pub jobs_mapped : (m : Touched Id) (a : List Slot) (w : List Row) (n : ℕ) (g : Job → Job) → ((j : Job) → (g j).id ≡ j.id) → (js : List Job) → jobs_stay m a w n js ≡ true → jobs_stay m a w n (map g js) ≡ true
jobs_mapped m a w n g ids js h =
    let stay = λ (i : Id). is_touched id_eq m i || stays_among a w n i in
    all_from (λ (j : Job). stay j.id) (map g js) (λ y inside.
    let x = in_unmap g y js inside in
    ap (λ (j : Job). stay j.id) (sym x.2) ∙ ap stay (ids x.0) ∙ all_at (λ (j : Job). stay j.id) x.0 js h x.1)

-- ---- a slice of a list that was written

written_back : {X : Type 0} (n : ℕ) (xs old : List X) → length xs ≡ length old → length old ≡ n → take n (xs ++ drop (length xs) old) ≡ xs
written_back n xs old h k =
    ap (λ ys. take n (xs ++ ys)) (drop_all (length xs) old (omega (arith, h)))
    ∙ ap (take n) (append-nil xs) ∙ take_all n xs (omega (arith, h, k))

pub numbered_back : {X : Type 0} (g : (ℕ × X) → X) (n : ℕ) (xs front old : List X) → xs ≡ map g (enumerate_from 0 front) → front ≡ old → length front ≡ n →
    take n (xs ++ drop (length xs) old) ≡ map g (enumerate_from 0 old)
numbered_back g n xs front old e f h =
    let same : xs ≡ map g (enumerate_from 0 old) = e ∙ ap (λ ys. map g (enumerate_from 0 ys)) f in
    let all : length old ≡ n = ap length (sym f) ∙ h in
    written_back n xs old (ap length same ∙ length-numbered g 0 old) all ∙ same
