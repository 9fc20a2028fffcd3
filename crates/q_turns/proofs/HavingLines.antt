-- Each peer keeps its job, as the jobs of a line change.
use Rattle.std.proofs.Common.{◌≡◌, ◌∙◌, ◌∷◌, ◌++◌, ◌<◌, [], ap, Bool, cond, false, inl, inr, length, List, map, None, Option, refl, Some, subst, suc, sym, true, zero, ℕ}
use Rattle.std.proofs.lemmas.Bool.{both_ways, eq-eqb, lt-ltb, ltb-true, or_cases, or_left, or_right}
use Rattle.std.proofs.lemmas.List.Folds.{list_any-append}
use Rattle.std.specs.List.{list_any}
use Rattle.std.specs.Option.{option_map_or}
use Rattle.std.specs.Prelude.{◌||◌, ◌==◌, ◌&&◌, filter, find, nat_lt, not}
use Rattle.q_jobs.specs.declared.job.Job.{Job}
use Rattle.q_jobs.specs.Jobs.{account_in, fresh_job, is_job_of, is_job_of_another, moved_job, put_job}
use Rattle.q_model.proofs.EachLaws.{find-passes}
use Rattle.q_model.proofs.IdLaws.{id_eq-true}
use Rattle.q_model.specs.declared.id.Id.{Id}
use Rattle.q_model.specs.Ids.{id_eq}
use Rattle.q_model.specs.Lists.{drop_first}
use Rattle.q_rounds.specs.declared.peer.Peer.{Peer}
use Rattle.q_rounds.specs.Rounds.{is_peer_for}
use Rattle.q_turns.specs.Turns.{has_job, HaveJobs, line_at, may_wait, with_line}
use Rattle.q_turns.proofs.WithLine.{length_with}

-- A row may wait where there is a job, or no line.
from_step : (t b : Bool) → (t ≡ true → b ≡ true) → (not t || b) ≡ true
from_step true b h = h refl
from_step false b h = refl

to_step : (t b : Bool) → (not t || b) ≡ true → t ≡ true → b ≡ true
to_step true b h e = h
to_step false b h e = cc

pub may_from : (ls : List (List Job)) (t : ℕ) (id : Id) → (t < length ls → has_job ls t id ≡ true) → may_wait ls t id ≡ true
may_from ls t id h = from_step (nat_lt t (length ls)) (has_job ls t id) (λ e. h (ltb-true t (length ls) e))

pub may_to : (ls : List (List Job)) (t : ℕ) (id : Id) → may_wait ls t id ≡ true → t < length ls → has_job ls t id ≡ true
may_to ls t id h below = to_step (nat_lt t (length ls)) (has_job ls t id) h (lt-ltb t (length ls) below)

-- what a change of one line does to the jobs at each transport
has_with : (t s : ℕ) (g : List Job → List Job) (ls : List (List Job)) (id : Id) → (s ≡ t → has_job ls t id ≡ true → list_any (is_job_of id) (g (line_at t ls)) ≡ true) → has_job ls s id ≡ true → has_job (with_line t g ls) s id ≡ true
has_with t s g [] id h k = k
has_with zero zero g (js ∷ ls) id h k = h refl k
has_with zero (suc s) g (js ∷ ls) id h k = k
has_with (suc t) zero g (js ∷ ls) id h k = k
has_with (suc t) (suc s) g (js ∷ ls) id h k = has_with t s g ls id (λ e. h (ap suc e)) k

pub may_with : (t s : ℕ) (g : List Job → List Job) (ls : List (List Job)) (id : Id) → (s ≡ t → has_job ls t id ≡ true → list_any (is_job_of id) (g (line_at t ls)) ≡ true) → may_wait ls s id ≡ true → may_wait (with_line t g ls) s id ≡ true
may_with t s g ls id h k =
    may_from (with_line t g ls) s id (λ below. has_with t s g ls id h (may_to ls s id k (subst (λ n. s < n) (length_with t g ls) below)))

-- the change keeps the job of each message
abbrev pub KeepsJobs : ℕ → (List Job → List Job) → List (List Job) → Type 0
KeepsJobs t g ls = (id : Id) → has_job ls t id ≡ true → list_any (is_job_of id) (g (line_at t ls)) ≡ true

pub have_with : (t : ℕ) (g : List Job → List Job) (ls : List (List Job)) (ps : List Peer) → KeepsJobs t g ls → HaveJobs ls ps → HaveJobs (with_line t g ls) ps
have_with t g ls [] keeps h = tt
have_with t g ls (p ∷ ps) keeps h = (h.0, may_with t p.site.transport g ls p.id (λ same. keeps p.id) h.1, have_with t g ls ps keeps h.2)

-- A job joins.
pub joined_keeps : (t : ℕ) (id : Id) (ls : List (List Job)) → KeepsJobs t (λ js. js ++ fresh_job id ∷ []) ls
joined_keeps t id ls other h =
    list_any-append (is_job_of other) (line_at t ls) (fresh_job id ∷ [])
    ∙ or_left (list_any (is_job_of other) (line_at t ls)) (list_any (is_job_of other) (fresh_job id ∷ [])) h

-- Another account.
same_step : (job j : Job) (other : Id) (b : Bool) → id_eq j.id job.id ≡ b → is_job_of other (cond b job j) ≡ is_job_of other j
same_step job j other true e = ap (λ i. id_eq i other) (sym (id_eq-true j.id job.id e))
same_step job j other false e = refl

any_put : (job : Job) (other : Id) (js : List Job) → list_any (is_job_of other) (map (account_in job) js) ≡ list_any (is_job_of other) js
any_put job other [] = refl
any_put job other (j ∷ js) =
    ap (λ b. b || list_any (is_job_of other) (map (account_in job) js)) (same_step job j other (id_eq j.id job.id) refl)
    ∙ ap (λ b. is_job_of other j || b) (any_put job other js)

pub put_keeps : (t : ℕ) (job : Job) (ls : List (List Job)) → KeepsJobs t (map (account_in job)) ls
put_keeps t job ls other h = any_put job other (line_at t ls) ∙ h

-- A job leaves, for which no row waits.
left_step : (id other : Id) (j : Job) (js ks : List Job) (b : Bool) → id_eq j.id id ≡ b → id_eq other id ≡ false → (list_any (is_job_of other) js ≡ true → list_any (is_job_of other) ks ≡ true) →
    (is_job_of other j || list_any (is_job_of other) js) ≡ true → list_any (is_job_of other) (cond (not b) (j ∷ ks) ks) ≡ true
left_step id other j js ks true e differ rest h =
    elim (or_cases (is_job_of other j) (list_any (is_job_of other) js) h) [
      | inl own ↦ absurd (both_ways (id_eq other id) differ (ap (λ i. id_eq i id) (sym (id_eq-true j.id other own)) ∙ e))
      | inr later ↦ rest later
    ]
left_step id other j js ks false e differ rest h =
    elim (or_cases (is_job_of other j) (list_any (is_job_of other) js) h) [
      | inl own ↦ or_left (is_job_of other j) (list_any (is_job_of other) ks) own
      | inr later ↦ or_right (is_job_of other j) (list_any (is_job_of other) ks) (rest later)
    ]

any_left : (id other : Id) (js : List Job) → id_eq other id ≡ false → list_any (is_job_of other) js ≡ true → list_any (is_job_of other) (filter (is_job_of_another id) js) ≡ true
any_left id other [] differ h = h
any_left id other (j ∷ js) differ h =
    left_step id other j js (filter (is_job_of_another id) js) (id_eq j.id id) refl differ (any_left id other js differ) h

-- a peer that isn't of this message at the transport is of another, if it is there
other_step : (a b : Bool) → (a && b) ≡ false → b ≡ true → a ≡ false
other_step true true h e = h
other_step false b h e = refl
other_step true false h e = cc

pub other_id : (id : Id) (t : ℕ) (p : Peer) → is_peer_for id t p ≡ false → p.site.transport ≡ t → id_eq p.id id ≡ false
other_id id t p h same = other_step (id_eq p.id id) (p.site.transport == t) h (eq-eqb p.site.transport t same)

any_parts : (a b : Bool) → (a || b) ≡ false → (a ≡ false) × (b ≡ false)
any_parts false false h = (refl, refl)
any_parts true b h = cc
any_parts false true h = cc

pub have_left_line : (t : ℕ) (id : Id) (ls : List (List Job)) (ps : List Peer) → list_any (is_peer_for id t) ps ≡ false → HaveJobs ls ps → HaveJobs (with_line t (filter (is_job_of_another id)) ls) ps
have_left_line t id ls [] done h = tt
have_left_line t id ls (p ∷ ps) done h =
    let parts = any_parts (is_peer_for id t p) (list_any (is_peer_for id t) ps) done in
    (h.0, may_with t p.site.transport (filter (is_job_of_another id)) ls p.id (λ same has. any_left id p.id (line_at t ls) (other_id id t p parts.0 same) has) h.1, have_left_line t id ls ps parts.1 h.2)

-- A job goes before another.
or_across : (a b c : Bool) → (a || (b || c)) ≡ (b || (a || c))
or_across true true c = refl
or_across true false c = refl
or_across false b c = refl

dropped_step : (p q : Job → Bool) (j job : Job) (js : List Job) (b : Bool) → p j ≡ b → cond b (Some j) (find p js) ≡ Some job → (find p js ≡ Some job → (q job || list_any q (drop_first p js)) ≡ list_any q js) →
    (q job || list_any q (cond b js (j ∷ drop_first p js))) ≡ list_any q (j ∷ js)
dropped_step p q j job js true e found rest = let same : j ≡ job = cc in ap (λ x. q x || list_any q js) (sym same)
dropped_step p q j job js false e found rest = or_across (q job) (q j) (list_any q (drop_first p js)) ∙ ap (λ b. q j || b) (rest found)

any_dropped : (p q : Job → Bool) (job : Job) (js : List Job) → find p js ≡ Some job → (q job || list_any q (drop_first p js)) ≡ list_any q js
any_dropped p q job [] found = cc
any_dropped p q job (j ∷ js) found = dropped_step p q j job js (p j) refl found (any_dropped p q job js)

put_step : (q : Job → Bool) (job j : Job) (parent : Id) (js : List Job) (b : Bool) → id_eq j.id parent ≡ b → (b || list_any (is_job_of parent) js) ≡ true → (list_any (is_job_of parent) js ≡ true → list_any q (put_job job parent js) ≡ (q job || list_any q js)) →
    list_any q (cond b (job ∷ j ∷ js) (j ∷ put_job job parent js)) ≡ (q job || list_any q (j ∷ js))
put_step q job j parent js true e there rest = refl
put_step q job j parent js false e there rest = ap (λ b. q j || b) (rest there) ∙ or_across (q j) (q job) (list_any q js)

any_put_before : (q : Job → Bool) (job : Job) (parent : Id) (js : List Job) → list_any (is_job_of parent) js ≡ true → list_any q (put_job job parent js) ≡ (q job || list_any q js)
any_put_before q job parent [] there = cc
any_put_before q job parent (j ∷ js) there = put_step q job j parent js (id_eq j.id parent) refl there (any_put_before q job parent js)

left_there : (a b : Bool) → a ≡ false → (a || b) ≡ true → b ≡ true
left_there true b e h = cc
left_there false b e h = h

moved_step : (q : Job → Bool) (child parent : Id) (js : List Job) (o : Option Job) → find (is_job_of child) js ≡ o → id_eq child parent ≡ false → list_any (is_job_of parent) js ≡ true →
    list_any q (option_map_or (λ job. put_job job parent (drop_first (is_job_of child) js)) o js) ≡ list_any q js
moved_step q child parent js None found differ there = refl
moved_step q child parent js (Some job) found differ there =
    let own : job.id ≡ child = id_eq-true job.id child (find-passes (is_job_of child) js job found) in
    let other : is_job_of parent job ≡ false = ap (λ i. id_eq i parent) own ∙ differ in
    any_put_before q job parent (drop_first (is_job_of child) js)
    (left_there (is_job_of parent job) (list_any (is_job_of parent) (drop_first (is_job_of child) js)) other (any_dropped (is_job_of child) (is_job_of parent) job js found ∙ there))
    ∙ any_dropped (is_job_of child) q job js found

pub any_moved : (q : Job → Bool) (child parent : Id) (js : List Job) → id_eq child parent ≡ false → list_any (is_job_of parent) js ≡ true → list_any q (moved_job child parent js) ≡ list_any q js
any_moved q child parent js differ there = moved_step q child parent js (find (is_job_of child) js) refl differ there

pub moved_keeps : (t : ℕ) (child parent : Id) (ls : List (List Job)) → id_eq child parent ≡ false → has_job ls t parent ≡ true → KeepsJobs t (moved_job child parent) ls
moved_keeps t child parent ls differ there other h = any_moved (is_job_of other) child parent (line_at t ls) differ there ∙ h
