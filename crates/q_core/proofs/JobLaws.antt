-- A job that moves in its line, in the line of the ledger.
use Rattle.q_jobs.specs.Jobs.{moved_job, put_job}
use Rattle.std.proofs.Common.{◌≡◌, ℕ, Bool, true, false, cond, List, [], ◌∷◌, map, refl, sym, ap, ◌∙◌, Option, Some, None, option_map, if◌then◌else◌}
use Rattle.std.specs.List.{list_any}
use Rattle.std.specs.Option.{option_map_or}
use Rattle.std.specs.Prelude.{filter, find, not}
use Rattle.q_core.proofs.ListLaws.{find-map, find-none, find-passes}
use Rattle.q_core.proofs.MovedLaws.{not_true, or_false_parts}
use Rattle.q_core.proofs.NameLaws.{and_true_parts, id_eq-true}
use Rattle.q_core.specs.Agrees.{job_of}
use Rattle.q_jobs.specs.declared.job.Job.{Job}
use Rattle.q_model.specs.Ids.{are_distinct, id_eq}
use Rattle.q_model.specs.Ledger.{Ledger}
use Rattle.q_model.specs.Lists.{drop_first}
use Rattle.q_model.specs.Preemptions.{put_before}
use Rattle.q_model.specs.declared.id.Id.{Id}

drop_map_step : {X Y : Type 0} (f : X → Y) (x : X) (xs ds : List X) (es : List Y) → es ≡ map f ds → (b : Bool) → cond b (map f xs) (f x ∷ es) ≡ map f (cond b xs (x ∷ ds))
drop_map_step f x xs ds es h true = refl
drop_map_step f x xs ds es h false = ap (λ ys. f x ∷ ys) h

drop_first-map : {X Y : Type 0} (p : Y → Bool) (f : X → Y) (xs : List X) → drop_first p (map f xs) ≡ map f (drop_first (λ x. p (f x)) xs)
drop_first-map p f [] = refl
drop_first-map p f (x ∷ xs) = drop_map_step f x xs (drop_first (λ y. p (f y)) xs) (drop_first p (map f xs)) (drop_first-map p f xs) (p (f x))

-- who is in a list without an id twice stands there once
others_keep : (child : Id) (ids : List Id) → list_any (λ i. id_eq i child) ids ≡ false → filter (λ x. not (id_eq x child)) ids ≡ ids
others_keep child [] h = refl
others_keep child (x ∷ xs) h =
    let parts = or_false_parts (id_eq x child) (list_any (λ i. id_eq i child) xs) h in
    ap (λ b. cond (not b) (x ∷ filter (λ y. not (id_eq y child)) xs) (filter (λ y. not (id_eq y child)) xs)) parts.0 ∙ ap (λ ys. x ∷ ys) (others_keep child xs parts.1)

distinct_step : (child x : Id) (xs : List Id) → list_any (λ i. id_eq i x) xs ≡ false → drop_first (λ i. id_eq i child) xs ≡ filter (λ i. not (id_eq i child)) xs → (b : Bool) → id_eq x child ≡ b →
    cond b xs (x ∷ drop_first (λ i. id_eq i child) xs) ≡ cond (not b) (x ∷ filter (λ i. not (id_eq i child)) xs) (filter (λ i. not (id_eq i child)) xs)
distinct_step child x xs alone rest true e = sym (others_keep child xs (ap (λ y. list_any (λ i. id_eq i y) xs) (sym (id_eq-true x child e)) ∙ alone))
distinct_step child x xs alone rest false e = ap (λ ys. x ∷ ys) rest

drop_distinct : (child : Id) (ids : List Id) → are_distinct ids ≡ true → drop_first (λ i. id_eq i child) ids ≡ filter (λ i. not (id_eq i child)) ids
drop_distinct child [] h = refl
drop_distinct child (x ∷ xs) h =
    let parts = and_true_parts (not (list_any (λ i. id_eq i x) xs)) (are_distinct xs) h in
    distinct_step child x xs (not_true (list_any (λ i. id_eq i x) xs) parts.0) (drop_distinct child xs parts.1) (id_eq x child) refl

put_map_step : (l : Ledger) (t : ℕ) (child x : Id) (xs ys : List Id) (js : List Job) → js ≡ map (job_of l t) ys → (b : Bool) →
    (if b then job_of l t child ∷ job_of l t x ∷ map (job_of l t) xs else job_of l t x ∷ js) ≡ map (job_of l t) (if b then child ∷ x ∷ xs else x ∷ ys)
put_map_step l t child x xs ys js h true = refl
put_map_step l t child x xs ys js h false = ap (λ ks. job_of l t x ∷ ks) h

put_map : (l : Ledger) (t : ℕ) (child parent : Id) (ids : List Id) → put_job (job_of l t child) parent (map (job_of l t) ids) ≡ map (job_of l t) (put_before child parent ids)
put_map l t child parent [] = refl
put_map l t child parent (x ∷ xs) = put_map_step l t child x xs (put_before child parent xs) (put_job (job_of l t child) parent (map (job_of l t) xs)) (put_map l t child parent xs) (id_eq x parent)

found_on : (child : Id) (ids : List Id) (o : Option Id) → find (λ i. id_eq i child) ids ≡ o → list_any (λ i. id_eq i child) ids ≡ true → o ≡ Some child
found_on child ids None e h = let bad : true ≡ false = sym h ∙ find-none (λ i. id_eq i child) ids e in cc
found_on child ids (Some y) e h = ap Some (id_eq-true y child (find-passes (λ i. id_eq i child) ids y e))

pub moved_map : (l : Ledger) (t : ℕ) (child parent : Id) (ids : List Id) → are_distinct ids ≡ true → list_any (λ i. id_eq i child) ids ≡ true →
    moved_job child parent (map (job_of l t) ids) ≡ map (job_of l t) (put_before child parent (filter (λ x. not (id_eq x child)) ids))
moved_map l t child parent ids single there =
    let jobs = map (job_of l t) ids in
    let dropped : List Job = drop_first (λ (j : Job). id_eq j.id child) jobs in
    ap (λ o. option_map_or (λ job. put_job job parent dropped) o jobs)
    (find-map (λ (j : Job). id_eq j.id child) (job_of l t) ids ∙ ap (option_map (job_of l t)) (found_on child ids (find (λ i. id_eq i child) ids) refl there))
    ∙ ap (put_job (job_of l t child) parent) (drop_first-map (λ (j : Job). id_eq j.id child) (job_of l t) ids ∙ ap (map (job_of l t)) (drop_distinct child ids single))
    ∙ put_map l t child parent (filter (λ x. not (id_eq x child)) ids)
