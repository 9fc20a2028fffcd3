-- What entries do to lines, in the words of a line's own calls.
use Rattle.std.proofs.Common.{◌≡◌, ◌∙◌, ◌∷◌, ◌++◌, ◌+◌, ◌^◌, ◌<◌, [], ap, arith, Bool, cond, false, length, List, map, None, not, Option, option_map, refl, Some, suc, sym, take, true, zero, ℕ}
use Rattle.std.specs.List.{enumerate_from, list_all, list_any}
use Rattle.std.specs.Option.{is_some, option_map_or}
use Rattle.std.specs.Prelude.{◌&&◌, ◌==◌, ◌||◌, filter, find, nat_lt, slice_get}
use Rattle.q_model.proofs.IdLaws.{id_eq-refl, id_eq-true}
use Rattle.q_model.specs.declared.id.Id.{Id}
use Rattle.q_model.specs.declared.rows.Row.{Row}
use Rattle.q_model.specs.Ids.{id_eq}
use Rattle.q_core.proofs.AtHandLaws.{filter_whole}
use Rattle.q_core.proofs.ListLaws.{find-passes}
use Rattle.q_core.specs.Tidied.{leaves_among, stays_among, tidied_jobs, unread_among, waits_for}
use Rattle.q_pool.specs.declared.slot.Slot.{Slot}
use Rattle.q_core.specs.Choosing.{is_fresh_among, is_fresh_in}
use Rattle.q_core.specs.Loading.{can_join, joined_line, joined_within, joins_in}
use Rattle.q_core.specs.Sending.{charged_job, preempted_line, started_job, with_charge, with_start}
use Rattle.q_jobs.proofs.LineWalks.{flipped}
use Rattle.q_chains.proofs.Numbers.{flipped as flipped_test}
use Rattle.q_turns.proofs.WithLine.{eq-self}
use Rattle.q_jobs.specs.declared.job.Job.{Job}
use Rattle.q_jobs.specs.Jobs.{AreOfOthers, behind_jobs, changed_job, fresh_job, is_job_of, is_job_of_another, moved_job}

join_parts : (a b : Bool) → (a && b) ≡ true → (a ≡ true) × (b ≡ true)
join_parts true b h = (refl, h)
join_parts false b h = cc

-- where each has room
pub joined_over : (id : Id) (rows : List Row) (room n : ℕ) (ls : List (List Job)) → list_all (can_join id rows room) (enumerate_from n ls) ≡ true →
    map (joined_within id rows room) (enumerate_from n ls) ≡ map (joined_line id rows) (enumerate_from n ls)
joined_over id rows room n [] h = refl
joined_over id rows room n (js ∷ ls) h =
    let parts = join_parts (can_join id rows room (n, js)) (list_all (can_join id rows room) (enumerate_from (n + 1) ls)) h in
    ap (λ t. cond t (joined_line id rows (n, js)) js ∷ map (joined_within id rows room) (enumerate_from (n + 1) ls)) parts.0
    ∙ ap (λ ks. joined_line id rows (n, js) ∷ ks) (joined_over id rows room (n + 1) ls parts.1)

-- A message joins one line, or doesn't.
module _ (id : Id) (rows : List Row) (room at : ℕ) (js : List Job) where
  join_step : (j r : Bool) → j ≡ true → r ≡ true → cond (not j || r) (cond j (js ++ fresh_job id ∷ []) js) js ≡ js ++ fresh_job id ∷ []
  join_step true true e f = refl
  join_step true false e f = cc
  join_step false r e f = cc

  pub joined_there : joins_in id rows at js ≡ true → nat_lt (length js) room ≡ true → joined_within id rows room (at, js) ≡ js ++ fresh_job id ∷ []
  joined_there h k = join_step (joins_in id rows at js) (nat_lt (length js) room) h k

  not_step : (j r : Bool) → j ≡ false → cond (not j || r) (cond j (js ++ fresh_job id ∷ []) js) js ≡ js
  not_step true r e = cc
  not_step false r e = refl

  pub joined_not : joins_in id rows at js ≡ false → joined_within id rows room (at, js) ≡ js
  joined_not h = not_step (joins_in id rows at js) (nat_lt (length js) room) h

  full_step : (j r : Bool) → r ≡ false → cond (not j || r) (cond j (js ++ fresh_job id ∷ []) js) js ≡ js
  full_step true true e = cc
  full_step true false e = refl
  full_step false r e = refl

  pub joined_full : nat_lt (length js) room ≡ false → joined_within id rows room (at, js) ≡ js
  joined_full h = full_step (joins_in id rows at js) (nat_lt (length js) room) h

-- A start counts in the line of its transport alone.
and_false : (b : Bool) → (b && false) ≡ false
and_false true = refl
and_false false = refl

and_true : (b : Bool) → (b && true) ≡ b
and_true true = refl
and_true false = refl

pub started_elsewhere : (id : Id) (transport at : ℕ) (js : List Job) → (transport == at) ≡ false → map (started_job id transport at) js ≡ js
started_elsewhere id transport at [] h = refl
started_elsewhere id transport at (j ∷ js) h =
    ap (λ t. cond (id_eq id j.id && t) (with_start j) j ∷ map (started_job id transport at) js) h
    ∙ ap (λ t. cond t (with_start j) j ∷ map (started_job id transport at) js) (and_false (id_eq id j.id))
    ∙ ap (λ ks. j ∷ ks) (started_elsewhere id transport at js h)

pub started_here : (id : Id) (transport at : ℕ) (js : List Job) → (transport == at) ≡ true → map (started_job id transport at) js ≡ map (changed_job id with_start) js
started_here id transport at [] h = refl
started_here id transport at (j ∷ js) h =
    ap (λ t. cond (id_eq id j.id && t) (with_start j) j ∷ map (started_job id transport at) js) h
    ∙ ap (λ t. cond t (with_start j) j ∷ map (started_job id transport at) js) (and_true (id_eq id j.id) ∙ flipped id j.id)
    ∙ ap (λ ks. changed_job id with_start j ∷ ks) (started_here id transport at js h)

-- So does a charge.
pub charged_elsewhere : (id : Id) (transport need left at : ℕ) (js : List Job) → (transport == at) ≡ false → map (charged_job id transport need left at) js ≡ js
charged_elsewhere id transport need left at [] h = refl
charged_elsewhere id transport need left at (j ∷ js) h =
    ap (λ t. cond (id_eq id j.id && t) (with_charge need left j) j ∷ map (charged_job id transport need left at) js) h
    ∙ ap (λ t. cond t (with_charge need left j) j ∷ map (charged_job id transport need left at) js) (and_false (id_eq id j.id))
    ∙ ap (λ ks. j ∷ ks) (charged_elsewhere id transport need left at js h)

pub charged_here : (id : Id) (transport need left at : ℕ) (js : List Job) → (transport == at) ≡ true → map (charged_job id transport need left at) js ≡ map (changed_job id (with_charge need left)) js
charged_here id transport need left at [] h = refl
charged_here id transport need left at (j ∷ js) h =
    ap (λ t. cond (id_eq id j.id && t) (with_charge need left j) j ∷ map (charged_job id transport need left at) js) h
    ∙ ap (λ t. cond t (with_charge need left j) j ∷ map (charged_job id transport need left at) js) (and_true (id_eq id j.id) ∙ flipped id j.id)
    ∙ ap (λ ks. changed_job id (with_charge need left) j ∷ ks) (charged_here id transport need left at js h)

-- Jobs that have nothing left leave by their message.
out_step : (q r : Job → Bool) (j : Job) (js : List Job) (t u : Bool) → r j ≡ t → q j ≡ u → (r j ≡ false → q j ≡ false) → filter q (filter r js) ≡ filter q js →
    filter q (cond t (j ∷ filter r js) (filter r js)) ≡ cond u (j ∷ filter q js) (filter q js)
out_step q r j js true u e f only rest = ap (λ t. cond t (j ∷ filter q (filter r js)) (filter q (filter r js))) f ∙ ap (λ ks. cond u (j ∷ ks) ks) rest
out_step q r j js false false e f only rest = rest
out_step q r j js false true e f only rest = let no = only e in cc

pub filter_out : (q r : Job → Bool) → ((j : Job) → r j ≡ false → q j ≡ false) → (js : List Job) → filter q (filter r js) ≡ filter q js
filter_out q r only [] = refl
filter_out q r only (j ∷ js) = out_step q r j js (r j) (q j) refl refl (only j) (filter_out q r only js)

kept_more : (r : Job → Bool) (j : Job) (js : List Job) (t : Bool) → length (filter r js) < length js + 1 → length (cond t (j ∷ filter r js) (filter r js)) < suc (length js) + 1
kept_more r j js true h = omega (arith, h)
kept_more r j js false h = omega (arith, h)

kept_few : (r : Job → Bool) (js : List Job) → length (filter r js) < length js + 1
kept_few r [] = omega arith
kept_few r (j ∷ js) = kept_more r j js (r j) (kept_few r js)

-- one that is found leaves
gone_step : (p : Job → Bool) (i : Id) (j : Job) (js : List Job) (t u : Bool) → p j ≡ t → id_eq j.id i ≡ u → option_map (λ (j : Job). j.id) (cond t (Some j) (find p js)) ≡ Some i →
    (option_map (λ (j : Job). j.id) (find p js) ≡ Some i → length (filter (is_job_of_another i) js) < length js) →
    length (cond (not u) (j ∷ filter (is_job_of_another i) js) (filter (is_job_of_another i) js)) < suc (length js)
gone_step p i j js t true e f h rest = let few = kept_few (is_job_of_another i) js in omega (arith, few)
gone_step p i j js true false e f h rest =
    let same : j.id ≡ i = cc in
    let own : id_eq j.id i ≡ true = ap (λ k. id_eq j.id k) (sym same) ∙ id_eq-refl j.id in
    cc
gone_step p i j js false false e f h rest = let less = rest h in omega (arith, less)

pub gone_fewer : (p : Job → Bool) (i : Id) (js : List Job) → option_map (λ (j : Job). j.id) (find p js) ≡ Some i → length (filter (is_job_of_another i) js) < length js
gone_fewer p i [] h = cc
gone_fewer p i (j ∷ js) h = gone_step p i j js (p j) (id_eq j.id i) refl refl h (gone_fewer p i js)

-- A message that can start and whose job is fresh stands behind the current job, or is its own.
none_fresh_step : (id : Id) (j : Job) (js : List Job) (t : Bool) → id_eq j.id id ≡ t → cond t (Some j) (find (is_job_of id) js) ≡ None → (find (is_job_of id) js ≡ None → is_fresh_among js id ≡ false) →
    ((id_eq id j.id && (j.starts == 0)) || is_fresh_among js id) ≡ false
none_fresh_step id j js true e h rest = cc
none_fresh_step id j js false e h rest = ap (λ t. (t && (j.starts == 0)) || is_fresh_among js id) (flipped id j.id ∙ e) ∙ rest h

pub none_fresh : (id : Id) (js : List Job) → find (is_job_of id) js ≡ None → is_fresh_among js id ≡ false
none_fresh id [] h = refl
none_fresh id (j ∷ js) h = none_fresh_step id j js (id_eq j.id id) refl h (none_fresh id js)

or_false : (b : Bool) → (b || false) ≡ b
or_false true = refl
or_false false = refl

fresh_step : (id : Id) (j : Job) (js : List Job) (t : Bool) → id_eq j.id id ≡ t → find (is_job_of j.id) js ≡ None → is_fresh_among js id ≡ is_fresh_in js id →
    ((id_eq id j.id && (j.starts == 0)) || is_fresh_among js id) ≡ option_map_or (λ (k : Job). k.starts == 0) (cond t (Some j) (find (is_job_of id) js)) false
fresh_step id j js true e none rest =
    let lacks : find (is_job_of id) js ≡ None = ap (λ i. find (is_job_of i) js) (sym (id_eq-true j.id id e)) ∙ none in
    ap (λ t. (t && (j.starts == 0)) || is_fresh_among js id) (flipped id j.id ∙ e)
    ∙ ap (λ b. (j.starts == 0) || b) (none_fresh id js lacks) ∙ or_false (j.starts == 0)
fresh_step id j js false e none rest =
    ap (λ t. (t && (j.starts == 0)) || is_fresh_among js id) (flipped id j.id ∙ e) ∙ rest

pub fresh_in : (id : Id) (js : List Job) → AreOfOthers js → is_fresh_among js id ≡ is_fresh_in js id
fresh_in id [] apart = refl
fresh_in id (j ∷ js) apart = fresh_step id j js (id_eq j.id id) refl apart.0 (fresh_in id js apart.1)

apart_step : (can : Id → Bool) (a b : Id) (t : Bool) → id_eq a b ≡ t → can a ≡ false → can b ≡ true → t ≡ false
apart_step can a b true e fails able = let bad : false ≡ true = sym fails ∙ ap can (id_eq-true a b e) ∙ able in cc
apart_step can a b false e fails able = refl

apart_from : (can : Id → Bool) (a b : Id) → can a ≡ false → can b ≡ true → id_eq a b ≡ false
apart_from can a b fails able = apart_step can a b (id_eq a b) refl fails able

own_step : (id : Id) (j : Job) (js : List Job) (t : Bool) → id_eq id j.id ≡ t → AreOfOthers (j ∷ js) → (not t && is_fresh_in (j ∷ js) id) ≡ is_fresh_among js id
own_step id j js true e apart = sym (none_fresh id js (ap (λ i. find (is_job_of i) js) (id_eq-true id j.id e) ∙ apart.0))
own_step id j js false e apart =
    ap (λ t. option_map_or (λ (k : Job). k.starts == 0) (cond t (Some j) (find (is_job_of id) js)) false) (flipped j.id id ∙ e)
    ∙ sym (fresh_in id js apart.1)

-- the walk to the current job
behind_step : (can : Id → Bool) (id : Id) (parent j : Job) (js : List Job) (t : Bool) → can j.id ≡ t → can id ≡ true → AreOfOthers (j ∷ js) → cond t (Some j) (find (λ (k : Job). can k.id) js) ≡ Some parent →
    (find (λ (k : Job). can k.id) js ≡ Some parent → (not (id_eq id parent.id) && is_fresh_in js id) ≡ is_fresh_among (behind_jobs parent.id js) id) →
    (not (id_eq id parent.id) && is_fresh_in (j ∷ js) id) ≡ is_fresh_among (behind_jobs parent.id (j ∷ js)) id
behind_step can id parent j js true e able apart h rest =
    let same : j ≡ parent = cc in
    ap (λ (p : Job). not (id_eq id p.id) && is_fresh_in (j ∷ js) id) (sym same)
    ∙ own_step id j js (id_eq id j.id) refl apart
    ∙ sym (ap (λ t. is_fresh_among (cond t js (behind_jobs j.id js)) id) (id_eq-refl j.id))
    ∙ ap (λ (p : Job). is_fresh_among (behind_jobs p.id (j ∷ js)) id) same
behind_step can id parent j js false e able apart h rest =
    let passed : id_eq j.id id ≡ false = apart_from can j.id id e able in
    let held = find-passes (λ (k : Job). can k.id) js parent h in
    let other : id_eq j.id parent.id ≡ false = apart_from can j.id parent.id e held in
    ap (λ t. not (id_eq id parent.id) && option_map_or (λ (k : Job). k.starts == 0) (cond t (Some j) (find (is_job_of id) js)) false) passed
    ∙ rest h
    ∙ sym (ap (λ t. is_fresh_among (cond t js (behind_jobs parent.id js)) id) other)

-- where the first job that can start is the parent's
pub fresh_behind : (can : Id → Bool) (id : Id) (parent : Job) (js : List Job) → can id ≡ true → AreOfOthers js → find (λ (k : Job). can k.id) js ≡ Some parent →
    (not (id_eq id parent.id) && is_fresh_in js id) ≡ is_fresh_among (behind_jobs parent.id js) id
fresh_behind can id parent [] able apart h = cc
fresh_behind can id parent (j ∷ js) able apart h = behind_step can id parent j js (can j.id) refl able apart h (fresh_behind can id parent js able apart.1)

able_step : (a f g b : Bool) → (b ≡ true → (a && f) ≡ g) → (a && f && b) ≡ (g && b)
able_step true true g true h = ap (λ t. t && true) (h refl)
able_step true false g true h = ap (λ t. t && true) (h refl)
able_step false f g true h = ap (λ t. t && true) (h refl)
able_step true true g false h = sym (and_false g)
able_step true false g false h = sym (and_false g)
able_step false f g false h = sym (and_false g)

pub able_behind : (can : Id → Bool) (id : Id) (parent : Job) (js : List Job) → AreOfOthers js → find (λ (k : Job). can k.id) js ≡ Some parent →
    (not (id_eq id parent.id) && is_fresh_in js id && can id) ≡ (is_fresh_among (behind_jobs parent.id js) id && can id)
able_behind can id parent js apart h = able_step (not (id_eq id parent.id)) (is_fresh_in js id) (is_fresh_among (behind_jobs parent.id js) id) (can id) (λ able. fresh_behind can id parent js able apart h)

pub able_first : (v r a f g b : Bool) → v ≡ (a && f) → v ≡ true → r ≡ b → (a && f && b) ≡ (g && b) → r ≡ (g && b)
able_first v r true true g b is holds e h = e ∙ h
able_first v r true false g b is holds e h = cc
able_first v r false f g b is holds e h = cc

pub able_not : (v a f g b : Bool) → v ≡ (a && f) → v ≡ false → (a && f && b) ≡ (g && b) → v ≡ (g && b)
able_not v true true g b is holds h = cc
able_not v true false g b is holds h = holds ∙ h
able_not v false f g b is holds h = holds ∙ h

-- Whether a message joins a line.
any_step : (id : Id) (j : Job) (js : List Job) (t : Bool) → is_some (find (is_job_of id) js) ≡ list_any (λ k. id_eq id k.id) js → is_some (cond t (Some j) (find (is_job_of id) js)) ≡ (t || list_any (λ k. id_eq id k.id) js)
any_step id j js true h = refl
any_step id j js false h = h

pub any_job : (id : Id) (js : List Job) → is_some (find (is_job_of id) js) ≡ list_any (λ j. id_eq id j.id) js
any_job id [] = refl
any_job id (j ∷ js) = any_step id j js (id_eq j.id id) (any_job id js) ∙ ap (λ t. t || list_any (λ k. id_eq id k.id) js) (flipped j.id id)

turned : (a b : Bool) → a ≡ not b → b ≡ not a
turned a true h = ap not (sym h)
turned a false h = ap not (sym h)

pub joins_none : (id : Id) (rows : List Row) (at : ℕ) (js : List Job) (r : Bool) → list_any (λ r. r.site.transport == at) rows ≡ true → is_some (find (is_job_of id) js) ≡ not r → r ≡ joins_in id rows at js
joins_none id rows at js r there h =
    turned (is_some (find (is_job_of id) js)) r h ∙ ap not (any_job id js)
    ∙ sym (ap (λ t. t && not (list_any (λ j. id_eq id j.id) js)) there)

none_of : (o : Option Job) → is_some o ≡ false → o ≡ None
none_of None h = refl
none_of (Some j) h = cc

second : (a b : Bool) → (a && not b) ≡ true → b ≡ false
second true true h = cc
second true false h = refl
second false b h = cc

pub absent_from : (id : Id) (rows : List Row) (at : ℕ) (js : List Job) → joins_in id rows at js ≡ true → find (is_job_of id) js ≡ None
absent_from id rows at js h =
    none_of (find (is_job_of id) js) (any_job id js ∙ second (list_any (λ r. r.site.transport == at) rows) (list_any (λ j. id_eq id j.id) js) h)

-- An account that was changed is of the same message.
start_step : (j : Job) (t : Bool) → (cond t (record j { starts = j.starts + 1 }) j).id ≡ j.id
start_step j true = refl
start_step j false = refl

pub own_started : (id : Id) (new j : Job) (js : List Job) → new ≡ with_start j → find (is_job_of id) js ≡ Some j → new.id ≡ id
own_started id new j js is found =
    ap (λ (k : Job). k.id) is ∙ start_step j (nat_lt j.starts (2 ^ 48)) ∙ id_eq-true j.id id (find-passes (is_job_of id) js j found)

pub own_charged : (id : Id) (need left : ℕ) (new j : Job) (js : List Job) → new ≡ with_charge need left j → find (is_job_of id) js ≡ Some j → new.id ≡ id
own_charged id need left new j js is found = ap (λ (k : Job). k.id) is ∙ id_eq-true j.id id (find-passes (is_job_of id) js j found)

-- A preemption is in the line of its transport alone.
pub preempted_elsewhere : (child parent : Id) (transport need left at : ℕ) (js : List Job) → (transport == at) ≡ false → preempted_line child parent transport need left (at, js) ≡ js
preempted_elsewhere child parent transport need left at js h =
    ap (λ t. cond t (moved_job child parent (map (charged_job parent transport need left at) js)) (map (charged_job parent transport need left at) js)) (flipped_test at transport ∙ h)
    ∙ charged_elsewhere parent transport need left at js h

pub preempted_here : (child parent : Id) (transport need left : ℕ) (js : List Job) → preempted_line child parent transport need left (transport, js) ≡ moved_job child parent (map (changed_job parent (with_charge need left)) js)
preempted_here child parent transport need left js =
    ap (λ t. cond t (moved_job child parent (map (charged_job parent transport need left transport) js)) (map (charged_job parent transport need left transport) js)) (eq-self transport)
    ∙ ap (moved_job child parent) (charged_here parent transport need left transport js (eq-self transport))

-- What stays of a line.
found_id : (p : Job → Bool) (i : Id) (js : List Job) (o : Option Job) → find p js ≡ o → option_map (λ (j : Job). j.id) o ≡ Some i → ((j : Job) × (p j ≡ true) × (j.id ≡ i))
found_id p i js None e h = cc
found_id p i js (Some j) e h = (j, find-passes p js j e, cc)

not_true : (b : Bool) → not b ≡ true → b ≡ false
not_true true h = cc
not_true false h = refl

none_id : (o : Option Job) → option_map (λ (j : Job). j.id) o ≡ None → o ≡ None
none_id None h = refl
none_id (Some j) h = cc

same_id : (b : Bool) → not b ≡ false → b ≡ true
same_id true h = refl
same_id false h = cc

pub tidied_out : (a : List Slot) (w : List Row) (n : ℕ) (i : Id) (js : List Job) → option_map (λ (j : Job). j.id) (find (leaves_among a w n) js) ≡ Some i →
    tidied_jobs a w n (filter (is_job_of_another i) js) ≡ tidied_jobs a w n js
tidied_out a w n i js h =
    let f = found_id (leaves_among a w n) i js (find (leaves_among a w n) js) refl h in
    let gone : stays_among a w n i ≡ false = ap (stays_among a w n) (sym f.2) ∙ not_true (stays_among a w n f.0.id) f.1 in
    filter_out (λ j. stays_among a w n j.id) (is_job_of_another i) (λ j e. ap (stays_among a w n) (id_eq-true j.id i (same_id (id_eq j.id i) e)) ∙ gone) js

or_parts : (u b : Bool) → (not u || b) ≡ false → b ≡ false
or_parts true b h = h
or_parts false b h = cc

-- of a message that has nothing left no row waits
pub waits_not : (a : List Slot) (w : List Row) (n : ℕ) (i : Id) → stays_among a w n i ≡ false → waits_for w i n ≡ false
waits_not a w n i h = or_parts (unread_among a i == 0) (waits_for w i n) h

pub stays_not : (a : List Slot) (w : List Row) (n : ℕ) (i : Id) (js : List Job) → option_map (λ (j : Job). j.id) (find (leaves_among a w n) js) ≡ Some i → waits_for w i n ≡ false
stays_not a w n i js h =
    let f = found_id (leaves_among a w n) i js (find (leaves_among a w n) js) refl h in
    waits_not a w n i (ap (stays_among a w n) (sym f.2) ∙ not_true (stays_among a w n f.0.id) f.1)

pub none_leave : (a : List Slot) (w : List Row) (n : ℕ) (js : List Job) → option_map (λ (j : Job). j.id) (find (leaves_among a w n) js) ≡ None → tidied_jobs a w n js ≡ js
none_leave a w n js h = filter_whole (λ (j : Job). stays_among a w n j.id) js (none_id (find (leaves_among a w n) js) h)

-- The elements before a place, where one more is looked at.
pub all_more : {X : Type 0} (p : (ℕ × X) → Bool) (n i j : ℕ) (xs : List X) (x : X) → j ≡ n + i → slice_get xs i ≡ Some x → list_all p (enumerate_from n (take i xs)) ≡ true → p (j, x) ≡ true →
    list_all p (enumerate_from n (take (suc i) xs)) ≡ true
all_more p n i j [] x e there h q = cc
all_more p n zero j (y ∷ ys) x e there h q =
    let count : j ≡ n = omega (arith, e) in
    let is : y ≡ x = cc in
    ap (λ z. p (n, z) && true) is ∙ ap (λ m. p (m, x) && true) (sym count) ∙ ap (λ t. t && true) q
all_more p n (suc i) j (y ∷ ys) x e there h q =
    let parts = join_parts (p (n, y)) (list_all p (enumerate_from (n + 1) (take i ys))) h in
    let count : j ≡ n + 1 + i = omega (arith, e) in
    ap (λ t. t && list_all p (enumerate_from (n + 1) (take (suc i) ys))) parts.0 ∙ all_more p (n + 1) i j ys x count there parts.1 q

-- one that fails is enough
pub not_all : {X : Type 0} (p : (ℕ × X) → Bool) (n i j : ℕ) (xs : List X) (x : X) → j ≡ n + i → slice_get xs i ≡ Some x → p (j, x) ≡ false → list_all p (enumerate_from n xs) ≡ false
not_all p n i j [] x e there q = cc
not_all p n zero j (y ∷ ys) x e there q =
    let count : j ≡ n = omega (arith, e) in
    let is : y ≡ x = cc in
    ap (λ z. p (n, z) && list_all p (enumerate_from (n + 1) ys)) is ∙ ap (λ m. p (m, x) && list_all p (enumerate_from (n + 1) ys)) (sym count) ∙ ap (λ t. t && list_all p (enumerate_from (n + 1) ys)) q
not_all p n (suc i) j (y ∷ ys) x e there q =
    let count : j ≡ n + 1 + i = omega (arith, e) in
    ap (λ t. p (n, y) && t) (not_all p (n + 1) i j ys x count there q) ∙ and_false (p (n, y))
