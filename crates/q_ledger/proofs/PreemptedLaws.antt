-- A job goes before the current one in its line.
use Rattle.std.proofs.Common.{◌≡◌, ℕ, ◌+◌, ◌<◌, ◌≤◌, zero, suc, Bool, true, false, cond, not, List, [], ◌∷◌, length, map, get_or, set, insert, position, Option, Some, None, inl, inr, refl, sym, ap, ◌∙◌, subst, arith, eq-eqb, eqb-true, if◌then◌else◌}
use Rattle.std.proofs.lemmas.Grind.{common_steps}
use Rattle.std.proofs.lemmas.Bool.{and_from, and_parts, or_right}
use Rattle.std.specs.List.{enumerate_from, list_all, list_any, position_or_len}
use Rattle.std.specs.Option.{option_map_or}
use Rattle.std.specs.Prelude.{◌&&◌, ◌==◌, find}
use Rattle.q_bare.specs.CountedRows.{best_by, candidates_by, is_best_by, is_candidate_by, may_preempt_by, pays_by}
use Rattle.q_bare.specs.Counts.{Counts}
use Rattle.q_laws.proofs.Members.{all_filtered, any_from, any_in, in_filtered, least_in}
use Rattle.q_ledger.proofs.BareLaws.{bare_same}
use Rattle.q_ledger.proofs.HeldLaws.{held_bare}
use Rattle.q_ledger.proofs.ListLaws.{position-find}
use Rattle.q_ledger.proofs.QuietLaws.{all_stay, bare_tidy, left_tidy}
use Rattle.q_ledger.specs.Beside.{IsBeside, IsOfLedger}
use Rattle.q_ledger.specs.Changed.{ids_without, with_ledger}
use Rattle.q_ledger.specs.State.{State}
use Rattle.q_ledger.specs.Taking.{IsChanged}
use Rattle.q_model.specs.declared.entry.Entry.TheVariants as entries
use Rattle.q_model.specs.declared.id.Id.{Id}
use Rattle.q_model.specs.declared.rows.Admitted.{Admitted}
use Rattle.q_model.specs.declared.rows.Row.{Row}
use Rattle.q_model.specs.Accounts.{job_left}
use Rattle.q_model.specs.Candidates.{ids_behind, is_better}
use Rattle.q_model.specs.Ids.{id_eq}
use Rattle.q_model.specs.Ledger.{Ledger}
use Rattle.q_model.specs.Memory.{unread_of}
use Rattle.q_model.specs.Preemptions.{after_preempt, is_current, preempt_line, put_before}
use Rattle.q_model.specs.Settings.{World}
use Rattle.q_model.specs.Startable.{can_start, is_startable, line_of}
use Rattle.q_model.specs.Step.{stays}
use Rattle.q_model.proofs.IdLaws.{id_eq-true}

-- ---- a job is put before another

put_step : (child parent x : Id) (xs : List Id) (n : ℕ) → (n < length xs → insert xs n child ≡ put_before child parent xs) → (b : Bool) → cond (not b) (1 + n) 0 < length (x ∷ xs) →
    insert (x ∷ xs) (cond (not b) (1 + n) 0) child ≡ (if b then child ∷ x ∷ xs else x ∷ put_before child parent xs)
put_step child parent x xs n rest true h = refl
put_step child parent x xs n rest false h = let e : 1 + n ≡ suc n = omega arith in let less : n < length xs = omega (arith, h) in rw e (ap (λ ys. x ∷ ys) (rest less))

put_at : (child parent : Id) (xs : List Id) → position_or_len (λ x. id_eq x parent) xs < length xs → insert xs (position_or_len (λ x. id_eq x parent) xs) child ≡ put_before child parent xs
put_at child parent [] h = absurd (omega (arith, h))
put_at child parent (x ∷ xs) h = put_step child parent x xs (position_or_len (λ y. id_eq y parent) xs) (put_at child parent xs) (id_eq x parent) h

pub put_Some : (child parent : Id) (xs : List Id) (at : ℕ) → position (λ x. id_eq x parent) xs ≡ Some at → insert xs at child ≡ put_before child parent xs
put_Some child parent xs at h =
    let e : at ≡ position_or_len (λ (x : Id). id_eq x parent) xs = grind (arith, common_steps, h) in
    let within : position_or_len (λ (x : Id). id_eq x parent) xs < length xs = grind (arith, common_steps, h) in
    ap (λ n. insert xs n child) e ∙ put_at child parent xs within

none_step : (child parent x : Id) (xs : List Id) → (find (λ y. id_eq y parent) xs ≡ None → xs ≡ put_before child parent xs) → (b : Bool) → cond b (Some x) (find (λ y. id_eq y parent) xs) ≡ None →
    (x ∷ xs) ≡ (if b then child ∷ x ∷ xs else x ∷ put_before child parent xs)
none_step child parent x xs rest true h = absurd cc
none_step child parent x xs rest false h = ap (λ ys. x ∷ ys) (rest h)

put_unfound : (child parent : Id) (xs : List Id) → find (λ x. id_eq x parent) xs ≡ None → xs ≡ put_before child parent xs
put_unfound child parent [] h = refl
put_unfound child parent (x ∷ xs) h = none_step child parent x xs (put_unfound child parent xs) (id_eq x parent) h

pub put_None : (child parent : Id) (xs : List Id) → position (λ x. id_eq x parent) xs ≡ None → xs ≡ put_before child parent xs
put_None child parent xs h = elim (position-find (λ (x : Id). id_eq x parent) xs) [
  | inl n ↦ put_unfound child parent xs n.1
  | inr f ↦ let bad : None ≡ Some f.0 = sym h ∙ f.2.place in absurd cc
]

-- ---- the line of one transport is changed

not_same : (n t : ℕ) → (n ≡ t → ⊥) → (n == t) ≡ false
not_same n t apart = which (n == t) refl
  where
    which : (b : Bool) → (n == t) ≡ b → b ≡ false
    which false e = refl
    which true e = absurd (apart (eqb-true n t e))

line_other : (child parent : Id) (t n : ℕ) (ids : List Id) → (n ≡ t → ⊥) → preempt_line child parent t (n, ids) ≡ ids
line_other child parent t n ids apart = ap (λ b. if b then put_before child parent (ids_without child ids) else ids) (not_same n t apart)

lines_beyond : (child parent : Id) (t n : ℕ) (lines : List (List Id)) → t < n → map (preempt_line child parent t) (enumerate_from n lines) ≡ lines
lines_beyond child parent t n [] h = refl
lines_beyond child parent t n (ids ∷ lines) h =
    ap (λ x. x ∷ map (preempt_line child parent t) (enumerate_from (n + 1) lines)) (line_other child parent t n ids (λ e. omega (arith, h, e)))
    ∙ ap (λ xs. ids ∷ xs) (lines_beyond child parent t (n + 1) lines (omega (arith, h)))

pub line_set : (child parent : Id) (t i n : ℕ) (lines : List (List Id)) (ids : List Id) → t ≡ n + i → i < length lines → ids ≡ get_or lines i ids →
    set lines i (put_before child parent (ids_without child ids)) ≡ map (preempt_line child parent t) (enumerate_from n lines)
line_set child parent t i n [] ids e h r = absurd (omega (arith, h))
line_set child parent t zero n (x ∷ xs) ids e h r =
    let here : (n == t) ≡ true = eq-eqb n t (omega (arith, e)) in
    ap (λ ys. put_before child parent (ids_without child ys) ∷ xs) r
    ∙ ap (λ b. (if b then put_before child parent (ids_without child x) else x) ∷ xs) (sym here)
    ∙ ap (λ ys. preempt_line child parent t (n, x) ∷ ys) (sym (lines_beyond child parent t (n + 1) xs (omega (arith, e))))
line_set child parent t (suc i) n (x ∷ xs) ids e h r =
    ap (λ ys. x ∷ ys) (line_set child parent t i (n + 1) xs ids (omega (arith, e)) (omega (arith, h)) r)
    ∙ ap (λ y. y ∷ map (preempt_line child parent t) (enumerate_from (n + 1) xs)) (sym (line_other child parent t n x (λ same. omega (arith, e, same))))

pub lines_within : (child parent : Id) (t n : ℕ) (lines : List (List Id)) → n + length lines ≤ t → lines ≡ map (preempt_line child parent t) (enumerate_from n lines)
lines_within child parent t n [] h = refl
lines_within child parent t n (ids ∷ lines) h =
    ap (λ xs. ids ∷ xs) (lines_within child parent t (n + 1) lines (omega (arith, h)))
    ∙ ap (λ x. x ∷ map (preempt_line child parent t) (enumerate_from (n + 1) lines)) (sym (line_other child parent t n ids (λ same. omega (arith, h, same))))

-- ---- who stays in the line

put_all : (p : Id → Bool) (child parent : Id) → p child ≡ true → (ids : List Id) → list_all p ids ≡ true → list_all p (put_before child parent ids) ≡ true
put_all p child parent h [] k = refl
put_all p child parent h (x ∷ xs) k = which (id_eq x parent) (and_parts (p x) (list_all p xs) k) (put_all p child parent h xs)
  where
    which : (b : Bool) → (p x ≡ true) × (list_all p xs ≡ true) → (list_all p xs ≡ true → list_all p (put_before child parent xs) ≡ true) →
        list_all p (if b then child ∷ x ∷ xs else x ∷ put_before child parent xs) ≡ true
    which true two rest = and_from (p child) (p x && list_all p xs) h (and_from (p x) (list_all p xs) two.0 two.1)
    which false two rest = and_from (p x) (list_all p (put_before child parent xs)) two.0 (rest two.1)

lines_put : (l : Ledger) (child parent : Id) (t : ℕ) → stays l t child ≡ true → (n : ℕ) (lines : List (List Id)) → all_stay l n lines ≡ true → all_stay l n (map (preempt_line child parent t) (enumerate_from n lines)) ≡ true
lines_put l child parent t h n [] k = refl
lines_put l child parent t h n (ids ∷ lines) k =
    let two = and_parts (list_all (stays l n) ids) (all_stay l (n + 1) lines) k in
    and_from (list_all (stays l n) (preempt_line child parent t (n, ids))) (all_stay l (n + 1) (map (preempt_line child parent t) (enumerate_from (n + 1) lines)))
    (which (n == t) refl two.0) (lines_put l child parent t h (n + 1) lines two.1)
  where
    which : (b : Bool) → (n == t) ≡ b → list_all (stays l n) ids ≡ true → list_all (stays l n) (if b then put_before child parent (ids_without child ids) else ids) ≡ true
    which false e all = all
    which true e all =
        put_all (stays l n) child parent (ap (λ k. stays l k child) (eqb-true n t e) ∙ h) (ids_without child ids) (all_filtered (stays l n) (λ x. not (id_eq x child)) ids all)

-- ---- the job can start

-- the best candidate can start
best_starts : (c : Counts) (w : World) (l : Ledger) (t : ℕ) (parent child : Id) → is_best_by c w l t parent child ≡ true → can_start w l t child ≡ true
best_starts c w l t parent child best = on (best_by c w l t parent) refl best
  where
    on : (o : Option Id) → best_by c w l t parent ≡ o → option_map_or (λ b. id_eq b child) o false ≡ true → can_start w l t child ≡ true
    on None e h = absurd cc
    on (Some b) e h =
        let good = (in_filtered (is_candidate_by c w l t parent) b (map (λ (a : Admitted). a.id) l.admitted) (least_in (is_better l t) b (candidates_by c w l t parent) e)).1 in
        let first = not (w.settings.slot_cost == 0) && list_any (id_eq b) (ids_behind parent (line_of l t)) && (c.deliveries_of b t == 0) in
        let one = and_parts (first && can_start w l t b) (pays_by c w l t parent (job_left l b t)) good in
        subst (λ i. can_start w l t i ≡ true) (id_eq-true b child h) (and_parts first (can_start w l t b) one.0).1

-- who can start stays
starter_stays : (w : World) (l : Ledger) (t : ℕ) (id : Id) → can_start w l t id ≡ true → stays l t id ≡ true
starter_stays w l t id h =
    let one = any_in (λ (r : Row). id_eq r.id id && (r.site.transport == t) && is_startable w l r) l.waiting h in
    let r = one.0 in
    or_right (not (unread_of l id == 0)) (list_any (λ (x : Row). id_eq x.id id && (x.site.transport == t)) l.waiting)
    (any_from (λ (x : Row). id_eq x.id id && (x.site.transport == t)) r l.waiting one.1 (and_parts (id_eq r.id id && (r.site.transport == t)) (is_startable w l r) one.2).0)

pub preempt_law : (w : World) (c : Counts) (s : State) (child parent : Id) (t need : ℕ) → IsOfLedger w c s.ledger → IsBeside s → may_preempt_by c w s.ledger child parent t need ≡ true →
    IsChanged w s.ledger (entries.Preempt child parent t need) (with_ledger s (after_preempt s.ledger child parent t))
preempt_law w c s child parent t need held beside may =
    let b = s.ledger in
    let l = after_preempt b child parent t in
    let two = and_parts (is_current w b t parent && is_best_by c w b t parent child) (need == job_left b child t) may in
    let best = (and_parts (is_current w b t parent) (is_best_by c w b t parent child) two.0).1 in
    let tidy = bare_tidy w c b held in
    record {
      ledger = left_tidy l l (bare_same b l (held_bare w c b held) refl refl)
          (record { lines = lines_put b child parent t (starter_stays w b t child (best_starts c w b t parent child best)) 0 b.lines tidy.lines; served = tidy.served });
      counted = record { admitted = beside.counted.admitted; slots = beside.counted.slots };
      leftovers = beside.leftovers;
      left = beside.left;
    }
