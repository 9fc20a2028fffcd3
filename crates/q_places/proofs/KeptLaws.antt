-- What changes at one message leaves of what is kept.
use Rattle.std.proofs.Common.{◌≡◌, ◌∙◌, ℕ, Bool, true, false, cond, List, Option, Some, None, ◌⊎◌, inl, inr, refl, sym, ap, subst}
use Rattle.std.specs.BTreeMap.{BTreeMap, get, is_at}
use Rattle.std.specs.Option.{option_and_then, option_map}
use Rattle.std.specs.Ordering.{bool_cmp, is_eq, nat_cmp, ordering_then}
use Rattle.std.specs.declared.cmp.Ordering.{Ordering}
use Rattle.std.specs.declared.cmp.Ordering.TheVariants.{Equal, Greater, Less}
use Rattle.std.proofs.lemmas.Map.Lookups.{CmpEqualImpliesEq, exact_pairs, exact_unsigned}
use Rattle.q_model.specs.declared.id.Id.{Id}
use Rattle.q_model.specs.Values.{Taken}
use Rattle.q_places.specs.declared.places.KeptFile.{KeptFile}
use Rattle.q_places.specs.declared.places.Places.{Places}
use Rattle.q_places.specs.declared.places.Progress.{Progress}
use Rattle.q_places.specs.Kept.{AddsMarks, IsFewer, IsPutIn, IsTakenAt, kept_file, kept_mark, kept_order}

exact_bools : CmpEqualImpliesEq bool_cmp
exact_bools true true h = refl
exact_bools false false h = refl
exact_bools true false h = absurd cc
exact_bools false true h = absurd cc

equal_from : (o : Ordering) → is_eq o ≡ true → o ≡ Equal
equal_from Less h = absurd cc
equal_from Equal h = refl
equal_from Greater h = absurd cc

-- the order tells ids apart
pub same_kept : (a b : Id) → is_at (kept_order a) b ≡ true → a ≡ b
same_kept a b h =
    ap (λ (p : ℕ × (ℕ × Bool)). record { generation = p.0; serial = p.1.0; bounce = p.1.1 })
    (exact_pairs nat_cmp (λ (x y : ℕ × Bool). ordering_then (nat_cmp x.0 y.0) (bool_cmp x.1 y.1)) exact_unsigned (exact_pairs nat_cmp bool_cmp exact_unsigned exact_bools)
    (a.generation, (a.serial, a.bounce)) (b.generation, (b.serial, b.bounce)) (equal_from (kept_order a b) h))

same_position : (a b : ℕ) → is_at (nat_cmp a) b ≡ true → a ≡ b
same_position a b h = exact_unsigned a b (equal_from (nat_cmp a b) h)

-- what is kept of a message
abbrev mark_in : Option KeptFile → ℕ → Option ℕ
mark_in o position = option_and_then (λ f. get nat_cmp f.marks position) o

abbrev progress_in : Option KeptFile → Option Progress
progress_in o = option_map (λ f. f.progress) o

-- of one message fewer is kept
record IsLess (old new : Option KeptFile) : Type 0 where
  marks : (position at : ℕ) → mark_in new position ≡ Some at → mark_in old position ≡ Some at
  progress : (p : Progress) → progress_in new ≡ Some p → progress_in old ≡ Some p

less_itself : (o : Option KeptFile) → IsLess o o
less_itself o = record { marks = λ position at h. h; progress = λ p h. h }

less_none : (o : Option KeptFile) → IsLess o None
less_none o = record { marks = λ position at h. absurd cc; progress = λ p h. absurd cc }

fewer_each : (old new : Places) → ((q : Id) → IsLess (kept_file old q) (kept_file new q)) → IsFewer old new
fewer_each old new h = record { marks = λ q position at k. (h q).marks position at k; progress = λ q p k. (h q).progress p k }

-- one message is forgotten
pub fewer_without : (old new : Places) (id : Id) → ((q : Id) → kept_file new q ≡ cond (is_at (kept_order id) q) None (kept_file old q)) → IsFewer old new
fewer_without old new id h = fewer_each old new (λ q. subst (IsLess (kept_file old q)) (sym (h q)) (on (is_at (kept_order id) q) (kept_file old q)))
  where
    on : (t : Bool) (o : Option KeptFile) → IsLess o (cond t None o)
    on true o = less_none o
    on false o = less_itself o

less_marks : (file : KeptFile) (marks : BTreeMap ℕ ℕ) (position : ℕ) → ((q : ℕ) → get nat_cmp marks q ≡ cond (is_at (nat_cmp position) q) None (get nat_cmp file.marks q)) → IsLess (Some file) (Some (record { progress = file.progress; marks = marks }))
less_marks file marks position h = record { marks = λ q at k. on (is_at (nat_cmp position) q) (get nat_cmp file.marks q) at (sym (h q) ∙ k); progress = λ p k. k }
  where
    on : (t : Bool) (o : Option ℕ) (at : ℕ) → cond t None o ≡ Some at → o ≡ Some at
    on true o at k = absurd cc
    on false o at k = k

-- one mark is forgotten
pub fewer_marks : (old new : Places) (id : Id) (file : KeptFile) (marks : BTreeMap ℕ ℕ) (position : ℕ) → kept_file old id ≡ Some file
    → ((q : ℕ) → get nat_cmp marks q ≡ cond (is_at (nat_cmp position) q) None (get nat_cmp file.marks q))
    → ((q : Id) → kept_file new q ≡ cond (is_at (kept_order id) q) (Some (record { progress = file.progress; marks = marks })) (kept_file old q)) → IsFewer old new
fewer_marks old new id file marks position found less h = fewer_each old new (λ q. subst (IsLess (kept_file old q)) (sym (h q)) (on q (is_at (kept_order id) q) refl))
  where
    on : (q : Id) (t : Bool) → is_at (kept_order id) q ≡ t → IsLess (kept_file old q) (cond t (Some (record { progress = file.progress; marks = marks })) (kept_file old q))
    on q true e = subst (λ (o : Option KeptFile). IsLess o (Some (record { progress = file.progress; marks = marks }))) (sym (ap (kept_file old) (sym (same_kept id q e)) ∙ found)) (less_marks file marks position less)
    on q false e = less_itself (kept_file old q)

-- the offsets of a message that was forgotten, and of recipients that were put in
record IsLessOr (id : Id) (read : Progress) (taken : List Taken) (q : Id) (old new : Option KeptFile) : Type 0 where
  marks : (position at : ℕ) → mark_in new position ≡ Some at → (mark_in old position ≡ Some at) ⊎ ((q ≡ id) × IsTakenAt taken position at)
  progress : (p : Progress) → progress_in new ≡ Some p → (progress_in old ≡ Some p) ⊎ ((q ≡ id) × (p ≡ read))

same_progress : (p q : Progress) → Some p ≡ Some q → q ≡ p
same_progress p q h = cc

module _ (old middle : Places) (id : Id) (read : Progress) (taken : List Taken) (gone : (q : Id) → kept_file middle q ≡ cond (is_at (kept_order id) q) None (kept_file old q)) where
  put_each : (new : Places) → ((q : Id) → IsLessOr id read taken q (kept_file old q) (kept_file new q)) → IsPutIn id read taken old new
  put_each new h = record { marks = λ q position at k. (h q).marks position at k; progress = λ q p k. (h q).progress p k }

  -- memory was wanting
  pub put_none : (new : Places) → IsFewer middle new → IsPutIn id read taken old new
  put_none new h =
      let less = fewer_without old middle id gone in
      record {
        marks = λ q position at k. inl (less.marks q position at (h.marks q position at k));
        progress = λ q p k. inl (less.progress q p (h.progress q p k));
      }

  pub put_in : (new : Places) (before marks : BTreeMap ℕ ℕ) → ((position at : ℕ) → get nat_cmp before position ≡ Some at → kept_mark old id position ≡ Some at) → AddsMarks taken before marks
      → ((q : Id) → kept_file new q ≡ cond (is_at (kept_order id) q) (Some (record { progress = read; marks = marks })) (kept_file middle q)) → IsPutIn id read taken old new
  put_in new before marks was adds h = put_each new (λ q. subst (IsLessOr id read taken q (kept_file old q)) (sym (h q)) (on q (is_at (kept_order id) q) refl))
    where
      here : (position at : ℕ) → get nat_cmp marks position ≡ Some at → (kept_mark old id position ≡ Some at) ⊎ ((id ≡ id) × IsTakenAt taken position at)
      here position at k = elim (adds position at k) [
        | inl b ↦ inl (was position at b)
        | inr t ↦ inr (refl, t)
      ]

      on : (q : Id) (t : Bool) → is_at (kept_order id) q ≡ t → IsLessOr id read taken q (kept_file old q) (cond t (Some (record { progress = read; marks = marks })) (kept_file middle q))
      on q true e = subst (λ (i : Id). IsLessOr id read taken i (kept_file old i) (Some (record { progress = read; marks = marks }))) (same_kept id q e) (record { marks = here; progress = λ p k. inr (refl, same_progress read p k) })
      on q false e =
          let less = fewer_without old middle id gone in
          record { marks = λ position at k. inl (less.marks q position at k); progress = λ p k. inl (less.progress q p k) }
