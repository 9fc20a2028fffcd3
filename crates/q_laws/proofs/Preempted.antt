-- What fits together still does as a job goes before the current one.
use Rattle.std.proofs.Common.{◌≡◌, ℕ, ◌+◌, Bool, true, false, not, List, [], ◌∷◌, map, filter, find, Option, Some, None, ◌⊎◌, inl, inr, refl, sym, ap, ◌∙◌, subst, arith, if◌then◌else◌, eqb-true}
use Rattle.std.proofs.lemmas.Bool.{and_from, and_parts, not_from_false}
use Rattle.std.specs.List.{enumerate_from, list_all, list_any}
use Rattle.std.specs.Option.{option_map_or}
use Rattle.std.specs.Prelude.{◌==◌, ◌&&◌, slice_get}
use Rattle.q_laws.proofs.Distinct.{distinct_cons, distinct_filter, distinct_tail, gone_listed, id_cases, id_other, id_same, listed_in}
use Rattle.q_laws.proofs.Members.{IsIn, all_at, find_in, in_filter, in_filtered, least_in, none_from}
use Rattle.q_laws.proofs.Places.{got_in}
use Rattle.q_laws.proofs.Quiet.{LeavesAccount, account_kept, begun_noted, book_noted}
use Rattle.q_laws.proofs.Tidied.{IsReady, after_consistent, line_mapped}
use Rattle.q_laws.specs.Consistency.{IsConsistent}
use Rattle.q_model.proofs.IdLaws.{id_eq-true}
use Rattle.q_model.specs.Accounts.{job_left, starts_of}
use Rattle.q_model.specs.Candidates.{ids_behind, best, candidates, is_better, is_candidate, pays}
use Rattle.q_model.specs.Ids.{are_distinct, id_eq}
use Rattle.q_model.specs.Ledger.{Ledger}
use Rattle.q_model.specs.Preemptions.{after_preempt, is_best, is_current, may_preempt, preempt_line, put_before}
use Rattle.q_model.specs.Settings.{World}
use Rattle.q_model.specs.Startable.{can_start, current, line_of}
use Rattle.q_model.specs.Step.{after, noted}
use Rattle.q_model.specs.declared.id.Id.{Id}
use Rattle.q_model.specs.declared.rows.Admitted.{Admitted}
use Rattle.q_model.specs.declared.entry.Entry.TheVariants as entries

-- ---- a line with one job put before another

put_cases : (child parent x y : Id) (ys few : List Id) (b : Bool) → (IsIn x few → (x ≡ child) ⊎ IsIn x ys) → IsIn x (if b then child ∷ y ∷ ys else y ∷ few) → (x ≡ child) ⊎ IsIn x (y ∷ ys)
put_cases child parent x y ys few true rest (inl e) = inl (sym e)
put_cases child parent x y ys few true rest (inr h) = inr h
put_cases child parent x y ys few false rest (inl e) = inr (inl e)
put_cases child parent x y ys few false rest (inr h) = elim (rest h) [ inl e ↦ inl e | inr k ↦ inr (inr k) ]

in_put : (child parent x : Id) (ids : List Id) → IsIn x (put_before child parent ids) → (x ≡ child) ⊎ IsIn x ids
in_put child parent x [] h = absurd h
in_put child parent x (y ∷ ys) h = put_cases child parent x y ys (put_before child parent ys) (id_eq y parent) (in_put child parent x ys) h

stays_put : (child parent x y : Id) (ys few : List Id) (b : Bool) → (IsIn x ys → IsIn x few) → IsIn x (y ∷ ys) → IsIn x (if b then child ∷ y ∷ ys else y ∷ few)
stays_put child parent x y ys few true rest h = inr h
stays_put child parent x y ys few false rest (inl e) = inl e
stays_put child parent x y ys few false rest (inr h) = inr (rest h)

put_keeps : (child parent x : Id) (ids : List Id) → IsIn x ids → IsIn x (put_before child parent ids)
put_keeps child parent x [] h = absurd h
put_keeps child parent x (y ∷ ys) h = stays_put child parent x y ys (put_before child parent ys) (id_eq y parent) (put_keeps child parent x ys) h

child_put : (child parent y : Id) (ys few : List Id) (b : Bool) → id_eq y parent ≡ b → (IsIn parent ys → IsIn child few) → IsIn parent (y ∷ ys) → IsIn child (if b then child ∷ y ∷ ys else y ∷ few)
child_put child parent y ys few true e rest h = inl refl
child_put child parent y ys few false e rest (inl same) = absurd (id_other y parent e same)
child_put child parent y ys few false e rest (inr h) = inr (rest h)

put_there : (child parent : Id) (ids : List Id) → IsIn parent ids → IsIn child (put_before child parent ids)
put_there child parent [] h = absurd h
put_there child parent (y ∷ ys) h = child_put child parent y ys (put_before child parent ys) (id_eq y parent) refl (put_there child parent ys) h

put_single : (child parent y : Id) (ys few : List Id) (b : Bool) → (IsIn child (y ∷ ys) → ⊥) → are_distinct (y ∷ ys) ≡ true → are_distinct few ≡ true → (IsIn y few → (y ≡ child) ⊎ IsIn y ys) → are_distinct (if b then child ∷ y ∷ ys else y ∷ few) ≡ true
put_single child parent y ys few true out h k inside = distinct_cons child (y ∷ ys) out h
put_single child parent y ys few false out h k inside = distinct_cons y few (λ g. elim (inside g) [ inl e ↦ out (inl e) | inr j ↦ (distinct_tail y ys h).0 j ]) k

put_distinct : (child parent : Id) (ids : List Id) → (IsIn child ids → ⊥) → are_distinct ids ≡ true → are_distinct (put_before child parent ids) ≡ true
put_distinct child parent [] out h = refl
put_distinct child parent (y ∷ ys) out h =
    put_single child parent y ys (put_before child parent ys) (id_eq y parent) out h (put_distinct child parent ys (λ k. out (inr k)) (distinct_tail y ys h).1) (in_put child parent y ys)

behind_one : (parent x y : Id) (ys : List Id) (b : Bool) → id_eq y parent ≡ b → (IsIn y ys → ⊥) → (IsIn x (ids_behind parent ys) → x ≡ parent → ⊥) → IsIn x (if b then ys else ids_behind parent ys) → x ≡ parent → ⊥
behind_one parent x y ys true e out rest h same = out (subst (λ i. IsIn i ys) (same ∙ sym (id_eq-true y parent e)) h)
behind_one parent x y ys false e out rest h same = rest h same

-- who stands behind another is another
behind_other : (parent x : Id) (ids : List Id) → are_distinct ids ≡ true → IsIn x (ids_behind parent ids) → x ≡ parent → ⊥
behind_other parent x [] d h same = absurd h
behind_other parent x (y ∷ ys) d h same =
    let two = distinct_tail y ys d in
    behind_one parent x y ys (id_eq y parent) refl two.0 (behind_other parent x ys two.1) h same

-- ---- the line after the preemption

abbrev others : Id → List Id → List Id
others child ids = filter (λ x. not (id_eq x child)) ids

child_gone : (child : Id) (ids : List Id) → IsIn child (others child ids) → ⊥
child_gone child ids h =
    let k = (in_filtered (λ x. not (id_eq x child)) child ids h).1 in
    let bad : false ≡ true = sym (ap not (id_same child child refl)) ∙ k in
    absurd cc

line_single : (child parent : Id) (transport n : ℕ) (ids : List Id) → are_distinct ids ≡ true → are_distinct (preempt_line child parent transport (n, ids)) ≡ true
line_single child parent transport n ids h = which (n == transport)
  where
    which : (b : Bool) → are_distinct (if b then put_before child parent (others child ids) else ids) ≡ true
    which true = put_distinct child parent (others child ids) (child_gone child ids) (distinct_filter (λ x. not (id_eq x child)) ids h)
    which false = h

lines_single : (child parent : Id) (transport n : ℕ) (ls : List (List Id)) → list_all are_distinct ls ≡ true → list_all are_distinct (map (preempt_line child parent transport) (enumerate_from n ls)) ≡ true
lines_single child parent transport n [] h = refl
lines_single child parent transport n (ids ∷ ls) h =
    let two = and_parts (are_distinct ids) (list_all are_distinct ls) h in
    and_from (are_distinct (preempt_line child parent transport (n, ids))) (list_all are_distinct (map (preempt_line child parent transport) (enumerate_from (n + 1) ls)))
    (line_single child parent transport n ids two.0) (lines_single child parent transport (n + 1) ls two.1)

no_line : (child parent : Id) (transport n : ℕ) → preempt_line child parent transport (n, []) ≡ []
no_line child parent transport n = which (n == transport)
  where
    which : (b : Bool) → (if b then put_before child parent (others child []) else []) ≡ []
    which true = refl
    which false = refl

-- who was in a line still is
line_keeps : (child parent : Id) (transport n : ℕ) (ids : List Id) → (n ≡ transport → IsIn parent ids × (child ≡ parent → ⊥)) → (x : Id) → IsIn x ids → IsIn x (preempt_line child parent transport (n, ids))
line_keeps child parent transport n ids h x there = which (n == transport) refl
  where
    which : (b : Bool) → (n == transport) ≡ b → IsIn x (if b then put_before child parent (others child ids) else ids)
    which false e = there
    which true e =
        let two = h (eqb-true n transport e) in
        elim (id_cases x child) [
          | inl same ↦ subst (λ i. IsIn i (put_before child parent (others child ids))) (sym same.0)
              (put_there child parent (others child ids) (in_filter (λ y. not (id_eq y child)) parent ids two.0 (not_from_false (id_eq parent child) (apart two.1 (id_eq parent child) refl))))
          | inr other ↦ put_keeps child parent x (others child ids) (in_filter (λ y. not (id_eq y child)) x ids there (not_from_false (id_eq x child) other))
        ]
      where
        apart : (child ≡ parent → ⊥) → (b : Bool) → id_eq parent child ≡ b → b ≡ false
        apart never false k = refl
        apart never true k = absurd (never (sym (id_eq-true parent child k)))

-- ---- the ledger

-- the line of a transport has no id twice
line_distinct : (l : Ledger) (t : ℕ) → list_all are_distinct l.lines ≡ true → are_distinct (line_of l t) ≡ true
line_distinct l t h = which (slice_get l.lines t) refl
  where
    which : (o : Option (List Id)) → slice_get l.lines t ≡ o → are_distinct (option_map_or (λ (ids : List Id). ids) o []) ≡ true
    which None e = refl
    which (Some ids) e = all_at are_distinct ids l.lines h (got_in ids l.lines t e)

-- the current job is in its line, and the best candidate is another
pub record ArePreempting (l : Ledger) (child parent : Id) (transport : ℕ) : Type 0 where
  pub inside : IsIn parent (line_of l transport)
  pub apart : child ≡ parent → ⊥

current_on : (w : World) (l : Ledger) (transport : ℕ) (parent : Id) (o : Option Id) → find (can_start w l transport) (line_of l transport) ≡ o → option_map_or (λ c. id_eq c parent) o false ≡ true → IsIn parent (line_of l transport)
current_on w l transport parent None e h = absurd cc
current_on w l transport parent (Some c) e h = subst (λ i. IsIn i (line_of l transport)) (id_eq-true c parent h) (find_in (can_start w l transport) c (line_of l transport) e).0

best_on : (w : World) (l : Ledger) (transport : ℕ) (parent child : Id) (o : Option Id) → best w l transport parent ≡ o → option_map_or (λ b. id_eq b child) o false ≡ true → IsIn child (ids_behind parent (line_of l transport))
best_on w l transport parent child None e h = absurd cc
best_on w l transport parent child (Some b) e h =
    let good = (in_filtered (is_candidate w l transport parent) b (map (λ (a : Admitted). a.id) l.admitted) (least_in (is_better l transport) b (candidates w l transport parent) e)).1 in
    let a = not (w.settings.slot_cost == 0) in
    let d = list_any (id_eq b) (ids_behind parent (line_of l transport)) in
    let f = starts_of l b transport == 0 in
    let g = can_start w l transport b in
    let one = and_parts (a && d && f && g) (pays w l transport parent (job_left l b transport)) good in
    let two = and_parts (a && d && f) g one.0 in
    let three = and_parts (a && d) f two.0 in
    let four = and_parts a d three.0 in
    subst (λ i. IsIn i (ids_behind parent (line_of l transport))) (id_eq-true b child h) (listed_in b (ids_behind parent (line_of l transport)) four.1)

preempting : (w : World) (l : Ledger) (child parent : Id) (transport need : ℕ) → list_all are_distinct l.lines ≡ true → may_preempt w l child parent transport need ≡ true → ArePreempting l child parent transport
preempting w l child parent transport need single may =
    let two = and_parts (is_current w l transport parent && is_best w l transport parent child) (need == job_left l child transport) may in
    let one = and_parts (is_current w l transport parent) (is_best w l transport parent child) two.0 in
    record {
      inside = current_on w l transport parent (current w l transport) refl one.0;
      apart = behind_other parent child (line_of l transport) (line_distinct l transport single) (best_on w l transport parent child (best w l transport parent) refl one.1);
    }

charged_other : (l : Ledger) (child parent : Id) (transport need : ℕ) → IsIn parent (line_of l transport) → (i : Id) (t : ℕ) → list_any (id_eq i) (line_of l t) ≡ false → LeavesAccount i t (entries.Preempt child parent transport need)
charged_other l child parent transport need inside i t gone = record { admit = refl; start = refl; charge = which (id_eq parent i && (transport == t)) refl }
  where
    which : (b : Bool) → (id_eq parent i && (transport == t)) ≡ b → (if b then need else 0) ≡ 0
    which false e = refl
    which true e =
        let two = and_parts (id_eq parent i) (transport == t) e in
        absurd (gone_listed i (line_of l t) gone (subst (λ j. IsIn j (line_of l t)) (id_eq-true parent i two.0) (subst (λ k. IsIn parent (line_of l k)) (eqb-true transport t two.1) inside)))

preempt_ready : (w : World) (l : Ledger) (child parent : Id) (transport need : ℕ) → IsConsistent w l → ArePreempting l child parent transport → IsReady w (noted (entries.Preempt child parent transport need) (after_preempt l child parent transport))
preempt_ready w l child parent transport need c p =
    let e = entries.Preempt child parent transport need in
    let b = book_noted l e c.book in
    let m = c.memory in
    record {
      usable = c.usable;
      book = record { distinct = b.distinct; orderly = b.orderly; firm = b.firm; come = b.come };
      memory = record {
        admitted = m.admitted;
        present = m.present;
        within = m.within;
        waiting = m.waiting;
        filled = m.filled;
        flights = m.flights;
        unsettled = m.unsettled;
        remembered = λ a x f g. let k = m.remembered a x f g in record { read = k.read; once = k.once; unmarked = k.unmarked; logged = k.logged };
        numbers = m.numbers;
        begun = begun_noted l e m.begun;
        single = lines_single child parent transport 0 l.lines m.single;
        fresh = λ i t some gone.
            let out = was_gone i t gone in
            account_kept l e i t (charged_other l child parent transport need p.inside i t out) (m.fresh i t some out);
        synced = m.synced;
        synced_next = λ id left was. m.synced_next id left was;
        messages = m.messages;
        recipients = m.recipients;
      };
    }
  where
    was_gone : (i : Id) (t : ℕ) → list_any (id_eq i) (line_of (after_preempt l child parent transport) t) ≡ false → list_any (id_eq i) (line_of l t) ≡ false
    was_gone i t gone =
        let line : line_of (after_preempt l child parent transport) t ≡ preempt_line child parent transport (t, line_of l t) =
        line_mapped (preempt_line child parent transport) (no_line child parent transport) 0 t t l.lines (omega arith) in
        none_from (id_eq i) (line_of l t) (λ x there. other x there line gone (id_eq i x) refl)
      where
        other : (x : Id) → IsIn x (line_of l t) → line_of (after_preempt l child parent transport) t ≡ preempt_line child parent transport (t, line_of l t) → list_any (id_eq i) (line_of (after_preempt l child parent transport) t) ≡ false → (b : Bool) → id_eq i x ≡ b → b ≡ false
        other x there line gone false k = refl
        other x there line gone true k =
            absurd (gone_listed i (line_of (after_preempt l child parent transport) t) gone
            (subst (λ ids. IsIn i ids) (sym line) (line_keeps child parent transport t (line_of l t) (λ same. (subst (λ n. IsIn parent (line_of l n)) (sym same) p.inside, p.apart)) i (subst (λ y. IsIn y (line_of l t)) (sym (id_eq-true i x k)) there))))

-- a job goes before the current one
pub preempt_consistent : (w : World) (l : Ledger) (child parent : Id) (transport need : ℕ) → IsConsistent w l → may_preempt w l child parent transport need ≡ true → IsConsistent w (after w l (entries.Preempt child parent transport need))
preempt_consistent w l child parent transport need c may =
    after_consistent w l (entries.Preempt child parent transport need) (preempt_ready w l child parent transport need c (preempting w l child parent transport need c.memory.single may))
