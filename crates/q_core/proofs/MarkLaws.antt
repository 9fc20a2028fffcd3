-- The recipient of the first outcome is marked.
use Rattle.std.proofs.Common.{◌≡◌, ℕ, suc, ◌+◌, ◌-◌, Bool, true, false, List, [], ◌∷◌, length, map, refl, sym, ap, ◌∙◌, ◌≤◌, subst, Some, arith}
use Rattle.std.proofs.lemmas.Bool.{eq-eqb, lt-ltb}
use Rattle.std.specs.List.{enumerate_from}
use Rattle.std.specs.Option.{option_map_or}
use Rattle.std.specs.Prelude.{◌&&◌, ◌||◌, ◌==◌, drop, if◌then◌else◌, nat_lt, not, slice_get, sum_by}
use Rattle.q_core.proofs.BookLaws.{KeepsPlace, place_step}
use Rattle.q_core.proofs.ChangeLaws.{changed_ledger}
use Rattle.q_core.proofs.FirstLaws.{IsFirst, first_mark, first_of_message}
use Rattle.q_core.proofs.HeldLaws.{slot_law, unsettled_law}
use Rattle.q_core.proofs.ListLaws.{length-numbered}
use Rattle.q_core.proofs.LogLaws.{counted, fails_from, halves, is_half_at, is_pending_at, passes_from, pends, unmarked}
use Rattle.q_core.proofs.NameLaws.{id_eq-same}
use Rattle.q_core.proofs.PlaceLaws.{few_places, less_none, less_one}
use Rattle.q_core.proofs.StepLaws.{HoldsRaw}
use Rattle.q_core.specs.Agrees.{slot_from}
use Rattle.q_core.specs.Changes.{IsSlotChange, IsUnsettledChange}
use Rattle.q_pool.specs.Slots.{with_slot_mark}
use Rattle.q_core.specs.declared.state.Core.{Core}
use Rattle.q_laws.specs.Consistency.{IsConsistent, logged_of}
use Rattle.q_model.specs.Ids.{id_eq}
use Rattle.q_model.specs.Ledger.{Ledger}
use Rattle.q_model.specs.Lists.{has_none, places_from}
use Rattle.q_model.specs.Marking.{after_mark, is_unmarked_at, mark_one, marks_first, needs_mark}
use Rattle.q_model.specs.Marking.{with_mark as marked_at}
use Rattle.q_model.specs.Marks.{is_marked, is_written}
use Rattle.q_model.specs.Message.{Message, Recipient, is_logged, pending, unmarked_logged, written_marks}
use Rattle.q_model.specs.Next.{settling_rule}
use Rattle.q_model.specs.Settings.{World}
use Rattle.q_model.specs.declared.entry.Entry.TheVariants as entries
use Rattle.q_model.specs.declared.id.Id.{Id}
use Rattle.q_model.specs.declared.rows.Admitted.{Admitted}
use Rattle.q_model.specs.declared.rows.Mark.{Mark}
use Rattle.q_model.specs.declared.rows.Mark.TheVariants as marks
use Rattle.q_model.specs.declared.rows.Need.TheVariants as needs
use Rattle.q_model.specs.declared.rows.Unsettled.{Unsettled}

numbered_places : (test : ℕ → Recipient → Bool) (k n : ℕ) (rs : List Recipient) → places_from n test (map (mark_one k) (enumerate_from n rs)) ≡ places_from n (λ i r. test i (mark_one k (i, r))) rs
numbered_places test k n [] = refl
numbered_places test k n (r ∷ rs) =
    place_step (test n (mark_one k (n, r))) (test n (mark_one k (n, r))) n (places_from (n + 1) test (map (mark_one k) (enumerate_from (n + 1) rs))) (places_from (n + 1) (λ i x. test i (mark_one k (i, x))) rs) refl
    (numbered_places test k (n + 1) rs)

marked_one : (b : Bool) (r : Recipient) → is_marked (if b then record r { mark = marks.Written } else r).mark ≡ (b || is_marked r.mark)
marked_one true r = refl
marked_one false r = refl

written_one : (b : Bool) (r : Recipient) → is_written (if b then record r { mark = marks.Written } else r).mark ≡ (b || is_written r.mark)
written_one true r = refl
written_one false r = refl

fewer_pending : (b a c : Bool) → not ((b || a) || c) ≡ (not (a || c) && not b)
fewer_pending true true c = refl
fewer_pending true false true = refl
fewer_pending true false false = refl
fewer_pending false true c = refl
fewer_pending false false true = refl
fewer_pending false false false = refl

fewer_halves : (b a c : Bool) → (not (b || a) && c) ≡ ((not a && c) && not b)
fewer_halves true true c = refl
fewer_halves true false true = refl
fewer_halves true false false = refl
fewer_halves false true c = refl
fewer_halves false false true = refl
fewer_halves false false false = refl

more_written : (b a : Bool) → ((b || a) && not b) ≡ (a && not b)
more_written true true = refl
more_written true false = refl
more_written false a = refl

pending_mark : (m : Message) (k i : ℕ) (r : Recipient) → is_pending_at m i (mark_one k (i, r)) ≡ (is_pending_at m i r && not (i == k))
pending_mark m k i r = ap (λ b. not (b || is_logged m i)) (marked_one (i == k) r) ∙ fewer_pending (i == k) (is_marked r.mark) (is_logged m i)

half_mark : (m : Message) (k i : ℕ) (r : Recipient) → is_half_at m i (mark_one k (i, r)) ≡ (is_half_at m i r && not (i == k))
half_mark m k i r = ap (λ b. not b && is_logged m i) (marked_one (i == k) r) ∙ fewer_halves (i == k) (is_marked r.mark) (is_logged m i)

abbrev written : ℕ → Recipient → Bool
written i r = is_written r.mark

abbrev written_with : ℕ → ℕ → Recipient → Bool
written_with k i r = is_written (mark_one k (i, r)).mark

abbrev written_without : ℕ → ℕ → Recipient → Bool
written_without k i r = written_with k i r && not (i == k)

written_mark : (k i : ℕ) (r : Recipient) → written_without k i r ≡ (written i r && not (i == k))
written_mark k i r = ap (λ b. b && not (i == k)) (written_one (i == k) r) ∙ more_written (i == k) (is_written r.mark)

mark_written : (m : Mark) → not (is_marked m) ≡ true → is_written m ≡ false
mark_written marks.Unmarked h = refl
mark_written marks.Written h = cc
mark_written marks.Synced h = refl

not_written : (r : Recipient) → not (is_marked r.mark) ≡ true → is_written r.mark ≡ false
not_written r h = mark_written r.mark h

half_not_pending : (a c : Bool) → c ≡ true → not a ≡ true → not (a || c) ≡ false
half_not_pending true c e h = refl
half_not_pending false c e h = ap not e

not_half : (a c : Bool) → c ≡ false → not a ≡ true → (not a && c) ≡ false
not_half true c e h = refl
not_half false c e h = e

-- a mark more
more_marks : (m : Message) (k : ℕ) → is_unmarked_at m k ≡ true → length (written_marks (marked_at k m)) ≡ suc (length (written_marks m))
more_marks m k u =
    let rs = m.recipients in
    ap length (numbered_places written k 0 rs)
    ∙ sym (less_one (written_with k) (written_without k) k 0 k rs (λ i r. refl) (omega arith)
    (passes_from unmarked (written_with k) k (slice_get rs k) (λ r e. written_one (k == k) r ∙ ap (λ b. b || is_written r.mark) (eq-eqb k k refl)) u))
    ∙ ap (λ ns. suc (length ns)) (less_none written (written_without k) k 0 k rs (written_mark k) (omega arith) (fails_from unmarked written k (slice_get rs k) not_written u))

-- there are marks to set
marks_within : (m : Message) (k : ℕ) → is_unmarked_at m k ≡ true → nat_lt (length (written_marks m)) (length m.recipients) ≡ true
marks_within m k u =
    let more = more_marks m k u in
    let few : length (written_marks (marked_at k m)) ≤ length (map (mark_one k) (enumerate_from 0 m.recipients)) = few_places written 0 (map (mark_one k) (enumerate_from 0 m.recipients)) in
    let same : length (map (mark_one k) (enumerate_from 0 m.recipients)) ≡ length m.recipients = length-numbered (mark_one k) 0 m.recipients in
    lt-ltb (length (written_marks m)) (length m.recipients) (omega (arith, more, few, same))

-- of a recipient that isn't logged
fewer_by_mark : (m : Message) (k : ℕ) → is_unmarked_at m k ≡ true → is_logged m k ≡ false → length (pending (marked_at k m)) ≡ length (pending m) - 1
fewer_by_mark m k u n =
    let rs = m.recipients in
    let one = less_one (is_pending_at m) (λ i r. is_pending_at m i (mark_one k (i, r))) k 0 k rs (pending_mark m k) (omega arith)
    (passes_from unmarked (is_pending_at m) k (slice_get rs k) (λ r e. pends (is_marked r.mark) (is_logged m k) n e) u) in
    ap length (numbered_places (is_pending_at m) k 0 rs) ∙ omega (arith, one)

same_halves : (m : Message) (k : ℕ) → is_unmarked_at m k ≡ true → is_logged m k ≡ false → unmarked_logged (marked_at k m) ≡ unmarked_logged m
same_halves m k u n =
    numbered_places (is_half_at m) k 0 m.recipients
    ∙ less_none (is_half_at m) (λ i r. is_half_at m i (mark_one k (i, r))) k 0 k m.recipients (half_mark m k) (omega arith)
    (fails_from unmarked (is_half_at m) k (slice_get m.recipients k) (λ r e. not_half (is_marked r.mark) (is_logged m k) n e) u)

-- of one that is logged
same_pending : (m : Message) (k : ℕ) → is_unmarked_at m k ≡ true → is_logged m k ≡ true → pending (marked_at k m) ≡ pending m
same_pending m k u n =
    numbered_places (is_pending_at m) k 0 m.recipients
    ∙ less_none (is_pending_at m) (λ i r. is_pending_at m i (mark_one k (i, r))) k 0 k m.recipients (pending_mark m k) (omega arith)
    (fails_from unmarked (is_pending_at m) k (slice_get m.recipients k) (λ r e. half_not_pending (is_marked r.mark) (is_logged m k) n e) u)

no_length : {A : Type 0} (xs : List A) → length xs ≡ 0 → has_none xs ≡ true
no_length [] h = refl
no_length (x ∷ xs) h = cc

no_halves : (m : Message) (k : ℕ) → is_unmarked_at m k ≡ true → is_logged m k ≡ true → unmarked_logged m ≡ k ∷ [] → has_none (unmarked_logged (marked_at k m)) ≡ true
no_halves m k u n only =
    let one = less_one (is_half_at m) (λ i r. is_half_at m i (mark_one k (i, r))) k 0 k m.recipients (half_mark m k) (omega arith)
    (passes_from unmarked (is_half_at m) k (slice_get m.recipients k) (λ r e. halves (is_marked r.mark) (is_logged m k) n e) u) in
    let all : length (unmarked_logged m) ≡ 1 = ap length only in
    ap has_none (numbered_places (is_half_at m) k 0 m.recipients)
    ∙ no_length (places_from 0 (λ i r. is_half_at m i (mark_one k (i, r))) m.recipients) (omega (arith, one, all))

suc_is : (n : ℕ) → suc n ≡ n + 1
suc_is n = omega arith

slot_case : (m : Message) (k : ℕ) (b : Bool) → is_logged m k ≡ b → is_unmarked_at m k ≡ true → unmarked_logged m ≡ (if b then k ∷ [] else []) → (a : Admitted) (bounced : Bool) →
    slot_from a bounced (Some (marked_at k m)) ≡ with_slot_mark (slot_from a bounced (Some m))
slot_case m k false n u only a bounced =
    let s = slot_from a bounced (Some m) in
    let t = slot_from a bounced (Some (marked_at k m)) in
    ap (λ x. record t { recipients = x }) (length-numbered (mark_one k) 0 m.recipients)
    ∙ ap (λ x. record s { marks = x; pending = length (pending (marked_at k m)); logged = not (has_none (unmarked_logged (marked_at k m))) }) (more_marks m k u ∙ suc_is (length (written_marks m)))
    ∙ ap (λ x. record s { marks = length (written_marks m) + 1; pending = x; logged = not (has_none (unmarked_logged (marked_at k m))) }) (fewer_by_mark m k u n)
    ∙ ap (λ xs. record s { marks = length (written_marks m) + 1; pending = length (pending m) - 1; logged = not (has_none xs) }) (same_halves m k u n)
    ∙ ap (λ b. record s { marks = if b then length (written_marks m) + 1 else length (written_marks m); pending = length (pending m) - 1 }) (sym (marks_within m k u))
    ∙ ap (λ b. (if b then record s { marks = if nat_lt s.marks s.recipients then s.marks + 1 else s.marks; logged = false } else record s { marks = if nat_lt s.marks s.recipients then s.marks + 1 else s.marks; pending = s.pending - 1 })) (sym (ap (λ xs. not (has_none xs)) only))
slot_case m k true n u only a bounced =
    let s = slot_from a bounced (Some m) in
    let t = slot_from a bounced (Some (marked_at k m)) in
    ap (λ x. record t { recipients = x }) (length-numbered (mark_one k) 0 m.recipients)
    ∙ ap (λ x. record s { marks = x; pending = length (pending (marked_at k m)); logged = not (has_none (unmarked_logged (marked_at k m))) }) (more_marks m k u ∙ suc_is (length (written_marks m)))
    ∙ ap (λ xs. record s { marks = length (written_marks m) + 1; pending = length xs; logged = not (has_none (unmarked_logged (marked_at k m))) }) (same_pending m k u n)
    ∙ ap (λ b. record s { marks = length (written_marks m) + 1; logged = not b }) (no_halves m k u n only)
    ∙ ap (λ b. record s { marks = if b then length (written_marks m) + 1 else length (written_marks m); logged = false }) (sym (marks_within m k u))
    ∙ ap (λ b. (if b then record s { marks = if nat_lt s.marks s.recipients then s.marks + 1 else s.marks; logged = false } else record s { marks = if nat_lt s.marks s.recipients then s.marks + 1 else s.marks; pending = s.pending - 1 })) (sym (ap (λ xs. not (has_none xs)) only))

pub keeps_mark : (k : ℕ) → KeepsPlace (marked_at k)
keeps_mark k = record { name = λ m. refl; place = λ m. refl }

logged_is : (m : Message) (id : Id) (k : ℕ) (b : Bool) → id_eq id m.id ≡ true → is_logged m k ≡ b → logged_of m (Some (record { id = id; position = k; need = needs.Mark })) ≡ (if b then k ∷ [] else [])
logged_is m id k b e n = ap (λ z. if z && true && is_logged m k then k ∷ [] else []) e ∙ ap (λ z. if z then k ∷ [] else []) n

-- the outcome that is marked is the first
abbrev first_wants : Id → ℕ → List Unsettled → Bool
first_wants id k us = option_map_or (λ u. id_eq u.id id && (u.position == k) && needs_mark u.need) (slice_get us 0) false

wants_first : (l : Ledger) (id : Id) (k : ℕ) → IsFirst l id k needs.Mark → marks_first l id k ≡ true
wants_first l id k f = ap (first_wants id k) f.first ∙ ap (λ b. b && (k == k) && true) (id_eq-same id) ∙ ap (λ b. b && true) (eq-eqb k k refl)

one_less_held : (a b n : ℕ) → a + b + suc n - 1 ≡ a + b + n
one_less_held a b n = omega arith

fewer_held : (l : Ledger) (id : Id) (k : ℕ) → (f : IsFirst l id k needs.Mark) → counted l (length l.unsettled) - 1 ≡ counted l (length (drop 1 l.unsettled))
fewer_held l id k f =
    ap (λ (us : List Unsettled). counted l (length us) - 1) f.first
    ∙ one_less_held (sum_by (λ r. length r.positions) l.waiting) (sum_by (λ d. length d.row.positions) l.flights) (length f.rest)
    ∙ sym (ap (λ (us : List Unsettled). counted l (length (drop 1 us))) f.first)

pub mark_law : {w : World} {c d e : Core} {l : Ledger} (id : Id) (k : ℕ) → HoldsRaw w c l → IsConsistent w l → settling_rule l ≡ Some (entries.Mark id k) →
    IsSlotChange c d id with_slot_mark → IsUnsettledChange d e (drop 1 d.unsettled) → e.in_memory ≡ d.in_memory - 1 → HoldsRaw w e (after_mark l id k)
mark_law {w = w} {c = c} {d = d} {e = e} {l = l} id k r con rule s u memory =
    let first = first_mark l id k rule in
    let found = first_of_message con id k needs.Mark first in
    let m = found.0 in
    let known = found.1 in
    let only : unmarked_logged m ≡ (if is_logged m k then k ∷ [] else []) = known.logged ∙ logged_is m id k (is_logged m k) (ap (id_eq id) known.name ∙ id_eq-same id) refl in
    let raw : HoldsRaw w d (changed_ledger l id (marked_at k)) =
    slot_law id (marked_at k) m with_slot_mark r (record { keeps = keeps_mark k; there = known.there; active = known.active; distinct = con.book.distinct }) known.admitted
    (slot_case m k (is_logged m k) refl known.unmarked only) s in
    let us = drop 1 l.unsettled in
    let change : IsUnsettledChange d e us = record { rest = u.rest; unsettled = u.unsettled ∙ ap (drop 1) raw.parts.unsettled } in
    let done : HoldsRaw w e (record l { book = (changed_ledger l id (marked_at k)).book; unsettled = us }) =
    unsettled_law us raw change (memory ∙ ap (λ n. n - 1) raw.parts.memory ∙ fewer_held l id k first) in
    subst (λ b. HoldsRaw w e (record l { book = (changed_ledger l id (marked_at k)).book; unsettled = if b then drop 1 l.unsettled else l.unsettled })) (sym (wants_first l id k first)) done
