-- Each decision of a consistent ledger is allowed.
use Rattle.std.proofs.Common.{◌≡◌, ℕ, ◌+◌, ◌^◌, Bool, true, false, not, List, [], ◌∷◌, find, filter_map, Option, Some, None, option_map, ◌⊎◌, inl, inr, refl, sym, ap, ◌∙◌, subst, arith, if◌then◌else◌, eq-eqb, eqb-true, option_and_then}
use Rattle.std.proofs.lemmas.Bool.{and_from, and_parts, or_left, or_right}
use Rattle.std.proofs.lemmas.Option.{same_Some}
use Rattle.std.specs.List.{cons_option, enumerate_from, list_any}
use Rattle.std.specs.Option.{option_map_or, option_or}
use Rattle.std.specs.Prelude.{◌==◌, ◌||◌, ◌&&◌, nat_lt, slice_get}
use Rattle.q_laws.proofs.Books.{left_active, message_in}
use Rattle.q_laws.proofs.Decided.{Decided, chosen, finishing_decided, row_is, settling_decided, settling_none, skip_decided, sync_decided}
use Rattle.q_laws.proofs.Distinct.{find_named, in_listed}
use Rattle.q_laws.proofs.Members.{IsIn, any_from, find_in, in_filtered, least_in}
use Rattle.q_laws.proofs.Places.{got_in, place_is}
use Rattle.q_laws.specs.Consistency.{IsConsistent}
use Rattle.q_model.proofs.IdLaws.{id_eq-refl, id_eq-true}
use Rattle.q_model.specs.Accounts.{job_left}
use Rattle.q_model.specs.Admissions.{has_room, may_admit}
use Rattle.q_model.specs.Batches.{load_end}
use Rattle.q_model.specs.Book.{message_of}
use Rattle.q_model.specs.Bounces.{may_bounce}
use Rattle.q_model.specs.Candidates.{best}
use Rattle.q_model.specs.Choice.{choice, next_row, start_of}
use Rattle.q_model.specs.Ids.{id_before, id_eq}
use Rattle.q_model.specs.Leaving.{may_back, may_corrupt, may_remove}
use Rattle.q_model.specs.Ledger.{Ledger}
use Rattle.q_model.specs.Leftovers.{is_leftover, leftovers, next_leftover, was_synced}
use Rattle.q_model.specs.Lists.{first_of, first_some, has_none, least}
use Rattle.q_model.specs.Loads.{may_load, may_read}
use Rattle.q_model.specs.Marking.{is_unmarked_at, marks_first, marks_leftover}
use Rattle.q_model.specs.Marks.{is_marked}
use Rattle.q_model.specs.Memory.{admitted_of, free}
use Rattle.q_model.specs.Message.{Message, Recipient, is_logged, unmarked_logged, written_marks}
use Rattle.q_model.specs.Next.{admission_rule, clear_leftover, finishing_rule, first_rule, leftover_decision, leftover_rule, load_of, load_rule, mark_logged, next, settling_rule, skip_rule, start_rule, sync_rule}
use Rattle.q_model.specs.Past.{is_living, starts}
use Rattle.q_model.specs.Places.{is_active}
use Rattle.q_model.specs.Settings.{World}
use Rattle.q_model.specs.Startable.{can_start, current, is_startable, line_of}
use Rattle.q_model.specs.Starts.{is_row}
use Rattle.q_model.specs.Step.{allowed}
use Rattle.q_model.specs.Alternation.{pick, pick_id, Pick}
use Rattle.q_model.specs.declared.entry.Entry.{Entry}
use Rattle.q_model.specs.declared.id.Id.{Id}
use Rattle.q_model.specs.declared.rows.Admitted.{Admitted}
use Rattle.q_model.specs.declared.rows.Row.{Row}
use Rattle.q_model.specs.declared.entry.Entry.TheVariants as entries

-- ---- what an earlier life left

marked_apart : (a b : Bool) → (not a && b) ≡ true → (b && not a) ≡ true
marked_apart true b h = absurd cc
marked_apart false true h = refl
marked_apart false false h = absurd cc

-- a logged position without its mark
pub unmarked_is : (m : Message) (p : ℕ) → IsIn p (unmarked_logged m) → (is_logged m p && is_unmarked_at m p) ≡ true
unmarked_is m p h =
    let one = place_is 0 (λ i (r : Recipient). not (is_marked r.mark) && is_logged m i) m.recipients p h in
    let at : p ≡ one.index = omega (arith, one.is) in
    ap (λ (o : Option Recipient). is_logged m p && option_map_or (λ (r : Recipient). not (is_marked r.mark)) o false) (ap (slice_get m.recipients) at ∙ one.there)
    ∙ marked_apart (is_marked one.item.mark) (is_logged m p) one.passes

mark_decided : (w : World) (l : Ledger) (id : Id) (m : Message) (e : Entry) (o : Option ℕ) → l.unsettled ≡ [] → is_leftover l m.id ≡ true → message_of l.book m.id ≡ Some m →
    slice_get (unmarked_logged m) 0 ≡ o → option_map (λ p. entries.Mark m.id p) o ≡ Some e → Decided w l e
mark_decided w l id m e None none left there f h = absurd cc
mark_decided w l id m e (Some p) none left there f h =
    let marks : marks_leftover l m.id p ≡ true = and_from (is_leftover l m.id) (option_map_or (λ x. is_logged x p && is_unmarked_at x p) (message_of l.book m.id) false) left
    (ap (λ (x : Option Message). option_map_or (λ x. is_logged x p && is_unmarked_at x p) x false) there ∙ unmarked_is m p (got_in p (unmarked_logged m) 0 f)) in
    subst (Decided w l) (same_Some (entries.Mark m.id p) e h) (or_right (marks_first l m.id p) (marks_leftover l m.id p) marks, inr (none, marks))

abbrev clearings : World → Ledger → Id → List (Bool × Entry)
clearings w l id = (not (was_synced l id), entries.Sync id) ∷ (may_bounce l id, entries.Bounce id) ∷ (may_remove l id, entries.Remove id) ∷ (may_back l id, entries.Back id) ∷ []

clear_decided : (w : World) (l : Ledger) (id : Id) (c : Bool × Entry) → Decided w l (entries.Sync id) → IsIn c (clearings w l id) → c.0 ≡ true → Decided w l c.1
clear_decided w l id c sync (inl e) h = subst (λ (x : Bool × Entry). Decided w l x.1) e sync
clear_decided w l id c sync (inr (inl e)) h = subst (λ (x : Bool × Entry). x.0 ≡ true → Decided w l x.1) e (λ k. (k, tt)) h
clear_decided w l id c sync (inr (inr (inl e))) h = subst (λ (x : Bool × Entry). x.0 ≡ true → Decided w l x.1) e (λ k. (k, tt)) h
clear_decided w l id c sync (inr (inr (inr (inl e)))) h = subst (λ (x : Bool × Entry). x.0 ≡ true → Decided w l x.1) e (λ k. (k, tt)) h
clear_decided w l id c sync (inr (inr (inr (inr e)))) h = absurd e

none_unmarked : (m : Message) (ps : List ℕ) → option_map (λ p. entries.Mark m.id p) (slice_get ps 0) ≡ None → ps ≡ []
none_unmarked m [] h = refl
none_unmarked m (p ∷ ps) h = absurd cc

-- the first of two, or the second
pub either : {A : Type 0} (o q : Option A) (x : A) → option_or o q ≡ Some x → (o ≡ Some x) ⊎ ((o ≡ None) × (q ≡ Some x))
either None q x h = inr (refl, h)
either (Some y) q x h = inl h

cleared : (w : World) (l : Ledger) (m : Message) (e : Entry) → IsConsistent w l → l.unsettled ≡ [] → is_leftover l m.id ≡ true → next_leftover l ≡ Some m.id → message_of l.book m.id ≡ Some m → clear_leftover w l m ≡ Some e → Decided w l e
cleared w l m e c none left next there h =
    elim (either (mark_logged m) (first_of (clearings w l m.id)) e h) [
      | inl mark ↦ mark_decided w l m.id m e (slice_get (unmarked_logged m) 0) none left there refl mark
      | inr other ↦
          let one = chosen (clearings w l m.id) e other.1 in
          let may : option_map_or (λ (x : Message). is_active x.place && (is_leftover l m.id || not (has_none (written_marks x)))) (message_of l.book m.id) false ≡ true =
          ap (λ (o : Option Message). option_map_or (λ (x : Message). is_active x.place && (is_leftover l m.id || not (has_none (written_marks x)))) o false) there
          ∙ and_from (is_active m.place) (is_leftover l m.id || not (has_none (written_marks m))) (left_active l c.book.distinct m.id m left there) (or_left (is_leftover l m.id) (not (has_none (written_marks m))) left) in
          subst (Decided w l) one.3 (clear_decided w l m.id one.0 (may, inr (m, there, none_unmarked m (unmarked_logged m) other.0, next)) one.1 one.2)
    ]

corrupt_decided : (w : World) (l : Ledger) (id : Id) (c : Bool × Entry) → IsIn c ((may_corrupt w l id, entries.Corrupt id) ∷ []) → c.0 ≡ true → Decided w l c.1
corrupt_decided w l id c (inl e) h = subst (λ (x : Bool × Entry). x.0 ≡ true → Decided w l x.1) e (λ k. (k, tt)) h
corrupt_decided w l id c (inr e) h = absurd e

left_decided : (w : World) (l : Ledger) (id : Id) (e : Entry) (o : Option Message) → IsConsistent w l → l.unsettled ≡ [] → is_leftover l id ≡ true → next_leftover l ≡ Some id → message_of l.book id ≡ o →
    option_map_or (λ m. clear_leftover w l m) o (first_of ((may_corrupt w l id, entries.Corrupt id) ∷ [])) ≡ Some e → Decided w l e
left_decided w l id e None c none left next there h = let one = chosen ((may_corrupt w l id, entries.Corrupt id) ∷ []) e h in subst (Decided w l) one.3 (corrupt_decided w l id one.0 one.1 one.2)
left_decided w l id e (Some m) c none left next there h =
    let same : m.id ≡ id = (message_in l.book id m there).1 in
    cleared w l m e c none (ap (is_leftover l) same ∙ left) (next ∙ ap Some (sym same)) (ap (message_of l.book) same ∙ there) h

leftover_decided : (w : World) (l : Ledger) (e : Entry) (o : Option Id) → IsConsistent w l → l.unsettled ≡ [] → least id_before (leftovers l) ≡ o → option_and_then (λ id. leftover_decision w l id) o ≡ Some e → Decided w l e
leftover_decided w l e None c none f h = absurd cc
leftover_decided w l e (Some id) c none f h = left_decided w l id e (message_of l.book id) c none (in_listed id (leftovers l) (least_in id_before id (leftovers l) f)) f refl h

-- ---- what is taken next

picked_one : (w : World) (l : Ledger) (id : Id) (c : Bool × Entry) → IsIn c ((may_admit w l id, entries.Admit id) ∷ (may_corrupt w l id, entries.Corrupt id) ∷ []) → c.0 ≡ true → Decided w l c.1
picked_one w l id c (inl e) h = subst (λ (x : Bool × Entry). x.0 ≡ true → Decided w l x.1) e (λ k. (k, tt)) h
picked_one w l id c (inr (inl e)) h = subst (λ (x : Bool × Entry). x.0 ≡ true → Decided w l x.1) e (λ k. (k, tt)) h
picked_one w l id c (inr (inr e)) h = absurd e

picked : (w : World) (l : Ledger) (e : Entry) (o : Option Pick) → option_and_then (λ p. first_of ((may_admit w l (pick_id p), entries.Admit (pick_id p)) ∷ (may_corrupt w l (pick_id p), entries.Corrupt (pick_id p)) ∷ [])) o ≡ Some e → Decided w l e
picked w l e None h = absurd cc
picked w l e (Some p) h =
    let one = chosen ((may_admit w l (pick_id p), entries.Admit (pick_id p)) ∷ (may_corrupt w l (pick_id p), entries.Corrupt (pick_id p)) ∷ []) e h in
    subst (Decided w l) one.3 (picked_one w l (pick_id p) one.0 one.1 one.2)

admission_decided : (w : World) (l : Ledger) (e : Entry) (b : Bool) →
    (if b then option_and_then (λ p. first_of ((may_admit w l (pick_id p), entries.Admit (pick_id p)) ∷ (may_corrupt w l (pick_id p), entries.Corrupt (pick_id p)) ∷ [])) (pick l) else None) ≡ Some e → Decided w l e
admission_decided w l e true h = picked w l e (pick l) h
admission_decided w l e false h = absurd cc

-- ---- a load

same_number : (n : ℕ) → (n == n) ≡ true
same_number n = eq-eqb n n refl

load_on : (w : World) (l : Ledger) (a : Admitted) (e : Entry) (o : Option Message) → message_of l.book a.id ≡ o → admitted_of l a.id ≡ Some a → may_read w l a ≡ true →
    option_and_then (λ m. Some (entries.Load a.id a.unread (load_end m a.unread (free w l)))) o ≡ Some e → Decided w l e
load_on w l a e None there mine reads h = absurd cc
load_on w l a e (Some m) there mine reads h =
    let to = load_end m a.unread (free w l) in
    let may : may_load w l a.id a.unread to ≡ true =
    ap (λ (x : Option Admitted). option_map_or (λ (y : Admitted). option_map_or (λ z. may_read w l y && (a.unread == y.unread) && (to == load_end z a.unread (free w l))) (message_of l.book a.id) false) x false) mine
    ∙ ap (λ (x : Option Message). option_map_or (λ z. may_read w l a && (a.unread == a.unread) && (to == load_end z a.unread (free w l))) x false) there
    ∙ and_from (may_read w l a && (a.unread == a.unread)) (to == to) (and_from (may_read w l a) (a.unread == a.unread) reads (same_number a.unread)) (same_number to) in
    subst (Decided w l) (same_Some (entries.Load a.id a.unread to) e h) (may, tt)

load_decided : (w : World) (l : Ledger) (e : Entry) (o : Option Admitted) → IsConsistent w l → find (may_read w l) l.admitted ≡ o → option_and_then (λ (a : Admitted). load_of w l a) o ≡ Some e → Decided w l e
load_decided w l e None c f h = absurd cc
load_decided w l e (Some a) c f h =
    let one = find_in (may_read w l) a l.admitted f in
    load_on w l a e (message_of l.book a.id) refl (find_named (λ (x : Admitted). x.id) a l.admitted c.memory.admitted one.0) one.1 h

-- ---- a transport's choice

first_given : {A B : Type 0} (f : A → Option B) (x : B) (y : A) (ys : List A) (o : Option B) → f y ≡ o → (slice_get (filter_map f ys) 0 ≡ Some x → (z : A) × (f z ≡ Some x)) → slice_get (cons_option o (filter_map f ys)) 0 ≡ Some x → (z : A) × (f z ≡ Some x)
first_given f x y ys None e later h = later h
first_given f x y ys (Some v) e later h = (y, e ∙ h)

some_given : {A B : Type 0} (f : A → Option B) (x : B) (xs : List A) → first_some f xs ≡ Some x → (z : A) × (f z ≡ Some x)
some_given f x [] h = absurd cc
some_given f x (y ∷ ys) h = first_given f x y ys (f y) refl (some_given f x ys) h

start_decided : (w : World) (l : Ledger) (transport : ℕ) (parent : Id) (r : Row) → current w l transport ≡ Some parent → next_row w l transport parent ≡ Some r → Decided w l (start_of l r)
start_decided w l transport parent r now row =
    let one = in_filtered (λ (x : Row). id_eq x.id parent && (x.site.transport == transport) && is_startable w l x) r l.waiting (least_in _ r _ row) in
    let two = and_parts (id_eq r.id parent && (r.site.transport == transport)) (is_startable w l r) one.1 in
    let three = and_parts (id_eq r.id parent) (r.site.transport == transport) two.0 in
    let line : IsIn parent (line_of l transport) = (find_in (can_start w l transport) parent (line_of l transport) now).0 in (
      and_from (starts l + 1 == starts l + 1) (list_any (λ (x : Row). is_row r.id r.site r.positions x && is_startable w l x) l.waiting) (same_number (starts l + 1))
          (any_from (λ (x : Row). is_row r.id r.site r.positions x && is_startable w l x) r l.waiting one.0 (and_from (is_row r.id r.site r.positions r) (is_startable w l r) (row_is r) two.1)),
      subst (λ i. IsIn i (line_of l r.site.transport)) (sym (id_eq-true r.id parent three.0)) (subst (λ t. IsIn parent (line_of l t)) (sym (eqb-true r.site.transport transport three.1)) line),
    )

preempt_decided : (w : World) (l : Ledger) (transport : ℕ) (parent child : Id) → current w l transport ≡ Some parent → best w l transport parent ≡ Some child → Decided w l (entries.Preempt child parent transport (job_left l child transport))
preempt_decided w l transport parent child now good = (
  and_from (option_map_or (λ c. id_eq c parent) (current w l transport) false && option_map_or (λ b. id_eq b child) (best w l transport parent) false) (job_left l child transport == job_left l child transport)
      (and_from (option_map_or (λ c. id_eq c parent) (current w l transport) false) (option_map_or (λ b. id_eq b child) (best w l transport parent) false)
      (ap (λ (o : Option Id). option_map_or (λ c. id_eq c parent) o false) now ∙ id_eq-refl parent)
      (ap (λ (o : Option Id). option_map_or (λ c. id_eq c child) o false) good ∙ id_eq-refl child))
      (same_number (job_left l child transport)),
  tt,
)

best_decided : (w : World) (l : Ledger) (transport : ℕ) (parent : Id) (e : Entry) (o : Option Id) → current w l transport ≡ Some parent → best w l transport parent ≡ o →
    (q : Option Row) → next_row w l transport parent ≡ q → option_map_or (λ child. Some (entries.Preempt child parent transport (job_left l child transport))) o (option_map (start_of l) q) ≡ Some e → Decided w l e
best_decided w l transport parent e (Some child) now good q row h = subst (Decided w l) (same_Some (entries.Preempt child parent transport (job_left l child transport)) e h) (preempt_decided w l transport parent child now good)
best_decided w l transport parent e None now good None row h = absurd cc
best_decided w l transport parent e None now good (Some r) row h = subst (Decided w l) (same_Some (start_of l r) e h) (start_decided w l transport parent r now row)

choice_decided : (w : World) (l : Ledger) (transport : ℕ) (e : Entry) (o : Option Id) → current w l transport ≡ o →
    option_and_then (λ parent. option_map_or (λ child. Some (entries.Preempt child parent transport (job_left l child transport))) (best w l transport parent) (option_map (start_of l) (next_row w l transport parent))) o ≡ Some e → Decided w l e
choice_decided w l transport e None now h = absurd cc
choice_decided w l transport e (Some parent) now h = best_decided w l transport parent e (best w l transport parent) now refl (next_row w l transport parent) refl h

start_rule_decided : (w : World) (l : Ledger) (e : Entry) (b : Bool) → (if b then first_some (λ (line : ℕ × List Id). choice w l line.0) (enumerate_from 0 l.lines) else None) ≡ Some e → Decided w l e
start_rule_decided w l e true h = let one = some_given (λ (line : ℕ × List Id). choice w l line.0) e (enumerate_from 0 l.lines) h in choice_decided w l (one.0).0 e (current w l (one.0).0) refl one.1
start_rule_decided w l e false h = absurd cc

-- ---- all rules

rules_decided : (w : World) (l : Ledger) (e : Entry) → IsConsistent w l → first_rule w l ≡ Some e → Decided w l e
rules_decided w l e c h =
    elim (either (settling_rule l) _ e h) [
      | inl r ↦ settling_decided w l e l.unsettled refl r
      | inr a ↦ let none : l.unsettled ≡ [] = settling_none l.unsettled a.0 in elim (either (sync_rule w l) _ e a.1) [
        | inl r ↦ sync_decided w l e _ c refl r
        | inr b ↦ elim (either (skip_rule l) _ e b.1) [
          | inl r ↦ skip_decided w l e _ refl r
          | inr d ↦ elim (either (finishing_rule w l) _ e d.1) [
            | inl r ↦ finishing_decided w l e _ r
            | inr f ↦ elim (either (leftover_rule w l) _ e f.1) [
              | inl r ↦ leftover_decided w l e _ c none refl r
              | inr g ↦ elim (either (admission_rule w l) _ e g.1) [
                | inl r ↦ admission_decided w l e (has_room w l) r
                | inr i ↦ elim (either (load_rule w l) (start_rule w l) e i.1) [
                  | inl r ↦ load_decided w l e _ c refl r
                  | inr s ↦ start_rule_decided w l e (nat_lt (starts l) (2 ^ 48)) s.1
                ]
              ]
            ]
          ]
        ]
      ]
    ]

timed_decided : (w : World) (l : Ledger) (e : Entry) (b : Bool) → IsConsistent w l → (if b then first_rule w l else None) ≡ Some e → Decided w l e
timed_decided w l e true c h = rules_decided w l e c h
timed_decided w l e false c h = absurd cc

-- the next decision is allowed, and says what its rule says
pub next_decided : (w : World) (l : Ledger) (e : Entry) → IsConsistent w l → next w l ≡ Some e → Decided w l e
unfolding next
next_decided w l e c h = timed_decided w l e l.timed c h

-- the next decision of a life is allowed
pub next_allowed : (w : World) (l : Ledger) (e : Entry) → IsConsistent w l → is_living l ≡ true → next w l ≡ Some e → allowed w l e ≡ true
unfolding allowed
next_allowed w l e c living h = and_from _ _ (or_left (is_living l) _ living) (next_decided w l e c h).0
