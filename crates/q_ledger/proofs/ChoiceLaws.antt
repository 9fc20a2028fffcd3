-- What a transport does next by what is kept of jobs is what it does by the ledger and the counts.
use Rattle.std.proofs.Common.{◌≡◌, ℕ, suc, ◌+◌, ◌-◌, ◌<◌, ◌≤◌, ◌^◌, Bool, true, false, List, [], ◌∷◌, length, map, refl, sym, ap, ◌∙◌, subst, arith, Option, Some, None, option_map, min, if◌then◌else◌, inl, inr, ltb-true}
use Rattle.std.specs.List.{cons_option, enumerate_from}
use Rattle.std.specs.Option.{option_map_or, option_or}
use Rattle.std.specs.Prelude.{◌==◌, filter, filter_map, nat_lt, option_and_then, slice_get}
use Rattle.q_bare.specs.CountedRules.{choice_by_counts, choice_for_by, start_next_by, start_of_by, start_rule_by}
use Rattle.q_bare.specs.Counts.{Counts}
use Rattle.q_laws.proofs.Members.{IsIn, in_filtered, in_map, least_in}
use Rattle.q_ledger.proofs.CandidateLaws.{best_same}
use Rattle.q_ledger.proofs.SlotLaws.{rest_same}
use Rattle.q_ledger.specs.Beside.{AreAccounts, IsCounted, recipients_in, recounted}
use Rattle.q_ledger.specs.Choosing.{choice_for_in, choice_in, choices_from, choosing_in, preempt_in, start_in}
use Rattle.q_ledger.specs.Held.{rest_in}
use Rattle.q_ledger.specs.Preempting.{best_in, is_better_slot, is_candidate_slot, standing_in}
use Rattle.q_ledger.specs.Slots.{row_of_slot}
use Rattle.q_ledger.specs.State.{State}
use Rattle.q_ledger.specs.Worlds.{Given, world_of}
use Rattle.q_ledger.specs.declared.accounts.Accounts.{Accounts}
use Rattle.q_ledger.specs.declared.admitted.Slot.{Slot}
use Rattle.q_model.specs.Accounts.{job_left}
use Rattle.q_model.specs.Candidates.{ids_behind}
use Rattle.q_model.specs.Choice.{next_row, preempt_by}
use Rattle.q_model.specs.Ledger.{Ledger}
use Rattle.q_model.specs.Lists.{first_some, least}
use Rattle.q_model.specs.Startable.{current, line_of}
use Rattle.q_model.specs.declared.entry.Entry.{Entry}
use Rattle.q_model.specs.declared.entry.Entry.TheVariants as entries
use Rattle.q_model.specs.declared.id.Id.{Id}
use Rattle.q_model.specs.declared.rows.Admitted.{Admitted}
use Rattle.q_model.specs.declared.rows.Row.{Row}

-- what a message in memory has left is no more than its recipients
abbrev pub IsLeftWithin : Ledger → Type 0
IsLeftWithin l = (a : Admitted) → IsIn a l.admitted → (transport : ℕ) → job_left l a.id transport ≤ recipients_in l a.id

-- ---- one transport after another

pub first_of_all : {A B : Type 0} (f : A → Option B) (x : A) (xs : List A) → first_some f (x ∷ xs) ≡ option_or (f x) (first_some f xs)
first_of_all {B = B} f x xs = by (f x)
  where
    by : (o : Option B) → slice_get (cons_option o (filter_map f xs)) 0 ≡ option_or o (first_some f xs)
    by None = refl
    by (Some y) = refl

choices_step : (g : Given) (c : State) (a : Accounts) (t n : ℕ) → t < n → choices_from g c a t (n - t) ≡ option_or (choice_in g c a t) (choices_from g c a (t + 1) (n - (t + 1)))
choices_step g c a t n h = let e : n - t ≡ suc (n - (t + 1)) = omega arith in ap (choices_from g c a t) e

pub chosen_some : (g : Given) (c : State) (a : Accounts) (t n : ℕ) (e : Entry) → t < n → choice_in g c a t ≡ Some e → choices_from g c a t (n - t) ≡ Some e
chosen_some g c a t n e h is = choices_step g c a t n h ∙ ap (λ o. option_or o (choices_from g c a (t + 1) (n - (t + 1)))) is

pub chosen_none : (g : Given) (c : State) (a : Accounts) (t n : ℕ) → t < n → choice_in g c a t ≡ None → choices_from g c a t (n - t) ≡ choices_from g c a (t + 1) (n - (t + 1))
chosen_none g c a t n h is = choices_step g c a t n h ∙ ap (λ o. option_or o (choices_from g c a (t + 1) (n - (t + 1)))) is

-- ---- a message preempts

same_head : {A : Type 0} (x y : A) (xs ys : List A) → x ∷ xs ≡ y ∷ ys → x ≡ y
same_head x y xs ys h = cc

same_tail : {A : Type 0} (x y : A) (xs ys : List A) → x ∷ xs ≡ y ∷ ys → xs ≡ ys
same_tail x y xs ys h = cc

-- each element of a list is what it is mapped to, where the list is
pub each_kept : {A : Type 0} (f : A → A) (x : A) (xs : List A) → xs ≡ map f xs → IsIn x xs → x ≡ f x
each_kept f x [] h inside = absurd inside
each_kept f x (y ∷ ys) h (inl same) = subst (λ z. z ≡ f z) same (same_head y (f y) ys (map f ys) h)
each_kept f x (y ∷ ys) h (inr inside) = each_kept f x ys (same_tail y (f y) ys (map f ys) h) inside

best_where : (g : Given) (s : State) (a : Accounts) (transport : ℕ) (parent : Id) (x : Slot) (b : Bool) →
    (if b then None else least (is_better_slot s transport) (filter (is_candidate_slot g s a transport (ids_behind parent (line_of s.ledger transport)) (standing_in s a parent transport)) s.slots)) ≡ Some x → IsIn x s.slots
best_where g s a transport parent x true h = absurd cc
best_where g s a transport parent x false h =
    let kept : Slot → Bool = is_candidate_slot g s a transport (ids_behind parent (line_of s.ledger transport)) (standing_in s a parent transport) in
    (in_filtered kept x s.slots (least_in (is_better_slot s transport) x (filter kept s.slots) h)).0

-- the best is a message in memory
best_inside : (g : Given) (s : State) (a : Accounts) (transport : ℕ) (parent : Id) (x : Slot) → best_in g s a transport parent ≡ Some x → IsIn x s.slots
best_inside g s a transport parent x h = best_where g s a transport parent x (g.settings.slot_cost == 0) h

least_number : (rest left most recipients : ℕ) → rest ≡ left → recipients ≡ most → left ≤ most → min rest recipients ≡ left
least_number rest left most recipients e f h = omega (arith, e, f, h)

-- a message needs all that it has left
need_same : (s : State) → IsCounted s → IsLeftWithin s.ledger → (transport : ℕ) (x : Slot) → IsIn x s.slots → min (rest_in s x.id transport) x.recipients ≡ job_left s.ledger x.id transport
need_same s k within transport x inside =
    let mine : x ≡ recounted s.ledger x = each_kept (recounted s.ledger) x s.slots k.slots inside in
    let row : IsIn (row_of_slot x) s.ledger.admitted = subst (λ xs. IsIn (row_of_slot x) xs) (sym k.admitted) (in_map row_of_slot x s.slots inside) in
    least_number (rest_in s x.id transport) (job_left s.ledger x.id transport) (recipients_in s.ledger x.id) x.recipients
    (rest_same s k x.id transport) (ap (λ (y : Slot). y.recipients) mine) (within (row_of_slot x) row transport)

start_next_same : (g : Given) (s : State) (a : Accounts) (c : Counts) → AreAccounts a c → c.deliveries < 2 ^ 48 → (r : Row) → start_in a r ≡ start_of_by c r
start_next_same g s a c h few r =
    let same = h.deliveries in
    let number : min (a.starts + 1) (2 ^ 64 - 1) ≡ c.deliveries + 1 = omega (arith, same, few) in
    ap (λ n. entries.Start n r.id r.site r.positions) number

row_started : (f k : Row → Entry) → ((r : Row) → f r ≡ k r) → (o : Option Row) → option_map f o ≡ option_map k o
row_started f k h None = refl
row_started f k h (Some r) = ap Some (h r)

preempted_by : (s : State) → IsCounted s → IsLeftWithin s.ledger → (transport : ℕ) (parent : Id) (o : Option Slot) → ((x : Slot) → o ≡ Some x → IsIn x s.slots) → (d e : Option Entry) → d ≡ e →
    option_map_or (preempt_in s transport parent) o d ≡ option_map_or (preempt_by s.ledger transport parent) (option_map (λ (x : Slot). x.id) o) e
preempted_by s k within transport parent None inside d e same = same
preempted_by s k within transport parent (Some x) inside d e same = ap (λ n. Some (entries.Preempt x.id parent transport n)) (need_same s k within transport x (inside x refl))

choice_for_same : (g : Given) (s : State) (a : Accounts) (c : Counts) → IsCounted s → AreAccounts a c → IsLeftWithin s.ledger → c.deliveries < 2 ^ 48 → (transport : ℕ) (parent : Id) →
    choice_for_in g s a transport parent ≡ choice_for_by c (world_of g) s.ledger transport parent
choice_for_same g s a c k h within few transport parent =
    let w = world_of g in
    preempted_by s k within transport parent (best_in g s a transport parent) (best_inside g s a transport parent) (option_map (start_in a) (next_row w s.ledger transport parent)) (start_next_by c w s.ledger transport parent)
    (row_started (start_in a) (start_of_by c) (start_next_same g s a c h few) (next_row w s.ledger transport parent))
    ∙ ap (λ o. option_map_or (preempt_by s.ledger transport parent) o (start_next_by c w s.ledger transport parent)) (best_same g s a c k h transport parent)

chosen_same : {A B : Type 0} (f k : A → Option B) → ((x : A) → f x ≡ k x) → (o : Option A) → option_and_then f o ≡ option_and_then k o
chosen_same f k h None = refl
chosen_same f k h (Some x) = h x

-- ---- all transports

choices_same : (g : Given) (s : State) (a : Accounts) (c : Counts) → IsCounted s → AreAccounts a c → IsLeftWithin s.ledger → c.deliveries < 2 ^ 48 → (t : ℕ) (ls : List (List Id)) →
    choices_from g s a t (length ls) ≡ first_some (choice_by_counts c (world_of g) s.ledger) (enumerate_from t ls)
choices_same g s a c k h within few t [] = refl
choices_same g s a c k h within few t (ids ∷ ls) =
    let w = world_of g in
    ap (λ o. option_or o (choices_from g s a (t + 1) (length ls))) (chosen_same (choice_for_in g s a t) (choice_for_by c w s.ledger t) (choice_for_same g s a c k h within few t) (current w s.ledger t))
    ∙ ap (option_or (choice_by_counts c w s.ledger (t, ids))) (choices_same g s a c k h within few (t + 1) ls)
    ∙ sym (first_of_all (choice_by_counts c w s.ledger) (t, ids) (enumerate_from (t + 1) ls))

choosing_where : (g : Given) (s : State) (a : Accounts) (c : Counts) → IsCounted s → AreAccounts a c → IsLeftWithin s.ledger → (n : ℕ) → n ≡ length s.ledger.lines → (b : Bool) → nat_lt c.deliveries (2 ^ 48) ≡ b →
    (if b then choices_from g s a 0 n else None) ≡ (if b then first_some (choice_by_counts c (world_of g) s.ledger) (enumerate_from 0 s.ledger.lines) else None)
choosing_where g s a c k h within n e false is = refl
choosing_where g s a c k h within n e true is =
    ap (choices_from g s a 0) e ∙ choices_same g s a c k h within (ltb-true c.deliveries (2 ^ 48) is) 0 s.ledger.lines

pub choosing_same : (g : Given) (s : State) (a : Accounts) (c : Counts) → IsCounted s → AreAccounts a c → IsLeftWithin s.ledger → (n : ℕ) → n ≡ length s.ledger.lines →
    choosing_in g s a n ≡ start_rule_by c (world_of g) s.ledger
choosing_same g s a c k h within n e =
    ap (λ m. if nat_lt m (2 ^ 48) then choices_from g s a 0 n else None) h.deliveries
    ∙ choosing_where g s a c k h within n e (nat_lt c.deliveries (2 ^ 48)) refl
