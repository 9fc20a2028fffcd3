-- What the eight rules decide: nothing that comes from outside, and starts under the next number, 2^48 at most.
use Rattle.std.proofs.Common.{◌≡◌, ℕ, ◌<◌, ◌^◌, ltb-true, zero, suc, Bool, true, false, if◌then◌else◌, List, [], ◌∷◌, find, Option, Some, None, option_map, option_and_then, refl}
use Rattle.std.specs.List.{AllByRecursion, enumerate_from}
use Rattle.std.specs.Option.{option_map_or, option_or}
use Rattle.std.specs.Prelude.{◌+◌, nat_lt, not, slice_get}
use Rattle.q_laws.specs.Traces.{is_outside}
use Rattle.q_model.specs.Admissions.{has_room, may_admit}
use Rattle.q_model.specs.Book.{message_of}
use Rattle.q_model.specs.Bounces.{may_bounce}
use Rattle.q_model.specs.Candidates.{best}
use Rattle.q_model.specs.Choice.{choice, choice_by, next_row, preempt_by, start_next, start_of}
use Rattle.q_model.specs.Leaving.{may_back, may_corrupt, may_defer, may_remove}
use Rattle.q_model.specs.Ledger.{Ledger}
use Rattle.q_model.specs.Leftovers.{next_leftover, was_synced}
use Rattle.q_model.specs.Lists.{first_of, first_some}
use Rattle.q_model.specs.Loads.{may_read}
use Rattle.q_model.specs.Memory.{is_idle}
use Rattle.q_model.specs.Message.{Message, unmarked_logged}
use Rattle.q_model.specs.Next.{admission_rule, admit_or_corrupt, choice_of, clear_damaged, clear_leftover, clear_marked, finish, finish_message, finishing_rule, first_rule, leftover_decision, leftover_rule, load_entry, load_of, load_rule, mark_logged, needed, next, settling_rule, skip_of, skip_rule, start_rule, sync_rule, wants_sync}
use Rattle.q_model.specs.Past.{starts}
use Rattle.q_model.specs.Run.{decide, decisions}
use Rattle.q_model.specs.Settings.{World}
use Rattle.q_model.specs.SiteRecords.{is_dead_site}
use Rattle.q_model.specs.Startable.{current}
use Rattle.q_model.specs.Step.{after}
use Rattle.q_model.specs.Times.{due}
use Rattle.q_model.specs.Alternation.{Pick, pick, pick_id}
use Rattle.q_model.specs.declared.entry.Entry.{Entry}
use Rattle.q_model.specs.declared.entry.Entry.TheVariants as entries
use Rattle.q_model.specs.declared.id.Id.{Id}
use Rattle.q_model.specs.declared.rows.Admitted.{Admitted}
use Rattle.q_model.specs.declared.rows.Need.{Need}
use Rattle.q_model.specs.declared.rows.Need.TheVariants as needs
use Rattle.q_model.specs.declared.rows.Row.{Row}
use Rattle.q_model.specs.declared.rows.Unsettled.{Unsettled}

-- it comes from inside; what begins has the next number, and fewer than 2^48 began before it
abbrev pub IsDecision : Ledger → Entry → Type 0
IsDecision l (entries.Start number id site positions) = (number ≡ starts l + 1) × (starts l < 2 ^ 48)
IsDecision l e = is_outside e ≡ false

-- what is decided, if anything is
abbrev pub Decides : Ledger → Option Entry → Type 0
Decides l None = Unit {0}
Decides l (Some e) = IsDecision l e

-- ---- how rules are made

by_map : {A : Type 0} (l : Ledger) (f : A → Entry) → ((a : A) → IsDecision l (f a)) → (o : Option A) → Decides l (option_map f o)
by_map l f h None = tt
by_map l f h (Some a) = h a

by_then : {A : Type 0} (l : Ledger) (f : A → Option Entry) → ((a : A) → Decides l (f a)) → (o : Option A) → Decides l (option_and_then f o)
by_then l f h None = tt
by_then l f h (Some a) = h a

by_map_or : {A : Type 0} (l : Ledger) (f : A → Option Entry) (other : Option Entry) → ((a : A) → Decides l (f a)) → Decides l other → (o : Option A) → Decides l (option_map_or f o other)
by_map_or l f other h k None = k
by_map_or l f other h k (Some a) = h a

by_or : (l : Ledger) (a b : Option Entry) → Decides l a → Decides l b → Decides l (option_or a b)
by_or l None b h k = k
by_or l (Some e) b h k = h

by_first : (l : Ledger) (b : Bool) (e : Entry) (cs : List (Bool × Entry)) → IsDecision l e → Decides l (first_of cs) → Decides l (first_of ((b, e) ∷ cs))
by_first l true e cs h k = h
by_first l false e cs h k = k

by_all : (l : Ledger) (cs : List (Bool × Entry)) → AllByRecursion (λ (c : Bool × Entry). IsDecision l c.1) cs → Decides l (first_of cs)
by_all l [] h = tt
by_all l (c ∷ cs) h = by_first l c.0 c.1 cs h.0 (by_all l cs h.1)

by_if : (l : Ledger) (b : Bool) (o : Option Entry) → (b ≡ true → Decides l o) → Decides l (if b then o else None)
by_if l true o h = h refl
by_if l false o h = tt

some_first : {A : Type 0} (l : Ledger) (f : A → Option Entry) (x : A) (xs : List A) (o : Option Entry) → f x ≡ o → Decides l o → Decides l (first_some f xs) → Decides l (first_some f (x ∷ xs))
some_first l f x xs None e k h = rw (e) h
some_first l f x xs (Some d) e k h = rw (e) k

by_some : {A : Type 0} (l : Ledger) (f : A → Option Entry) → ((a : A) → Decides l (f a)) → (xs : List A) → Decides l (first_some f xs)
by_some l f h [] = tt
by_some l f h (x ∷ xs) = some_first l f x xs (f x) refl (h x) (by_some l f h xs)

-- ---- the rules

needed_decides : (l : Ledger) (id : Id) (position : ℕ) (n : Need) → IsDecision l (needed id position n)
needed_decides l id position (needs.Log why code) = refl
needed_decides l id position needs.Mark = refl

settling_decides : (l : Ledger) → Decides l (settling_rule l)
settling_decides l = by_map l (λ (u : Unsettled). needed u.id u.position u.need) (λ u. needed_decides l u.id u.position u.need) (slice_get l.unsettled 0)

sync_decides : (w : World) (l : Ledger) → Decides l (sync_rule w l)
sync_decides w l = by_map l (λ (a : Admitted). entries.Sync a.id) (λ a. refl) (find (wants_sync w l) l.admitted)

skip_decides : (l : Ledger) → Decides l (skip_rule l)
skip_decides l = by_map l skip_of (λ r. refl) (find (λ (r : Row). is_dead_site l r.site) l.waiting)

finish_choices : (w : World) (l : Ledger) (id : Id) (m : Message) → Decides l (finish_message w l id m)
finish_choices w l id m = by_all l ((may_defer w l id (due w l.now m), entries.Defer id (due w l.now m)) ∷ (may_bounce l id, entries.Bounce id) ∷ (may_remove l id, entries.Remove id) ∷ []) (refl, (refl, (refl, tt)))

finishing_decides : (w : World) (l : Ledger) → Decides l (finishing_rule w l)
finishing_decides w l = by_then l (λ (a : Admitted). finish w l a.id) (λ a. by_then l (finish_message w l a.id) (finish_choices w l a.id) (message_of l.book a.id)) (find (λ (a : Admitted). is_idle l a.id) l.admitted)

marked_decides : (l : Ledger) (m : Message) → Decides l (clear_marked l m)
marked_decides l m = by_all l ((not (was_synced l m.id), entries.Sync m.id) ∷ (may_bounce l m.id, entries.Bounce m.id) ∷ (may_remove l m.id, entries.Remove m.id) ∷ (may_back l m.id, entries.Back m.id) ∷ []) (refl, (refl, (refl, (refl, tt))))

clear_decides : (w : World) (l : Ledger) (m : Message) → Decides l (clear_leftover w l m)
clear_decides w l m = by_or l (mark_logged m) (clear_marked l m) (by_map l (λ p. entries.Mark m.id p) (λ p. refl) (slice_get (unmarked_logged m) 0)) (marked_decides l m)

damaged_decides : (w : World) (l : Ledger) (id : Id) → Decides l (clear_damaged w l id)
damaged_decides w l id = by_all l ((may_corrupt w l id, entries.Corrupt id) ∷ []) (refl, tt)

leftover_decides : (w : World) (l : Ledger) → Decides l (leftover_rule w l)
leftover_decides w l = by_then l (leftover_decision w l) (λ id. by_map_or l (clear_leftover w l) (clear_damaged w l id) (clear_decides w l) (damaged_decides w l id) (message_of l.book id)) (next_leftover l)

picked_decides : (w : World) (l : Ledger) (p : Pick) → Decides l (admit_or_corrupt w l p)
picked_decides w l p = by_all l ((may_admit w l (pick_id p), entries.Admit (pick_id p)) ∷ (may_corrupt w l (pick_id p), entries.Corrupt (pick_id p)) ∷ []) (refl, (refl, tt))

admission_decides : (w : World) (l : Ledger) → Decides l (admission_rule w l)
admission_decides w l = by_if l (has_room w l) (option_and_then (admit_or_corrupt w l) (pick l)) (λ _. by_then l (admit_or_corrupt w l) (picked_decides w l) (pick l))

load_decides : (w : World) (l : Ledger) → Decides l (load_rule w l)
load_decides w l = by_then l (load_of w l) (λ a. by_then l (load_entry w l a) (λ m. refl) (message_of l.book a.id)) (find (may_read w l) l.admitted)

choice_decides : (w : World) (l : Ledger) (transport : ℕ) → starts l < 2 ^ 48 → Decides l (choice w l transport)
choice_decides w l transport few = by_then l (choice_by w l transport) (λ parent. by_map_or l (preempt_by l transport parent) (start_next w l transport parent) (λ child. refl) (by_map l (start_of l) (λ r. (refl, few)) (next_row w l transport parent)) (best w l transport parent)) (current w l transport)

start_decides : (w : World) (l : Ledger) → Decides l (start_rule w l)
start_decides w l = by_if l (nat_lt (starts l) (2 ^ 48)) (first_some (choice_of w l) (enumerate_from 0 l.lines)) (λ few. by_some l (choice_of w l) (λ line. choice_decides w l line.0 (ltb-true (starts l) (2 ^ 48) few)) (enumerate_from 0 l.lines))

-- the rules from the last on
rules_decides : (w : World) (l : Ledger) → Decides l (first_rule w l)
rules_decides w l =
    let loading : Option Entry = option_or (load_rule w l) (start_rule w l) in
    let admitting : Option Entry = option_or (admission_rule w l) loading in
    let clearing : Option Entry = option_or (leftover_rule w l) admitting in
    let finishing : Option Entry = option_or (finishing_rule w l) clearing in
    let skipping : Option Entry = option_or (skip_rule l) finishing in
    let syncing : Option Entry = option_or (sync_rule w l) skipping in
    by_or l (settling_rule l) syncing (settling_decides l)
    (by_or l (sync_rule w l) skipping (sync_decides w l)
    (by_or l (skip_rule l) finishing (skip_decides l)
    (by_or l (finishing_rule w l) clearing (finishing_decides w l)
    (by_or l (leftover_rule w l) admitting (leftover_decides w l)
    (by_or l (admission_rule w l) loading (admission_decides w l)
    (by_or l (load_rule w l) (start_rule w l) (load_decides w l) (start_decides w l)))))))

pub next_decides : (w : World) (l : Ledger) → Decides l (next w l)
unfolding next
next_decides w l = by_if l l.timed (first_rule w l) (λ _. rules_decides w l)

-- ---- all decisions behind an event

-- each is the next of the ledger behind those before it
abbrev pub AreDecisions : World → Ledger → List Entry → Type 0
AreDecisions w l [] = Unit {0}
AreDecisions w l (e ∷ es) = (next w l ≡ Some e) × IsDecision l e × AreDecisions w (after w l e) es

first_decides : (n : ℕ) (w : World) (l : Ledger) (o : Option Entry) → next w l ≡ o → Decides l o → ((e : Entry) → AreDecisions w (after w l e) (decide n w (after w l e))) → AreDecisions w l (elim o [ None ↦ [] | Some e ↦ e ∷ decide n w (after w l e) ])
first_decides n w l None is h rest = tt
first_decides n w l (Some e) is h rest = (is, h, rest e)

decide_decides : (n : ℕ) (w : World) (l : Ledger) → AreDecisions w l (decide n w l)
unfolding decide
decide_decides zero w l = tt
decide_decides (suc n) w l = first_decides n w l (next w l) refl (next_decides w l) (λ e. decide_decides n w (after w l e))

pub decisions_are : (w : World) (l : Ledger) → AreDecisions w l (decisions w l)
unfolding decisions
decisions_are w l = decide_decides (2 ^ 60) w l
