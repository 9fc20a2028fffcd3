-- The entries of a run, and what holds after each of them.
use Rattle.std.proofs.Common.{◌≡◌, ℕ, zero, suc, ◌^◌, Bool, true, false, List, [], ◌∷◌, ◌++◌, Option, Some, None, inl, inr, refl, sym, ◌∙◌, subst, arith, if◌then◌else◌}
use Rattle.std.proofs.lemmas.Bool.{and_from, and_parts}
use Rattle.std.specs.Prelude.{◌+◌}
use Rattle.q_laws.proofs.Beginnings.{life_consistent}
use Rattle.q_laws.proofs.Kept.{entry_consistent}
use Rattle.q_laws.proofs.Lawful.{entry_lawful, life_lawful}
use Rattle.q_laws.specs.Consistency.{IsConsistent, IsUsable}
use Rattle.q_laws.specs.Traces.{AreAllowed, AreEntriesOf, IsWithinLimits, is_outside}
use Rattle.q_model.specs.Book.{Book, all_ids}
use Rattle.q_model.specs.Ids.{are_distinct}
use Rattle.q_model.specs.Ledger.{Ledger, opening}
use Rattle.q_model.specs.Next.{next}
use Rattle.q_model.specs.Orderly.{is_lawful, is_orderly}
use Rattle.std.specs.List.{list_all}
use Rattle.q_model.specs.Places.{is_corrupt}
use Rattle.q_model.specs.Run.{decide, decisions, entry_of, event_entry, goes_on, run, run_of, turn}
use Rattle.q_model.specs.Settings.{World}
use Rattle.q_model.specs.Step.{after, after_all, allowed}
use Rattle.q_model.specs.declared.entry.Entry.{Entry}
use Rattle.q_model.specs.declared.event.Event.{Event}
use Rattle.q_model.specs.declared.event.LifeEvent.{LifeEvent}
use Rattle.q_model.specs.declared.event.LifeEvent.TheVariants.{Begin, Finish, Heard}
use Rattle.q_model.specs.declared.event.Mode.{Mode}
use Rattle.q_model.specs.declared.entry.Entry.TheVariants as entries
use Rattle.q_model.specs.declared.event.Event.TheVariants as events

-- ---- entries one after another

entries_append : (w : World) (l : Ledger) (es fs : List Entry) → AreEntriesOf w l es → AreEntriesOf w (after_all w l es) fs → AreEntriesOf w l (es ++ fs)
unfolding after_all
entries_append w l [] fs h k = k
entries_append w l (e ∷ es) fs h k = (h.0, entries_append w (after w l e) es fs h.1 k)

-- after each first part of the entries the ledger is consistent
pub front_consistent : (w : World) (l : Ledger) (es fs : List Entry) → IsConsistent w l → AreEntriesOf w l (es ++ fs) → IsConsistent w (after_all w l es)
unfolding after_all
front_consistent w l [] fs c h = c
front_consistent w l (e ∷ es) fs c h = front_consistent w (after w l e) es fs (entry_consistent w l e c h.0) h.1

-- and its book is lawful, where it was at first
pub front_lawful : (w : World) (l : Ledger) (es fs : List Entry) → IsConsistent w l → is_lawful l.book ≡ true → AreEntriesOf w l (es ++ fs) → is_lawful (after_all w l es).book ≡ true
unfolding after_all
front_lawful w l [] fs c lawful h = lawful
front_lawful w l (e ∷ es) fs c lawful h = front_lawful w (after w l e) es fs (entry_consistent w l e c h.0) (entry_lawful w l e c h.0 lawful) h.1

-- ---- the entries of a run

decided_none : (n : ℕ) (w : World) (l : Ledger) → next w l ≡ None → decide (suc n) w l ≡ []
unfolding decide
decided_none n w l h = rw (h, decide) refl

decided_some : (n : ℕ) (w : World) (l : Ledger) (e : Entry) → next w l ≡ Some e → decide (suc n) w l ≡ e ∷ decide n w (after w l e)
unfolding decide
decided_some n w l e h = rw (h, decide) refl

decided_zero : (w : World) (l : Ledger) → decide zero w l ≡ []
unfolding decide
decided_zero w l = refl

decide_entries : (n : ℕ) (w : World) (l : Ledger) → AreEntriesOf w l (decide n w l)
decide_entries zero w l = subst (AreEntriesOf w l) (sym (decided_zero w l)) tt
decide_entries (suc n) w l = on (next w l) refl (λ e. decide_entries n w (after w l e))
  where
    on : (o : Option Entry) → next w l ≡ o → ((e : Entry) → AreEntriesOf w (after w l e) (decide n w (after w l e))) → AreEntriesOf w l (decide (suc n) w l)
    on None h rest = subst (AreEntriesOf w l) (sym (decided_none n w l h)) tt
    on (Some e) h rest = subst (AreEntriesOf w l) (sym (decided_some n w l e h)) (inr h, rest e)

decisions_entries : (w : World) (l : Ledger) → AreEntriesOf w l (decisions w l)
unfolding decisions
decisions_entries w l = decide_entries (2 ^ 60) w l

event_outside : (l : Ledger) (event : Event) → is_outside (event_entry l event) ≡ true
event_outside l (events.At t) = refl
event_outside l (events.Mail sender to content) = refl
event_outside l (events.Reply number state outcomes) = refl
event_outside l (events.Trigger kind) = refl

item_outside : (l : Ledger) (item : LifeEvent) → is_outside (entry_of l item) ≡ true
item_outside l Begin = refl
item_outside l (Heard event) = event_outside l event
item_outside l Finish = refl

follow : (w : World) (l : Ledger) (b : Bool) → AreEntriesOf w l (if b then decisions w l else [])
follow w l true = decisions_entries w l
follow w l false = tt

turn_entries : (w : World) (l : Ledger) (item : LifeEvent) → allowed w l (entry_of l item) ≡ true → AreEntriesOf w l (turn w l item)
unfolding turn
turn_entries w l item h = (inl (and_from (is_outside (entry_of l item)) (allowed w l (entry_of l item)) (item_outside l item) h), follow w (after w l (entry_of l item)) (goes_on item))

-- each entry of a run whose items are allowed comes from outside and is allowed, or is the next decision
pub run_entries : (w : World) (l : Ledger) (items : List LifeEvent) → AreAllowed w l items → AreEntriesOf w l (run w l items)
unfolding run
run_entries w l [] h = tt
run_entries w l (item ∷ items) h = entries_append w l (turn w l item) (run w (after_all w l (turn w l item)) items) (turn_entries w l item h.0) (run_entries w (after_all w l (turn w l item)) items h.1)

-- ---- whole runs

limits_of : (w : World) (l : Ledger) → IsConsistent w l → IsWithinLimits w l
limits_of w l c = record { messages = c.memory.messages; recipients = c.memory.recipients }

-- at each moment of a run that goes on from a consistent ledger the ledger is consistent
pub run_consistent : (w : World) (l : Ledger) (items : List LifeEvent) → IsConsistent w l → AreAllowed w l items → (es fs : List Entry) → run w l items ≡ es ++ fs → IsConsistent w (after_all w l es)
run_consistent w l items c h es fs e = front_consistent w l es fs c (subst (AreEntriesOf w l) e (run_entries w l items h))

-- at each moment of a run that goes on from a consistent ledger the limits hold
pub limits_hold : (w : World) (l : Ledger) (items : List LifeEvent) → IsConsistent w l → AreAllowed w l items → (es fs : List Entry) → run w l items ≡ es ++ fs → IsWithinLimits w (after_all w l es)
limits_hold w l items c h es fs e = limits_of w (after_all w l es) (run_consistent w l items c h es fs e)

-- the first entry of a run on a book
first_entry : (w : World) (mode : Mode) (book : Book) (items : List LifeEvent) → (rest : List Entry) × (run_of w mode book items ≡ entries.Life (book.generation + 1) mode ∷ rest)
unfolding run_of run turn
first_entry w mode book items = (_, refl)

same_first : {A : Type 0} (x y : A) (xs ys : List A) → ◌≡◌ {A = List A} (x ∷ xs) (y ∷ ys) → x ≡ y
same_first x y xs ys h = cc

runs_on : (w : World) (mode : Mode) (book : Book) (items : List LifeEvent) → AreAllowed w (opening mode book) (Begin ∷ items) → AreEntriesOf w (opening mode book) (run_of w mode book items)
unfolding run_of
runs_on w mode book items h = run_entries w (opening mode book) (Begin ∷ items) h

-- of a run on a book, the entry with which it begins and the others
begins_with : (w : World) (mode : Mode) (book : Book) (items : List LifeEvent) (e : Entry) (es fs : List Entry) → AreAllowed w (opening mode book) (Begin ∷ items) → run_of w mode book items ≡ e ∷ (es ++ fs) →
    (entries.Life (book.generation + 1) mode ≡ e) × AreEntriesOf w (after w (opening mode book) e) (es ++ fs)
begins_with w mode book items e es fs h same =
    let all = subst (AreEntriesOf w (opening mode book)) same (runs_on w mode book items h) in
    let first = first_entry w mode book items in
    (same_first (entries.Life (book.generation + 1) mode) e first.0 (es ++ fs) (sym first.1 ∙ same), all.1)

-- at each moment of a run on an orderly book the limits hold
pub run_limits : (w : World) (mode : Mode) (book : Book) (items : List LifeEvent) → IsUsable w → are_distinct (all_ids book) ≡ true → is_orderly book ≡ true → AreAllowed w (opening mode book) (Begin ∷ items) →
    (es fs : List Entry) → run_of w mode book items ≡ es ++ fs → IsWithinLimits w (after_all w (opening mode book) es)
unfolding after_all
run_limits w mode book items usable distinct orderly h [] fs same = record { messages = omega arith; recipients = omega arith }
run_limits w mode book items usable distinct orderly h (e ∷ es) fs same =
    let two = begins_with w mode book items e es fs h same in
    let first : IsConsistent w (after w (opening mode book) e) = subst (λ x. IsConsistent w (after w (opening mode book) x)) two.0 (life_consistent w (opening mode book) mode usable distinct orderly) in
    limits_of w (after_all w (after w (opening mode book) e) es) (front_consistent w (after w (opening mode book) e) es fs first two.1)

-- at each moment of a run on a lawful book the book is lawful
pub run_lawful : (w : World) (mode : Mode) (book : Book) (items : List LifeEvent) → IsUsable w → are_distinct (all_ids book) ≡ true → is_lawful book ≡ true → AreAllowed w (opening mode book) (Begin ∷ items) →
    (es fs : List Entry) → run_of w mode book items ≡ es ++ fs → is_lawful (after_all w (opening mode book) es).book ≡ true
unfolding after_all
run_lawful w mode book items usable distinct lawful h [] fs same = lawful
run_lawful w mode book items usable distinct lawful h (e ∷ es) fs same =
    let two = begins_with w mode book items e es fs h same in
    let orderly = (and_parts (is_orderly book) (list_all (λ d. is_corrupt d.place) book.damaged) lawful).0 in
    let first : IsConsistent w (after w (opening mode book) e) = subst (λ x. IsConsistent w (after w (opening mode book) x)) two.0 (life_consistent w (opening mode book) mode usable distinct orderly) in
    let good : is_lawful (after w (opening mode book) e).book ≡ true = subst (λ x. is_lawful (after w (opening mode book) x).book ≡ true) two.0 (life_lawful w (opening mode book) mode usable distinct lawful) in
    front_lawful w (after w (opening mode book) e) es fs first good two.1
