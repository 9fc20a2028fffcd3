-- The items that a life takes are allowed.
use Rattle.std.proofs.Common.{◌≡◌, ◌+◌, ◌^◌, ◌++◌, ℕ, Bool, true, false, List, [], ◌∷◌, Option, Some, None, if◌then◌else◌, max, not, refl, sym, ap, subst, ◌∙◌, arith}
use Rattle.std.specs.Prelude.{nat_lt, ◌-◌}
use Rattle.std.proofs.lemmas.Bool.{and_from, eq-eqb, le-leb, lt-ltb, ltb-true, or_right}
use Rattle.q_engine.specs.Refusals.{refused_event}
use Rattle.q_engine.specs.declared.error.EngineError.{EngineError}
use Rattle.q_engine.specs.declared.error.EngineError.TheVariants as engine_errors
use Rattle.q_engine.proofs.Accepted.{reply_accepted}
use Rattle.q_engine.proofs.EventForms.{form}
use Rattle.q_engine.proofs.HeardEvents.{allowed_by}
use Rattle.q_events.specs.Forms.{IsInForm, IsItemInForm}
use Rattle.q_events.specs.declared.list_item.ListItem.{ListItem}
use Rattle.q_events.specs.declared.list_item.ListItem.TheVariants.{End, Restart, Step}
use Rattle.q_laws.specs.Traces.{AreAllowed}
use Rattle.q_model.proofs.IdLaws.{id_eq-refl}
use Rattle.q_model.proofs.RunLaws.{after_all-append}
use Rattle.q_model.specs.Arrivals.{next_id}
use Rattle.q_model.specs.Book.{Book}
use Rattle.q_model.specs.Ledger.{Ledger, opening}
use Rattle.q_model.specs.Lives.{may_life, mode_eq}
use Rattle.q_model.specs.Past.{has_entries, is_end, is_living}
use Rattle.q_model.specs.Run.{decisions, entry_of, event_entry, goes_on, run, turn}
use Rattle.q_model.specs.Settings.{World}
use Rattle.q_model.specs.Step.{after, after_all, allowed, may}
use Rattle.q_model.specs.declared.entry.Entry.TheVariants as entries
use Rattle.q_model.specs.declared.event.Event.{Event}
use Rattle.q_model.specs.declared.event.Event.TheVariants as events
use Rattle.q_model.specs.declared.event.LifeEvent.{LifeEvent}
use Rattle.q_model.specs.declared.event.LifeEvent.TheVariants.{Begin, Heard}
use Rattle.q_model.specs.declared.event.Mode.{Mode}
use Rattle.q_model.specs.declared.event.Mode.TheVariants.{Deliver, Intake}
use Rattle.q_laws.proofs.Deciding.{AreDecisions, decisions_are, IsDecision}
use Rattle.q_events.specs.Readings.{is_list_end}
use Rattle.q_laws.proofs.Living.{entry_living}
use Rattle.q_model.specs.declared.entry.Entry.{Entry}
use Rattle.q_replay.proofs.LivesLeft.{BeginsLife}
use Rattle.q_replay.proofs.Readings.{comes_to_end, on, refused_item, taken_item}
use Rattle.q_replay.proofs.Readings.{goes_on as goes_behind}
use Rattle.q_replay.specs.AnyLists.{IsListInForm}
use Rattle.q_replay.specs.Listings.{bad, gives, Listing, past_limit}
use Rattle.q_replay.specs.Reading.{ended, event_of, faulty, items_in, limited, read_items, reading_behind, refusal_at, refused_in, TakenItems}

-- ---- lists

-- one item more
pub allowed_more : (w : World) (l : Ledger) (items : List LifeEvent) (item : LifeEvent) → AreAllowed w l items
    → allowed w (after_all w l (run w l items)) (entry_of (after_all w l (run w l items)) item) ≡ true → AreAllowed w l (items ++ item ∷ [])
unfolding run after_all
allowed_more w l [] item all h = (h, tt)
allowed_more w l (i ∷ items) item all h =
    let behind = after_all w l (turn w l i) in
    let same : after_all w l (run w l (i ∷ items)) ≡ after_all w behind (run w behind items) = after_all-append w l (turn w l i) (run w behind items) in
    (all.0, allowed_more w behind items item all.1 (subst (λ (k : Ledger). allowed w k (entry_of k item) ≡ true) same h))

-- the first of them
pub allowed_front : (w : World) (l : Ledger) (items more : List LifeEvent) → AreAllowed w l (items ++ more) → AreAllowed w l items
allowed_front w l [] more all = tt
allowed_front w l (i ∷ items) more all = (all.0, allowed_front w (after_all w l (turn w l i)) items more all.1)

-- ---- events

timed_by : (timed : Bool) (error : EngineError) (o : Option EngineError) → (if not timed then Some error else o) ≡ None → timed ≡ true
timed_by true error o h = refl
timed_by false error o h = absurd cc

may_event : (w : World) (l : Ledger) (event : Event) → IsInForm event → refused_event l event ≡ None → may w l (event_entry l event) ≡ true
may_event w l (events.At t) f h = le-leb l.now (max l.now t) (omega arith)
may_event w l (events.Mail sender to content) f h = and_from l.timed _ (timed_by l.timed _ _ h) (id_eq-refl (next_id l))
may_event w l (events.Reply number site outcomes) f h = reply_accepted l number site outcomes h (form (events.Reply number site outcomes) f)
may_event w l (events.Trigger kind) f h = timed_by l.timed _ _ h

-- ---- lives

unspent_by : (below : Bool) (error : EngineError) → (if not below then Some error else None) ≡ None → below ≡ true
unspent_by true error h = refl
unspent_by false error h = absurd cc

same_mode : (mode : Mode) → mode_eq mode mode ≡ true
same_mode Deliver = refl
same_mode Intake = refl

may_begin_life : (l : Ledger) → refusal_at l Restart ≡ None → may_life l (l.book.generation + 1) l.mode ≡ true
may_begin_life l h =
    let below = ltb-true l.book.generation (2 ^ 32 - 1) (unspent_by (nat_lt l.book.generation (2 ^ 32 - 1)) (engine_errors.Limit _) h) in
    and_from _ _ (and_from _ _ (eq-eqb (l.book.generation + 1) (l.book.generation + 1) refl) (lt-ltb (l.book.generation + 1) (2 ^ 32) (omega (arith, below)))) (or_right (not (has_entries l)) (mode_eq l.mode l.mode) (same_mode l.mode))

-- ---- items

-- an item that isn't refused is allowed in a life that goes on
pub item_allowed : (w : World) (l : Ledger) (item : ListItem) → is_living l ≡ true → IsItemInForm item → refusal_at l item ≡ None → allowed w l (entry_of l (event_of item)) ≡ true
item_allowed w l (Step event line) living f h = allowed_by w l (event_entry l event) living (may_event w l event f h)
item_allowed w l Restart living f h = allowed_by w l (entry_of l Begin) living (may_begin_life l h)
item_allowed w l End living f h = allowed_by w l entries.End living refl

-- the first life of a call
pub first_allowed : (w : World) (mode : Mode) (b : Book) → refusal_at (opening mode b) Restart ≡ None → AreAllowed w (opening mode b) (Begin ∷ [])
unfolding allowed
first_allowed w mode b h = (may_begin_life (opening mode b) h, tt)

-- ---- a life goes on

decision_goes_on : (l : Ledger) (e : Entry) → IsDecision l e → is_end e ≡ false
decision_goes_on l (entries.Life generation mode) h = refl
decision_goes_on l (entries.At t) h = refl
decision_goes_on l (entries.Arrive id sender to content) h = refl
decision_goes_on l (entries.Back id) h = refl
decision_goes_on l (entries.Admit id) h = refl
decision_goes_on l (entries.Load id from to) h = refl
decision_goes_on l (entries.Start number id site positions) h = refl
decision_goes_on l (entries.Preempt child parent transport need) h = refl
decision_goes_on l (entries.Reply number state outcomes) h = refl
decision_goes_on l (entries.Skip id site positions) h = refl
decision_goes_on l (entries.Log id failure) h = refl
decision_goes_on l (entries.Mark id position) h = refl
decision_goes_on l (entries.Sync id) h = refl
decision_goes_on l (entries.Defer id due) h = refl
decision_goes_on l (entries.Bounce id) h = refl
decision_goes_on l (entries.Remove id) h = refl
decision_goes_on l (entries.Corrupt id) h = refl
decision_goes_on l (entries.Trigger kind) h = refl
decision_goes_on l entries.End h = let bad : true ≡ false = h in absurd cc

all_go_on : (w : World) (l : Ledger) (es : List Entry) → AreDecisions w l es → is_living l ≡ true → is_living (after_all w l es) ≡ true
unfolding after_all
all_go_on w l [] are living = living
all_go_on w l (e ∷ es) are living = all_go_on w (after w l e) es are.2 (entry_living w l e (decision_goes_on l e are.1))

-- behind an event's own entry and its decisions
turn_by : (w : World) (l : Ledger) (item : LifeEvent) → goes_on item ≡ true → is_end (entry_of l item) ≡ false → is_living (after_all w l (turn w l item)) ≡ true
unfolding turn after_all
turn_by w l item going own =
    let behind = after w l (entry_of l item) in
    let es : (if goes_on item then decisions w behind else []) ≡ decisions w behind = ap (λ b. if b then decisions w behind else []) going in
    ap (λ xs. is_living (after_all w behind xs)) es ∙ all_go_on w behind (decisions w behind) (decisions_are w behind) (entry_living w l (entry_of l item) own)

event_goes_on : (l : Ledger) (event : Event) → is_end (event_entry l event) ≡ false
event_goes_on l (events.At t) = refl
event_goes_on l (events.Mail sender to content) = refl
event_goes_on l (events.Reply number state outcomes) = refl
event_goes_on l (events.Trigger kind) = refl

turn_living : (w : World) (l : Ledger) (item : ListItem) → is_list_end item ≡ false → is_living (after_all w l (turn w l (event_of item))) ≡ true
turn_living w l (Step event line) h = turn_by w l (Heard event) refl (event_goes_on l event)
turn_living w l Restart h = turn_by w l Begin refl refl
turn_living w l End h = absurd cc

-- ---- the items of a list

module _ (w : World) (l : Ledger) (item : ListItem) (n : ℕ) (more : Listing) where
  abbrev Rest : Type 0
  Rest = is_list_end item ≡ false → AreAllowed w (after_all w l (turn w l (event_of item))) (items_in (read_items w (after_all w l (turn w l (event_of item))) more))

  none_refused : (why : EngineError) → AreAllowed w l (items_in (refused_in n why))
  none_refused (engine_errors.Limit bound) = tt
  none_refused engine_errors.Disk = tt
  none_refused engine_errors.Tell = tt
  none_refused engine_errors.NoMemory = tt
  none_refused (engine_errors.Unknown number) = tt
  none_refused (engine_errors.WrongCount number want got) = tt
  none_refused engine_errors.Untimed = tt
  none_refused (engine_errors.Damaged area name) = tt
  none_refused (engine_errors.Unreadable area name) = tt

  items_behind : (x : TakenItems) → items_in (reading_behind (event_of item ∷ []) x) ≡ event_of item ∷ items_in x
  items_behind (ended more) = refl
  items_behind (faulty more n) = refl
  items_behind (limited more bound) = refl

  accepted_by : (last : Bool) → is_list_end item ≡ last → allowed w l (entry_of l (event_of item)) ≡ true → Rest → AreAllowed w l (items_in (on w l item n more))
  accepted_by true is may rest = subst (λ t. AreAllowed w l (items_in t)) (sym (comes_to_end w l item n more is)) (may, tt)
  accepted_by false is may rest =
      subst (λ t. AreAllowed w l (items_in t)) (sym (goes_behind w l item n more is))
      (subst (AreAllowed w l) (sym (items_behind (read_items w (after_all w l (turn w l (event_of item))) more))) (may, rest is))

  item_by : (o : Option EngineError) → refusal_at l item ≡ o → (refusal_at l item ≡ None → allowed w l (entry_of l (event_of item)) ≡ true) → Rest → AreAllowed w l (items_in (read_items w l (gives item n more)))
  item_by (Some why) is may rest = subst (λ t. AreAllowed w l (items_in t)) (sym (refused_item w l item n more why is)) (none_refused why)
  item_by None is may rest = subst (λ t. AreAllowed w l (items_in t)) (sym (taken_item w l item n more is)) (accepted_by (is_list_end item) refl (may is) rest)

pub read_allowed : (w : World) (l : Ledger) (said : Listing) → is_living l ≡ true → IsListInForm said → AreAllowed w l (items_in (read_items w l said))
unfolding read_items
read_allowed w l (bad n) living form = tt
read_allowed w l past_limit living form = tt
read_allowed w l (gives item n more) living form =
    item_by w l item n more (refusal_at l item) refl (item_allowed w l item living form.0) (λ going. read_allowed w (after_all w l (turn w l (event_of item))) more (turn_living w l item going) form.1)

-- the items of a list on a spool, with which a life begins
pub list_allowed : (w : World) (mode : Mode) (b : Book) (said : Listing) → IsListInForm said → AreAllowed w (opening mode b) (items_in (read_items w (opening mode b) (gives Restart 0 said)))
list_allowed w mode b said form =
    let l = opening mode b in
    item_by w l Restart 0 said (refusal_at l Restart) refl (λ is. (first_allowed w mode b is).0) (λ going. read_allowed w (after_all w l (turn w l Begin)) said (turn_living w l Restart going) form)

-- they begin with it, if there are any
pub list_begins : (w : World) (mode : Mode) (b : Book) (said : Listing) → BeginsLife (items_in (read_items w (opening mode b) (gives Restart 0 said)))
list_begins w mode b said = by (refusal_at l Restart) refl
  where
    l : Ledger
    l = opening mode b

    none_begins : (why : EngineError) → BeginsLife (items_in (refused_in 0 why))
    none_begins (engine_errors.Limit bound) = tt
    none_begins engine_errors.Disk = tt
    none_begins engine_errors.Tell = tt
    none_begins engine_errors.NoMemory = tt
    none_begins (engine_errors.Unknown number) = tt
    none_begins (engine_errors.WrongCount number want got) = tt
    none_begins engine_errors.Untimed = tt
    none_begins (engine_errors.Damaged area name) = tt
    none_begins (engine_errors.Unreadable area name) = tt

    by : (o : Option EngineError) → refusal_at l Restart ≡ o → BeginsLife (items_in (read_items w l (gives Restart 0 said)))
    by (Some why) is = subst (λ t. BeginsLife (items_in t)) (sym (refused_item w l Restart 0 said why is)) (none_begins why)
    by None is =
        let rest = read_items w (after_all w l (turn w l Begin)) said in
        subst (λ t. BeginsLife (items_in t)) (sym (taken_item w l Restart 0 said is ∙ goes_behind w l Restart 0 said refl)) (subst BeginsLife (sym (items_behind w l Restart 0 said rest)) refl)
