-- A submission, item after item.
use Rattle.std.proofs.Common.{◌≡◌, ◌≤◌, ap, inl, inr, arith, ℕ, false, true, List, [], ◌∷◌, ◌++◌, Some, None, sym, subst}
use Rattle.std.specs.Prelude.{Err, IfErr, IfOk, IsErrOf, Ok, Result}
use Rattle.q_books.specs.HostStands.{HostStands, TellsCrashes}
use Rattle.q_engine.specs.Refusals.{EngineCause}
use Rattle.q_engine.specs.Stands.{EngineStands}
use Rattle.q_engine.specs.declared.error.EngineError.{EngineError}
use Rattle.q_engine.specs.declared.error.EngineError.TheVariants as engine_errors
use Rattle.q_engine.specs.declared.engine.Engine.{Engine}
use Rattle.q_events.specs.Readings.{is_list_end}
use Rattle.q_events.specs.declared.list_item.ListItem.{ListItem}
use Rattle.q_host.specs.Faults.{Faults}
use Rattle.q_host.specs.View.{View}
use Rattle.q_model.specs.Book.{Book}
use Rattle.q_model.specs.FaultCounts.{Rose}
use Rattle.q_model.specs.Ledger.{Ledger, opening}
use Rattle.q_model.specs.Settings.{World}
use Rattle.q_model.specs.declared.event.LifeEvent.{LifeEvent}
use Rattle.q_model.specs.declared.event.Mode.{Mode}
use Rattle.q_replay.specs.Listings.{gives, Listing}
use Rattle.q_replay.specs.Reading.{event_of, read_items, TakenItems}
use Rattle.q_replay.specs.RunEnds.{IsTold, RunEnds}
use Rattle.q_replay.specs.Takings.{GivesUpItem, NotTaken, replay_error, ReplayCause, TakesItem, TookItem}
use Rattle.q_replay.specs.declared.error.ReplayError.{ReplayError}
use Rattle.q_replay.specs.declared.error.ReplayError.TheVariants.{Disk, Tell}
use Rattle.q_replay.proofs.Readings.{ledger_more, ledger_none, ledger_on}
use Rattle.q_replay.proofs.RunSteps.{at_first, IsAt, last_ends, none_told, taken_next, told_more, untaken_ends}

-- these items were taken, and this one stands next
pub record HasGone (w : World) (mode : Mode) (b : Book) (taken : TakenItems) (item : ListItem) (n : ℕ) (more : Listing) (engine : Engine) (u v : View) : Type 0 where
  pub items : List LifeEvent
  pub told : IsTold w mode b items u v
  pub stands : EngineStands w engine v (ledger_on w mode b items)
  pub next : IsAt w mode b taken items item n more

-- an item more
pub gone_on : (w : World) (mode : Mode) (b : Book) (taken : TakenItems) (items : List LifeEvent) (item next_item : ListItem) (n k : ℕ) (more : Listing) (engine : Engine) (u v x : View)
    → IsTold w mode b items u v → IsAt w mode b taken items item n (gives next_item k more) → is_list_end item ≡ false → TookItem w (ledger_on w mode b items) item (Some engine) v x → HasGone w mode b taken next_item k more engine u x
gone_on w mode b taken items item next_item n k more engine u v x told at going took = record {
  items = items ++ event_of item ∷ [];
  told = told_more w mode b items (event_of item) u v x told took.plays took.notes;
  stands = subst (EngineStands w engine x) (sym (ledger_more w mode b items (event_of item))) took.stands;
  next = record { is = taken_next w mode b taken items item n (gives next_item k more) at going took.accepted };
}

pub gone_first : (w : World) (mode : Mode) (b : Book) (first next_item : ListItem) (n k : ℕ) (more : Listing) (engine : Engine) (u x : View) → TellsCrashes u → HostStands u b → is_list_end first ≡ false → TookItem w (opening mode b) first (Some engine) u x
    → HasGone w mode b (read_items w (opening mode b) (gives first n (gives next_item k more))) next_item k more engine u x
gone_first w mode b first next_item n k more engine u x lawful h going took =
    gone_on w mode b (read_items w (opening mode b) (gives first n (gives next_item k more))) [] first next_item n k more engine u u x (none_told w mode b u lawful h) (at_first w mode b first n (gives next_item k more)) going
    (subst (λ (l : Ledger). TookItem w l first (Some engine) u x) (sym (ledger_none w mode b)) took)

-- the first item wasn't taken
pub never_gone : (w : World) (mode : Mode) (b : Book) (first : ListItem) (n : ℕ) (more : Listing) (u x : View) (error : ReplayError) → TellsCrashes u → HostStands u b → NotTaken w (opening mode b) first n error u x
    → RunEnds w mode b (read_items w (opening mode b) (gives first n more)) u x (Err error)
never_gone w mode b first n more u x error lawful h r =
    untaken_ends w mode b (read_items w (opening mode b) (gives first n more)) [] first n more (at_first w mode b first n more) u u (none_told w mode b u lawful h) x error
    (subst (λ (l : Ledger). NotTaken w l first n error u x) (sym (ledger_none w mode b)) r)

module _ (w : World) (mode : Mode) (b : Book) (taken : TakenItems) (item : ListItem) (n : ℕ) (more : Listing) (engine : Engine) (u v : View) (gone : HasGone w mode b taken item n more engine u v) where
  pub gone_up : (x : View) (error : ReplayError) → GivesUpItem engine item n error v x → RunEnds w mode b taken u x (Err error)
  gone_up x error up = untaken_ends w mode b taken gone.items item n more gone.next u v gone.told x error (up w (ledger_on w mode b gone.items) gone.stands)

  pub gone_last : (x : View) (done : Unit {0}) → is_list_end item ≡ true → TakesItem engine item None v x → RunEnds w mode b taken u x (Ok done)
  gone_last x done last takes = last_ends w mode b taken gone.items item n more gone.next u v gone.told x done last (takes w (ledger_on w mode b gone.items) gone.stands)

pub gone_further : (w : World) (mode : Mode) (b : Book) (taken : TakenItems) (item next_item : ListItem) (n k : ℕ) (more : Listing) (engine next : Engine) (u v x : View) → HasGone w mode b taken item n (gives next_item k more) engine u v → is_list_end item ≡ false
    → TakesItem engine item (Some next) v x → HasGone w mode b taken next_item k more next u x
gone_further w mode b taken item next_item n k more engine next u v x gone going takes =
    gone_on w mode b taken gone.items item next_item n k more next u v x gone.told gone.next going (takes w (ledger_on w mode b gone.items) gone.stands)

-- what holds of an answer, whichever it is
pub ends_so : {P : Unit {0} → Type 0} {Q : ReplayError → Type 0} (r : Result (Unit {0}) ReplayError) (R : Result (Unit {0}) ReplayError → Type 0) → ((done : Unit {0}) → P done → R (Ok done)) → ((error : ReplayError) → Q error → R (Err error)) → IfOk r P → IfErr r Q → R r
ends_so (Ok done) R ok err p q = ok done p
ends_so (Err error) R ok err p q = err error q

-- a count that rose later rose
pub rose_later : (a b c : ℕ) → a ≤ b → Rose b c → Rose a c
rose_later a b c le (inl less) = inl (omega (arith, le, less))
rose_later a b c le (inr full) = inr full

refused_as : {T S : Type 0} (inner e : ReplayError) → IsErrOf {T = T} (Err inner) e → IsErrOf {T = S} (Err inner) e
refused_as inner e of = let same : inner ≡ e = cc in ap (λ (y : ReplayError). Err y) same

-- a refusal has the cause that it had, where no count fell before
pub cause_on : {T S : Type 0} (a b c : Faults) (inner : ReplayError) → a.disk ≤ b.disk → a.tell ≤ b.tell → ReplayCause {T = S} b c (Err inner) → ReplayCause {T = T} a c (Err inner)
cause_on a b c inner disk tell h = record {
  disk_later = omega (arith, disk, h.disk_later);
  tell_later = omega (arith, tell, h.tell_later);
  disk = λ is. rose_later a.disk b.disk c.disk disk (h.disk (refused_as inner Disk is));
  tell = λ is. rose_later a.tell b.tell c.tell tell (h.tell (refused_as inner Tell is));
}

-- where nothing failed, no count has to rise
pub ok_lists : {T : Type 0} (before after : Faults) (made : T) → before.disk ≤ after.disk → before.tell ≤ after.tell → ReplayCause {T = T} before after (Ok made)
ok_lists before after made disk tell = record { disk_later = disk; tell_later = tell; disk = λ is. absurd cc; tell = λ is. absurd cc }

pub own_error : {T : Type 0} (made error : ReplayError) → IsErrOf {T = T} (Err made) error → made ≡ error
own_error made error is = cc

-- a refusal of the engine has the cause that it had
pub engine_passed : {T S : Type 0} (before after : Faults) (line : ℕ) (why : EngineError) (made : ReplayError) (r : Result T EngineError) → r ≡ Err why → made ≡ replay_error line why → EngineCause before after r → ReplayCause {T = S} before after (Err made)
engine_passed before after line engine_errors.Disk made r how is h = record { disk_later = h.disk_later; tell_later = h.tell_later; disk = λ of. h.disk how; tell = λ of. absurd cc }
engine_passed before after line engine_errors.Tell made r how is h = record { disk_later = h.disk_later; tell_later = h.tell_later; disk = λ of. absurd cc; tell = λ of. h.tell how }
engine_passed before after line engine_errors.NoMemory made r how is h = record { disk_later = h.disk_later; tell_later = h.tell_later; disk = λ of. absurd cc; tell = λ of. absurd cc }
engine_passed before after line (engine_errors.Unknown n) made r how is h = record { disk_later = h.disk_later; tell_later = h.tell_later; disk = λ of. absurd cc; tell = λ of. absurd cc }
engine_passed before after line (engine_errors.WrongCount n want got) made r how is h = record { disk_later = h.disk_later; tell_later = h.tell_later; disk = λ of. absurd cc; tell = λ of. absurd cc }
engine_passed before after line engine_errors.Untimed made r how is h = record { disk_later = h.disk_later; tell_later = h.tell_later; disk = λ of. absurd cc; tell = λ of. absurd cc }
engine_passed before after line (engine_errors.Limit bound) made r how is h = record { disk_later = h.disk_later; tell_later = h.tell_later; disk = λ of. absurd cc; tell = λ of. absurd cc }
engine_passed before after line (engine_errors.Damaged area name) made r how is h = record { disk_later = h.disk_later; tell_later = h.tell_later; disk = λ of. absurd cc; tell = λ of. absurd cc }
engine_passed before after line (engine_errors.Unreadable area name) made r how is h = record { disk_later = h.disk_later; tell_later = h.tell_later; disk = λ of. absurd cc; tell = λ of. absurd cc }
