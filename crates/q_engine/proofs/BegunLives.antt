-- The first entry of a life, told on a spool that was opened; and the refusals of a life's ends.
use Rattle.std.proofs.Common.{None, ◌≡◌, ◌+◌, ◌-◌, ◌^◌, ℕ, Bool, true, false, List, [], ◌∷◌, length, min, refl, sym, ap, subst, ◌∙◌, arith}
use Rattle.std.specs.Prelude.{count_by, Err, IfErr, IfOk, IsErrOf, Ok, Result, if◌then◌else◌}
use Rattle.std.proofs.lemmas.List.Sums.{sum_by-cons}
use Rattle.q_model.specs.declared.entry.Entry.{Entry}
use Rattle.q_model.specs.declared.entry.Entry.TheVariants as entries
use Rattle.q_model.specs.declared.event.Mode.{Mode}
use Rattle.q_model.specs.declared.id.Id.{Id}
use Rattle.q_model.specs.Book.{Book}
use Rattle.q_model.specs.Ledger.{opening}
use Rattle.q_model.specs.Past.{is_arrive}
use Rattle.q_model.specs.Settings.{Settings, Table, World}
use Rattle.q_host.specs.View.{View}
use Rattle.q_host.specs.declared.error.HostError.{HostError}
use Rattle.q_host.specs.declared.error.HostError.TheVariants as faults
use Rattle.q_laws.specs.Laws.{opened_ledger}
use Rattle.q_lives.proofs.Books.{after_is}
use Rattle.q_books.specs.HostStands.{HostStands, OwnLogs}
use Rattle.q_core.specs.Agrees.{AgreesIfOrderly, ForFirst}
use Rattle.q_entries.specs.Entries.{DoesEntry, StopsEntry}
use Rattle.q_entries.proofs.Lines.{changed_does, changed_stops}
use Rattle.q_restart.specs.Judgements.{IsRefusalOfSome}
use Rattle.q_restart.specs.Openings.{begun, IsRefusal, KeepsOwnNotes, Opens}
use Rattle.q_restart.specs.declared.error.OpenError.{OpenError}
use Rattle.q_restart.specs.declared.error.OpenError.TheVariants as open_errors
use Rattle.q_restart.specs.declared.opening.Spool.{Spool}
use Rattle.q_model.specs.declared.limits.Bound.{Bound}
use Rattle.q_model.specs.declared.spot.Area.{Area}
use Rattle.q_engine.specs.declared.error.EngineError.TheVariants as errors
use Rattle.q_transport.specs.Contents.{Contents}
use Rattle.q_transport.specs.Routing.{table_of}
use Rattle.q_engine.specs.Beginnings.{BeganLife, is_of_spool, IsRefusalOfSomeSpool, opening_refusal}
use Rattle.q_engine.specs.Refusals.{refusal_of}
use Rattle.q_model.specs.declared.id.Id.{Id}
use Rattle.q_places.specs.Kept.{kept_file}
use Rattle.q_engine.proofs.KeptPlaces.{placed_none}
use Rattle.q_engine.specs.Stands.{HasCounts, is_preempt}
use Rattle.q_engine.specs.declared.engine.Engine.{Engine}
use Rattle.q_engine.specs.declared.error.EngineError.{EngineError}

same_refusal : (a b : HostError) → refusal_of a ≡ refusal_of b → a ≡ b
same_refusal faults.Disk faults.Disk h = refl
same_refusal faults.Disk faults.Tell h = absurd cc
same_refusal faults.Disk faults.NoMemory h = absurd cc
same_refusal faults.Tell faults.Disk h = absurd cc
same_refusal faults.Tell faults.Tell h = refl
same_refusal faults.Tell faults.NoMemory h = absurd cc
same_refusal faults.NoMemory faults.Disk h = absurd cc
same_refusal faults.NoMemory faults.Tell h = absurd cc
same_refusal faults.NoMemory faults.NoMemory h = refl

-- the host's fault behind a refusal
pub fault_of : {T : Type 0} {S : Type 0} (inner error : HostError) (made : EngineError) (r : Result T HostError) → r ≡ Err inner → made ≡ refusal_of inner → IsErrOf {T = S} (Err made) (refusal_of error) → IsErrOf r error
fault_of inner error made r is how of =
    let two : made ≡ refusal_of error = cc in
    let same : inner ≡ error = same_refusal inner error (sym how ∙ two) in
    is ∙ ap (λ (x : HostError). Err x) same

first_book : (w : World) (mode : Mode) (b : Book) → (opened_ledger w mode b).book ≡ begun b
first_book w mode b = (after_is w (opening mode b) (entries.Life (b.generation + 1) mode)).book

first_past : (w : World) (mode : Mode) (b : Book) → (opened_ledger w mode b).past ≡ entries.Life (b.generation + 1) mode ∷ []
first_past w mode b = (after_is w (opening mode b) (entries.Life (b.generation + 1) mode)).past

counted_none : (test : Entry → Bool) (e : Entry) → test e ≡ false → count_by test (e ∷ []) ≡ 0
counted_none test e h = sum_by-cons (λ x. if test x then 1 else 0) e [] ∙ ap (λ (t : Bool). (if t then 1 else 0) + count_by test []) h

first_counts : (w : World) (mode : Mode) (b : Book) (engine : Engine) → engine.generation ≡ b.generation + 1 → engine.arrivals ≡ 0 → engine.preempts ≡ 0 → HasCounts engine (opened_ledger w mode b)
first_counts w mode b engine generation arrived preempted =
    let e = entries.Life (b.generation + 1) mode in
    record {
      begun = omega (arith, generation);
      generation = generation ∙ sym (ap (λ (k : Book). k.generation) (first_book w mode b));
      arrivals = arrived ∙ sym (ap (count_by is_arrive) (first_past w mode b) ∙ counted_none is_arrive e refl);
      preempts = preempted ∙ sym (ap (λ (n : ℕ). min n (2 ^ 64 - 1)) (ap (count_by is_preempt) (first_past w mode b) ∙ counted_none is_preempt e refl));
    }

-- the engine has this table and this generation, and has counted and kept nothing
pub record IsNewEngine (table : Contents) (generation : ℕ) (engine : Engine) : Type 0 where
  pub same_table : engine.table ≡ table
  pub same_generation : engine.generation ≡ generation
  pub arrivals : engine.arrivals ≡ 0
  pub preempts : engine.preempts ≡ 0
  pub empty : (id : Id) → kept_file engine.places id ≡ None

module _ (params : Settings) (table : Contents) (mode : Mode) (b : Book) (generation : ℕ) (v u x : View) (opens : Opens b generation v u) where
  told_first : DoesEntry (table_of table) (entries.Life generation mode) (begun b) (begun b) u x → DoesEntry (table_of table) (entries.Life (b.generation + 1) mode) (begun b) (begun b) u x
  told_first does = subst (λ (g : ℕ). DoesEntry (table_of table) (entries.Life g mode) (begun b) (begun b) u x) opens.is_next does

  pub began : (engine : Engine) → IsNewEngine table generation engine → ForFirst params (length (table_of table).transports) mode (λ w book l. AgreesIfOrderly w engine.core.value book l)
      → DoesEntry (table_of table) (entries.Life generation mode) (begun b) (begun b) u x → x.files ≡ u.files → BeganLife params table mode b engine v x
  began engine new core does same =
      let done = changed_does (table_of table) (entries.Life (b.generation + 1) mode) b (begun b) v u x opens.takes (told_first does) in
      record {
        does = done;
        stands = λ distinct orderly w settings here. record {
          table = here ∙ sym (ap table_of new.same_table);
          core = core w b settings (ap (λ (t : Table). length t.transports) (sym here)) distinct orderly;
          counts = first_counts w mode b engine (new.same_generation ∙ opens.is_next) new.arrivals new.preempts;
          host = subst (HostStands x) (sym (first_book w mode b)) done.stands;
          logs = subst (OwnLogs x.files) (sym (first_book w mode b)) (does.logs opens.logs);
          places = placed_none engine.places (opened_ledger w mode b).book new.empty;
        };
        logs = subst (KeepsOwnNotes b v.files) (sym same) opens.notes;
      }

  pub not_begun : (error : HostError) → StopsEntry (table_of table) (entries.Life generation mode) (begun b) (begun b) error u x → StopsEntry (table_of table) (entries.Life (b.generation + 1) mode) b (begun b) error v x
  not_begun error stops =
      changed_stops (table_of table) (entries.Life (b.generation + 1) mode) b (begun b) v u x opens.takes error
      (subst (λ (g : ℕ). StopsEntry (table_of table) (entries.Life g mode) (begun b) (begun b) error u x) opens.is_next stops)

-- what is true of an answer by four facts of it
pub by_four : {T : Type 0} {E : Type 0} {P Q R S U : T → Type 0} (r : Result T E) → ((x : T) → P x → Q x → R x → S x → U x) → IfOk r P → IfOk r Q → IfOk r R → IfOk r S → IfOk r U
by_four (Ok x) f p q r s = f x p q r s
by_four (Err e) f p q r s = tt

pub new_engine : (table : Contents) (generation : ℕ) (engine : Engine) → engine ≡ record { core = engine.core; table = table; generation = generation; arrivals = 0; preempts = 0; places = engine.places } → ((id : Id) → kept_file engine.places id ≡ None) → IsNewEngine table generation engine
new_engine table generation engine h empty = record {
  same_table = ap (λ (e : Engine). e.table) h;
  same_generation = ap (λ (e : Engine). e.generation) h;
  arrivals = ap (λ (e : Engine). e.arrivals) h;
  preempts = ap (λ (e : Engine). e.preempts) h;
  empty = empty;
}

damaged_is : (e : OpenError) (area : Area) (name : List ℕ) → opening_refusal e ≡ errors.Damaged area name → e ≡ open_errors.Damaged area name
damaged_is open_errors.Disk area name h = absurd cc
damaged_is open_errors.NoMemory area name h = absurd cc
damaged_is (open_errors.Damaged a n) area name h = cc
damaged_is open_errors.Spent area name h = absurd cc

spent_is : (e : OpenError) (bound : Bound) → opening_refusal e ≡ errors.Limit bound → e ≡ open_errors.Spent
spent_is open_errors.Disk bound h = absurd cc
spent_is open_errors.NoMemory bound h = absurd cc
spent_is (open_errors.Damaged a n) bound h = absurd cc
spent_is open_errors.Spent bound h = refl

refuses : (e : OpenError) → is_of_spool (opening_refusal e) ≡ true → IsRefusal (Err e)
refuses open_errors.Disk h = absurd cc
refuses open_errors.NoMemory h = absurd cc
refuses (open_errors.Damaged a n) h = tt
refuses open_errors.Spent h = tt

-- the refusal to open the spool behind that of an engine
pub found_damaged : {T : Type 0} (e : OpenError) (made : EngineError) (area : Area) (name : List ℕ) (r : Result Spool OpenError) → r ≡ Err e → made ≡ opening_refusal e → IsErrOf {T = T} (Err made) (errors.Damaged area name) → r ≡ Err (open_errors.Damaged area name)
found_damaged e made area name r is how of =
    let two : made ≡ errors.Damaged area name = cc in
    is ∙ ap (λ (x : OpenError). Err x) (damaged_is e area name (sym how ∙ two))

pub found_spent : {T : Type 0} (e : OpenError) (made : EngineError) (bound : Bound) (r : Result Spool OpenError) → r ≡ Err e → made ≡ opening_refusal e → IsErrOf {T = T} (Err made) (errors.Limit bound) → r ≡ Err open_errors.Spent
found_spent e made bound r is how of =
    let two : made ≡ errors.Limit bound = cc in
    is ∙ ap (λ (x : OpenError). Err x) (spent_is e bound (sym how ∙ two))

-- a refusal of the spool that some names and files have
pub refused_by_some : (e : OpenError) → IsRefusalOfSome e → IsRefusalOfSomeSpool (opening_refusal e)
refused_by_some open_errors.Disk h = tt
refused_by_some open_errors.NoMemory h = tt
refused_by_some (open_errors.Damaged area name) h = h
refused_by_some open_errors.Spent h = (refl, h)

-- what isn't of the spool is one of any
pub not_of_spool : (error : EngineError) → is_of_spool error ≡ false → IsRefusalOfSomeSpool error
not_of_spool (errors.Damaged area name) h = absurd cc
not_of_spool (errors.Limit bound) h = absurd cc
not_of_spool errors.Disk h = tt
not_of_spool errors.Tell h = tt
not_of_spool errors.NoMemory h = tt
not_of_spool (errors.Unknown n) h = tt
not_of_spool (errors.WrongCount n want got) h = tt
not_of_spool errors.Untimed h = tt
not_of_spool (errors.Unreadable area name) h = tt

pub each_not_of_spool : {T : Type 0} (r : Result T EngineError) → ((error : EngineError) → IsErrOf r error → is_of_spool error ≡ false) → IfErr r IsRefusalOfSomeSpool
each_not_of_spool (Ok x) h = tt
each_not_of_spool (Err error) h = not_of_spool error (h error refl)

pub found_refused : {T : Type 0} (e : OpenError) (made error : EngineError) (r : Result Spool OpenError) → r ≡ Err e → made ≡ opening_refusal e → IsErrOf {T = T} (Err made) error → is_of_spool error ≡ true → IsRefusal r
found_refused e made error r is how of h =
    let two : made ≡ error = cc in
    subst IsRefusal (sym is) (refuses e (ap is_of_spool (sym how ∙ two) ∙ h))
