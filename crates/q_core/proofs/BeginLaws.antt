-- A new core agrees with the ledger in which a life has begun.
use Rattle.std.proofs.Common.{◌≡◌, ◌≤◌, ℕ, zero, suc, ◌+◌, arith, Bool, true, false, List, [], ◌∷◌, length, map, replicate, refl, sym, ap, ◌∙◌, None}
use Rattle.std.specs.Prelude.{if◌then◌else◌, nat_lt}
use Rattle.std.specs.List.{enumerate_from, list_any}
use Rattle.q_model.specs.Ids.{id_eq}
use Rattle.q_core.proofs.ListLaws.{length-numbered}
use Rattle.q_core.specs.Agrees.{Matches, jobs_of}
use Rattle.q_jobs.specs.declared.job.Job.{Job}
use Rattle.q_core.specs.declared.state.Core.{Core}
use Rattle.q_core.specs.declared.state.Seen.TheVariants.{Unknown}
use Rattle.q_core.specs.declared.state.Question.TheVariants.{Nothing}
use Rattle.q_laws.specs.Consistency.{IsUsable}
use Rattle.q_laws.specs.SitesConsistency.{IsOpen}
use Rattle.q_settings.specs.Ranges.{IsInRange}
use Rattle.q_model.specs.Book.{Book}
use Rattle.q_model.specs.Ledger.{Ledger, opening}
use Rattle.q_model.specs.Past.{is_living}
use Rattle.q_model.specs.Settings.{World}
use Rattle.q_model.specs.Step.{after, change, noted, tidy_line}
use Rattle.q_model.specs.Values.{SiteRecord}
use Rattle.q_model.specs.declared.event.Mode.{Mode}
use Rattle.q_model.specs.declared.id.Id.{Id}
use Rattle.q_model.specs.declared.entry.Entry.TheVariants as entries

-- nothing is held
pub record IsEmptyCore (c : Core) (mode : Mode) (transports : ℕ) : Type 0 where
  pub mode_is : c.mode ≡ mode
  pub clock : c.clock.seconds ≡ 0
  pub admitted : c.admitted ≡ []
  pub waiting : c.waiting ≡ []
  pub flights : c.flights ≡ []
  pub served : c.served ≡ []
  pub unsettled : c.unsettled ≡ []
  pub lines : c.lines ≡ replicate transports []
  pub sites : c.sites ≡ []
  pub synced : c.synced ≡ []

-- so is nothing of the plain fields
abbrev pub blank : Core → Core
blank c = record c { timed = false; next_run = 0; scan = None; asked = None; ignores = false; deferred_follows = false; in_memory = 0; starts = 0; active = Unknown; incoming = Unknown; deferred = Unknown; question = Nothing }

abbrev pub begun : World → Mode → Book → Ledger
begun w mode book = after w (opening mode book) (entries.Life (book.generation + 1) mode)

-- before it is tidied
abbrev raw : World → Mode → Book → Ledger
raw w mode book = noted (entries.Life (book.generation + 1) mode) (change w (opening mode book) (entries.Life (book.generation + 1) mode))

same_length : (t : ℕ) → length (replicate {A = List Id} t []) ≡ t
same_length zero = refl
same_length (suc t) = ap suc (same_length t)

lines_begin : (l k : Ledger) (n t : ℕ) → map (jobs_of l) (enumerate_from n (map (tidy_line k) (enumerate_from n (replicate t [])))) ≡ replicate t []
lines_begin l k n zero = refl
lines_begin l k n (suc t) = ap (λ (js : List (List Job)). [] ∷ js) (lines_begin l k (n + 1) t)

abbrev no_records : List SiteRecord
no_records = []

no_sites : (b : Bool) → [] ≡ (if b then no_records else no_records)
no_sites true = refl
no_sites false = refl

pub begin_law : (w : World) (mode : Mode) (book : Book) (c : Core) (t : ℕ) → c.params ≡ w.settings → c.transports ≡ t → t ≡ length w.table.transports → IsEmptyCore c mode t →
    Matches w (blank c) (begun w mode book)
unfolding after
begin_law w mode book c t settings given count e = record {
  parts = record {
    settings = settings;
    count = given ∙ count ∙ sym (length-numbered (tidy_line (raw w mode book)) 0 (replicate (length w.table.transports) []) ∙ same_length (length w.table.transports));
    transports = length-numbered (tidy_line (raw w mode book)) 0 (replicate (length w.table.transports) []) ∙ same_length (length w.table.transports);
    mode = e.mode_is;
    clock = e.clock;
    timed = refl;
    next_run = refl;
    ignores = refl;
    deferred_follows = refl;
    admitted = e.admitted;
    waiting = e.waiting;
    flights = e.flights;
    memory = refl;
    served = e.served;
    unsettled = e.unsettled;
    lines = e.lines ∙ ap (λ n. replicate n []) count ∙ sym (lines_begin (begun w mode book) (raw w mode book) 0 (length w.table.transports));
    sites = e.sites ∙ no_sites (nat_lt w.settings.recipient_limit 0);
    synced = λ id left. ap (list_any (id_eq id)) e.synced;
    starts = refl;
    active = tt;
    incoming = tt;
  };
  scan = record { goes_on = refl; seen = tt };
}

-- the ranges of parameters let messages be read and marks be synced
pub usable : (w : World) → IsInRange w.settings → IsUsable w
usable w r = record { recipient_minimum = r.recipient_minimum.0; mark_sync_limit = r.mark_sync_limit.0 }

-- and windows be open
pub open_windows : (w : World) → IsInRange w.settings → IsOpen w
open_windows w r = record { initial_concurrency = r.initial_concurrency.0; concurrency_limit = r.concurrency_limit }

pub begin_living : (w : World) (mode : Mode) (book : Book) → is_living (begun w mode book) ≡ true
unfolding after
begin_living w mode book = refl

pub begin_moment : (w : World) (mode : Mode) (book : Book) → (begun w mode book).now ≤ 999990000000
unfolding after
begin_moment w mode book = omega arith
