-- The ledger: the book, and what is known in this life.
use Rattle.std.specs.Prelude.{[], Bool, false, List, None, Option, ℕ}
use Rattle.q_model.specs.declared.entry.Entry.{Entry}
use Rattle.q_model.specs.declared.event.Mode.{Mode}
use Rattle.q_model.specs.declared.id.Id.{Id}
use Rattle.q_model.specs.declared.rows.Admitted.{Admitted}
use Rattle.q_model.specs.declared.rows.Delivery.{Delivery}
use Rattle.q_model.specs.declared.rows.Request.{Request}
use Rattle.q_model.specs.declared.rows.Row.{Row}
use Rattle.q_model.specs.declared.rows.Scan.{Scan}
use Rattle.q_model.specs.declared.rows.Unsettled.{Unsettled}
use Rattle.q_model.specs.Book.{Book}
use Rattle.q_model.specs.Values.{Served, SiteRecord}

-- Times are in seconds; `timed` says that an `at` came, and `past` has the entries of this life, the newest first.
pub record Ledger : Type 0 where
  pub book : Book
  pub mode : Mode
  pub now : ℕ
  pub timed : Bool
  pub next_run : ℕ
  pub scan : Option Scan
  pub asked : Option Request
  pub ignores : Bool
  pub deferred_follows : Bool
  pub admitted : List Admitted
  pub waiting : List Row
  pub flights : List Delivery
  pub served : List Served
  pub unsettled : List Unsettled
  pub lines : List (List Id)
  pub sites : List SiteRecord
  pub synced : List Id
  -- the entries of this life, the newest first
  pub past : List Entry

-- before the first life
abbrev pub opening : Mode → Book → Ledger
opening mode book = record {
  book = book;
  mode = mode;
  now = 0;
  timed = false;
  next_run = 0;
  scan = None;
  asked = None;
  ignores = false;
  deferred_follows = false;
  admitted = [];
  waiting = [];
  flights = [];
  served = [];
  unsettled = [];
  lines = [];
  sites = [];
  synced = [];
  past = [];
}
