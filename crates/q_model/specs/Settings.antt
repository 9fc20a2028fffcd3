-- The numbers that the rules go by, each under a short form of its parameter's name (postconf(5)),
-- and the routes of recipients (transport(5)).
use Rattle.std.specs.Prelude.{◌==◌, Bool, false, if◌then◌else◌, List, ℕ}
use Rattle.q_model.specs.Values.{Site}

-- numerator/denominator, or numerator/(the window): the feedback that one answer gives
-- (postconf(5): default_destination_concurrency_positive_feedback)
pub record Feedback : Type 0 where
  pub numerator : ℕ
  pub denominator : ℕ
  pub by_window : Bool

-- the numbers of the parameters; times are in seconds
pub record Settings : Type 0 where
  pub active_limit : ℕ
  pub recipient_limit : ℕ
  pub recipient_minimum : ℕ
  pub initial_concurrency : ℕ
  pub concurrency_limit : ℕ
  pub entry_limit : ℕ
  pub positive : Feedback
  pub negative : Feedback
  pub cohort_limit : ℕ
  pub process_limit : ℕ
  pub slot_cost : ℕ
  pub slot_loan : ℕ
  pub slot_discount : ℕ
  pub minimum_slots : ℕ
  pub run_delay : ℕ
  pub minimal_backoff : ℕ
  pub maximal_backoff : ℕ
  pub lifetime : ℕ
  pub bounce_lifetime : ℕ
  pub mark_sync_limit : ℕ
  pub rate_delay : ℕ

-- the defaults
abbrev pub defaults : Settings
defaults = record {
  active_limit = 20000;
  recipient_limit = 20000;
  recipient_minimum = 10;
  initial_concurrency = 5;
  concurrency_limit = 20;
  entry_limit = 50;
  positive = record { numerator = 1; denominator = 1; by_window = false };
  negative = record { numerator = 1; denominator = 1; by_window = false };
  cohort_limit = 1;
  process_limit = 100;
  slot_cost = 5;
  slot_loan = 3;
  slot_discount = 50;
  minimum_slots = 3;
  run_delay = 300;
  minimal_backoff = 300;
  maximal_backoff = 4000;
  lifetime = 432000;
  bounce_lifetime = 432000;
  mark_sync_limit = 1;
  rate_delay = 0;
}

-- no window is wider: the concurrency limit, or 1 where deliveries to a site keep a delay
-- (postconf(5): default_destination_rate_delay)
abbrev pub window_limit : Settings → ℕ
window_limit s = if s.rate_delay == 0 then s.concurrency_limit else 1

-- the names of the transports, by number, and the site of each address
pub record Table : Type 0 where
  pub transports : List (List ℕ)
  pub route : List ℕ → Site

-- what a call goes by: its parameters and its table
pub record World : Type 0 where
  pub settings : Settings
  pub table : Table
