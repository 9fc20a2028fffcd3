-- What holds of the numbers of every set of parameters (postconf(5)). Times are in seconds.
use Rattle.std.specs.Prelude.{◌≢◌, ◌≤◌}
use Rattle.q_feedback.specs.FeedbackForms.{IsFeedback}
use Rattle.q_model.specs.Settings.{Settings}

-- each number is in its range, and neither of two pairs is the wrong way round
pub record IsInRange (s : Settings) : Type 0 where
  pub active_limit : (1 ≤ s.active_limit) × (s.active_limit ≤ 50000)
  pub recipient_limit : (1 ≤ s.recipient_limit) × (s.recipient_limit ≤ 100000)
  pub recipient_minimum : (1 ≤ s.recipient_minimum) × (s.recipient_minimum ≤ s.recipient_limit)
  pub initial_concurrency : (1 ≤ s.initial_concurrency) × (s.initial_concurrency ≤ 40)
  pub concurrency_limit : (1 ≤ s.concurrency_limit) × (s.concurrency_limit ≤ 40)
  pub entry_limit : (1 ≤ s.entry_limit) × (s.entry_limit ≤ 1000)
  pub positive : IsFeedback s.positive
  pub negative : IsFeedback s.negative
  pub cohort_limit : s.cohort_limit ≤ 100
  pub process_limit : (1 ≤ s.process_limit) × (s.process_limit ≤ 1000)
  pub slot_cost : (s.slot_cost ≤ 1000) × (s.slot_cost ≢ 1)
  pub slot_loan : s.slot_loan ≤ 1000
  pub slot_discount : s.slot_discount ≤ 100
  pub minimum_slots : s.minimum_slots ≤ 10000
  pub run_delay : (1 ≤ s.run_delay) × (s.run_delay ≤ 9999999)
  pub minimal_backoff : (1 ≤ s.minimal_backoff) × (s.minimal_backoff ≤ s.maximal_backoff)
  pub maximal_backoff : s.maximal_backoff ≤ 9999999
  pub lifetime : s.lifetime ≤ 9999999
  pub bounce_lifetime : s.bounce_lifetime ≤ 9999999
  pub mark_sync_limit : (1 ≤ s.mark_sync_limit) × (s.mark_sync_limit ≤ 16)
  pub rate_delay : s.rate_delay ≤ 9999999
