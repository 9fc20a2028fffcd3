-- The parameters of a program as the numbers that the rules go by.
use Rattle.q_model.specs.Settings.{Settings}
use Rattle.q_settings.specs.declared.params.Params.TheInside.{Inside}

-- each parameter under its short name
abbrev pub settings_of : Inside → Settings
settings_of p = record {
  active_limit = p.qmgr_message_active_limit;
  recipient_limit = p.qmgr_message_recipient_limit;
  recipient_minimum = p.qmgr_message_recipient_minimum;
  initial_concurrency = p.initial_destination_concurrency;
  concurrency_limit = p.default_destination_concurrency_limit;
  entry_limit = p.default_destination_recipient_limit;
  positive = p.default_destination_concurrency_positive_feedback;
  negative = p.default_destination_concurrency_negative_feedback;
  cohort_limit = p.default_destination_concurrency_failed_cohort_limit;
  process_limit = p.default_process_limit;
  slot_cost = p.default_delivery_slot_cost;
  slot_loan = p.default_delivery_slot_loan;
  slot_discount = p.default_delivery_slot_discount;
  minimum_slots = p.default_minimum_delivery_slots;
  run_delay = p.queue_run_delay;
  minimal_backoff = p.minimal_backoff_time;
  maximal_backoff = p.maximal_backoff_time;
  lifetime = p.maximal_queue_lifetime;
  bounce_lifetime = p.bounce_queue_lifetime;
  mark_sync_limit = p.mark_sync_limit;
  rate_delay = p.default_destination_rate_delay;
}
