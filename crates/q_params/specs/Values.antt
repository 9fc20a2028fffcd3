-- What the text of a value makes of the settings, for each parameter (postconf(5)).
use Rattle.std.specs.Prelude.{◌==◌, if◌then◌else◌, List, None, Option, option_and_then, option_map, Some, ℕ}
use Rattle.q_feedback.specs.FeedbackTexts.{feedback_of}
use Rattle.q_numbers.specs.Numbers.{number_within}
use Rattle.q_model.specs.Settings.{Feedback, Settings}
use Rattle.q_params.specs.Times.{seconds_within}
use Rattle.q_params.specs.declared.parameter.Parameter.{Parameter}
use Rattle.q_params.specs.declared.parameter.Parameter.TheVariants as p

-- a number from low to high
abbrev pub number_setting : ℕ → ℕ → (ℕ → Settings) → List ℕ → Option Settings
number_setting low high put text = option_map put (number_within low high text)

-- a time from low to 9,999,999 seconds; a number alone counts `alone` seconds
abbrev pub time_setting : ℕ → ℕ → (ℕ → Settings) → List ℕ → Option Settings
time_setting low alone put text = option_map put (seconds_within low 9999999 alone text)

abbrev pub feedback_setting : (Feedback → Settings) → List ℕ → Option Settings
feedback_setting put text = option_map put (feedback_of text)

-- a cost is 0, which is off, or from 2 to 1,000
abbrev pub cost_of : List ℕ → Option ℕ
cost_of text = option_and_then (λ n. if n == 1 then None else Some n) (number_within 0 1000 text)

-- the settings with this value of a parameter
unfoldable pub set_to : Parameter → List ℕ → Settings → Option Settings
set_to p.ActiveLimit text s = number_setting 1 50000 (λ n. record s { active_limit = n }) text
set_to p.RecipientLimit text s = number_setting 1 100000 (λ n. record s { recipient_limit = n }) text
set_to p.RecipientMinimum text s = number_setting 1 100000 (λ n. record s { recipient_minimum = n }) text
set_to p.InitialConcurrency text s = number_setting 1 40 (λ n. record s { initial_concurrency = n }) text
set_to p.ConcurrencyLimit text s = number_setting 1 40 (λ n. record s { concurrency_limit = n }) text
set_to p.EntryLimit text s = number_setting 1 1000 (λ n. record s { entry_limit = n }) text
set_to p.PositiveFeedback text s = feedback_setting (λ f. record s { positive = f }) text
set_to p.NegativeFeedback text s = feedback_setting (λ f. record s { negative = f }) text
set_to p.FailedCohortLimit text s = number_setting 0 100 (λ n. record s { cohort_limit = n }) text
set_to p.ProcessLimit text s = number_setting 1 1000 (λ n. record s { process_limit = n }) text
set_to p.SlotCost text s = option_map (λ n. record s { slot_cost = n }) (cost_of text)
set_to p.SlotLoan text s = number_setting 0 1000 (λ n. record s { slot_loan = n }) text
set_to p.SlotDiscount text s = number_setting 0 100 (λ n. record s { slot_discount = n }) text
set_to p.MinimumSlots text s = number_setting 0 10000 (λ n. record s { minimum_slots = n }) text
set_to p.QueueRunDelay text s = time_setting 1 1 (λ n. record s { run_delay = n }) text
set_to p.MinimalBackoff text s = time_setting 1 1 (λ n. record s { minimal_backoff = n }) text
set_to p.MaximalBackoff text s = time_setting 1 1 (λ n. record s { maximal_backoff = n }) text
set_to p.QueueLifetime text s = time_setting 0 86400 (λ n. record s { lifetime = n }) text
set_to p.BounceLifetime text s = time_setting 0 86400 (λ n. record s { bounce_lifetime = n }) text
set_to p.MarkSyncLimit text s = number_setting 1 16 (λ n. record s { mark_sync_limit = n }) text
set_to p.RateDelay text s = time_setting 0 1 (λ n. record s { rate_delay = n }) text
