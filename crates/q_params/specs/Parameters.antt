-- The parameters of a file and their names (postconf(5)); `mark_sync_limit` is this program's own.
use Rattle.std.specs.Prelude.{[], codes, List, ℕ, ◌∷◌}
use Rattle.q_params.specs.declared.parameter.Parameter.{Parameter}
use Rattle.q_params.specs.declared.parameter.Parameter.TheVariants as p

-- its name
abbrev pub name_of : Parameter → List ℕ
name_of p.ActiveLimit = codes "qmgr_message_active_limit"
name_of p.RecipientLimit = codes "qmgr_message_recipient_limit"
name_of p.RecipientMinimum = codes "qmgr_message_recipient_minimum"
name_of p.InitialConcurrency = codes "initial_destination_concurrency"
name_of p.ConcurrencyLimit = codes "default_destination_concurrency_limit"
name_of p.EntryLimit = codes "default_destination_recipient_limit"
name_of p.PositiveFeedback = codes "default_destination_concurrency_positive_feedback"
name_of p.NegativeFeedback = codes "default_destination_concurrency_negative_feedback"
name_of p.FailedCohortLimit = codes "default_destination_concurrency_failed_cohort_limit"
name_of p.ProcessLimit = codes "default_process_limit"
name_of p.SlotCost = codes "default_delivery_slot_cost"
name_of p.SlotLoan = codes "default_delivery_slot_loan"
name_of p.SlotDiscount = codes "default_delivery_slot_discount"
name_of p.MinimumSlots = codes "default_minimum_delivery_slots"
name_of p.QueueRunDelay = codes "queue_run_delay"
name_of p.MinimalBackoff = codes "minimal_backoff_time"
name_of p.MaximalBackoff = codes "maximal_backoff_time"
name_of p.QueueLifetime = codes "maximal_queue_lifetime"
name_of p.BounceLifetime = codes "bounce_queue_lifetime"
name_of p.MarkSyncLimit = codes "mark_sync_limit"
name_of p.RateDelay = codes "default_destination_rate_delay"

-- all of them
abbrev pub all_parameters : List Parameter
all_parameters =
    p.ActiveLimit ∷ p.RecipientLimit ∷ p.RecipientMinimum ∷ p.InitialConcurrency ∷ p.ConcurrencyLimit
    ∷ p.EntryLimit ∷ p.PositiveFeedback ∷ p.NegativeFeedback ∷ p.FailedCohortLimit ∷ p.ProcessLimit
    ∷ p.SlotCost ∷ p.SlotLoan ∷ p.SlotDiscount ∷ p.MinimumSlots ∷ p.QueueRunDelay ∷ p.MinimalBackoff
    ∷ p.MaximalBackoff ∷ p.QueueLifetime ∷ p.BounceLifetime ∷ p.MarkSyncLimit ∷ p.RateDelay
    ∷ []

-- its number in that list
abbrev pub place_of : Parameter → ℕ
place_of p.ActiveLimit = 0
place_of p.RecipientLimit = 1
place_of p.RecipientMinimum = 2
place_of p.InitialConcurrency = 3
place_of p.ConcurrencyLimit = 4
place_of p.EntryLimit = 5
place_of p.PositiveFeedback = 6
place_of p.NegativeFeedback = 7
place_of p.FailedCohortLimit = 8
place_of p.ProcessLimit = 9
place_of p.SlotCost = 10
place_of p.SlotLoan = 11
place_of p.SlotDiscount = 12
place_of p.MinimumSlots = 13
place_of p.QueueRunDelay = 14
place_of p.MinimalBackoff = 15
place_of p.MaximalBackoff = 16
place_of p.QueueLifetime = 17
place_of p.BounceLifetime = 18
place_of p.MarkSyncLimit = 19
place_of p.RateDelay = 20
