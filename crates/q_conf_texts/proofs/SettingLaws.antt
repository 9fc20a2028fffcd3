-- Setting one parameter: what it changes, and what it leaves.
use Rattle.std.proofs.Common.{◌≡◌, ◌≢◌, ◌<◌, ◌∙◌, ◌∷◌, ◌⊎◌, [], ap, get_or, inl, inr, List, None, Option, refl, Some, sym, ℕ}
use Rattle.std.specs.List.{find, slice_get}
use Rattle.std.specs.Prelude.{bytes_eq, option_map, set}
use Rattle.std.proofs.lemmas.List.{get_or-set_other, get_or-set_same}
use Rattle.std.proofs.lemmas.Option.{same_Some, slice_get_within}
use Rattle.q_conf_texts.specs.Params.{default_text}
use Rattle.q_model.specs.Settings.{defaults, Feedback, Settings}
use Rattle.q_numbers.specs.Pieces.{cut}
use Rattle.q_params.specs.ParameterFile.{nothing_read}
use Rattle.q_params.specs.Readings.{setting_line}
use Rattle.q_params.specs.Parameters.{all_parameters, name_of, place_of}
use Rattle.q_params.specs.Values.{set_to}
use Rattle.q_params.specs.declared.parameter.Parameter.{Parameter}
use Rattle.q_params.specs.declared.parameter.Parameter.TheVariants as p

-- ---- the parameters in their list

pub at_place : (q : Parameter) → slice_get all_parameters (place_of q) ≡ Some q
at_place p.ActiveLimit = refl
at_place p.RecipientLimit = refl
at_place p.RecipientMinimum = refl
at_place p.InitialConcurrency = refl
at_place p.ConcurrencyLimit = refl
at_place p.EntryLimit = refl
at_place p.PositiveFeedback = refl
at_place p.NegativeFeedback = refl
at_place p.FailedCohortLimit = refl
at_place p.ProcessLimit = refl
at_place p.SlotCost = refl
at_place p.SlotLoan = refl
at_place p.SlotDiscount = refl
at_place p.MinimumSlots = refl
at_place p.QueueRunDelay = refl
at_place p.MinimalBackoff = refl
at_place p.MaximalBackoff = refl
at_place p.QueueLifetime = refl
at_place p.BounceLifetime = refl
at_place p.MarkSyncLimit = refl
at_place p.RateDelay = refl

pub place_within : (q : Parameter) → place_of q < 21
place_within q = slice_get_within all_parameters (place_of q) q (at_place q)

-- no two have one number
pub same_place : (a b : Parameter) → place_of a ≡ place_of b → a ≡ b
same_place a b e = same_Some a b (sym (at_place a) ∙ ap (slice_get all_parameters) e ∙ at_place b)

-- nor one name
pub by_name : (q : Parameter) → find (λ other. bytes_eq (name_of other) (name_of q)) all_parameters ≡ Some q
by_name p.ActiveLimit = refl
by_name p.RecipientLimit = refl
by_name p.RecipientMinimum = refl
by_name p.InitialConcurrency = refl
by_name p.ConcurrencyLimit = refl
by_name p.EntryLimit = refl
by_name p.PositiveFeedback = refl
by_name p.NegativeFeedback = refl
by_name p.FailedCohortLimit = refl
by_name p.ProcessLimit = refl
by_name p.SlotCost = refl
by_name p.SlotLoan = refl
by_name p.SlotDiscount = refl
by_name p.MinimumSlots = refl
by_name p.QueueRunDelay = refl
by_name p.MinimalBackoff = refl
by_name p.MaximalBackoff = refl
by_name p.QueueLifetime = refl
by_name p.BounceLifetime = refl
by_name p.MarkSyncLimit = refl
by_name p.RateDelay = refl

-- ---- their values

-- a number, or a feedback
abbrev Value : Type 0
Value = ℕ ⊎ Feedback

-- the value of each parameter, in the order of the list
abbrev values : Settings → List Value
values s =
    inl s.active_limit ∷ inl s.recipient_limit ∷ inl s.recipient_minimum ∷ inl s.initial_concurrency ∷ inl s.concurrency_limit ∷ inl s.entry_limit ∷ inr s.positive ∷ inr s.negative ∷ inl s.cohort_limit ∷ inl s.process_limit ∷ inl s.slot_cost ∷ inl s.slot_loan ∷ inl s.slot_discount ∷ inl s.minimum_slots ∷ inl s.run_delay ∷ inl s.minimal_backoff ∷ inl s.maximal_backoff ∷ inl s.lifetime ∷ inl s.bounce_lifetime ∷ inl s.mark_sync_limit ∷ inl s.rate_delay ∷ []

abbrev value_at : ℕ → Settings → Value
value_at k s = get_or (values s) k (inl 0)

-- setting it makes it this value, and changes nothing where it has it
abbrev Puts : Parameter → List ℕ → Settings → Settings → Type 0
Puts q text s t = (x : Value) × ((r : Settings) → value_at (place_of q) r ≡ x → set_to q text r ≡ Some r) × (values t ≡ set (values s) (place_of q) x)

put : {A : Type 0} (inject : A → Value) → ((a b : A) → inject a ≡ inject b → a ≡ b) → (k : ℕ) (o : Option A) (get : Settings → A) (into : A → Settings → Settings)
    → ((a : A) (r : Settings) → values (into a r) ≡ set (values r) k (inject a)) → ((r : Settings) → value_at k r ≡ inject (get r)) → ((r : Settings) → into (get r) r ≡ r)
    → (s t : Settings) → option_map (λ a. into a s) o ≡ Some t → (x : Value) × ((r : Settings) → value_at k r ≡ x → option_map (λ a. into a r) o ≡ Some r) × (values t ≡ set (values s) k x)
put inject one k None get into puts gets back s t e = absurd (cc)
put inject one k (Some a) get into puts gets back s t e =
    let is : into a s ≡ t = same_Some (into a s) t e in
    (inject a, (λ r has. ap (λ x. Some x) (ap (λ b. into b r) (one a (get r) (sym has ∙ gets r)) ∙ back r)), ap values (sym is) ∙ puts a s)

same_number : (a b : ℕ) → ◌≡◌ {A = Value} (inl a) (inl b) → a ≡ b
same_number a b e = cc

same_feedback : (a b : Feedback) → ◌≡◌ {A = Value} (inr a) (inr b) → a ≡ b
same_feedback a b e = cc

puts_value : (q : Parameter) (text : List ℕ) (s t : Settings) → set_to q text s ≡ Some t → Puts q text s t
unfolding set_to
puts_value p.ActiveLimit text s t e = put (λ x. inl x) same_number 0 _ (λ r. r.active_limit) (λ x r. record r { active_limit = x }) (λ x r. refl) (λ r. refl) (λ r. refl) s t e
puts_value p.RecipientLimit text s t e = put (λ x. inl x) same_number 1 _ (λ r. r.recipient_limit) (λ x r. record r { recipient_limit = x }) (λ x r. refl) (λ r. refl) (λ r. refl) s t e
puts_value p.RecipientMinimum text s t e = put (λ x. inl x) same_number 2 _ (λ r. r.recipient_minimum) (λ x r. record r { recipient_minimum = x }) (λ x r. refl) (λ r. refl) (λ r. refl) s t e
puts_value p.InitialConcurrency text s t e = put (λ x. inl x) same_number 3 _ (λ r. r.initial_concurrency) (λ x r. record r { initial_concurrency = x }) (λ x r. refl) (λ r. refl) (λ r. refl) s t e
puts_value p.ConcurrencyLimit text s t e = put (λ x. inl x) same_number 4 _ (λ r. r.concurrency_limit) (λ x r. record r { concurrency_limit = x }) (λ x r. refl) (λ r. refl) (λ r. refl) s t e
puts_value p.EntryLimit text s t e = put (λ x. inl x) same_number 5 _ (λ r. r.entry_limit) (λ x r. record r { entry_limit = x }) (λ x r. refl) (λ r. refl) (λ r. refl) s t e
puts_value p.PositiveFeedback text s t e = put (λ x. inr x) same_feedback 6 _ (λ r. r.positive) (λ x r. record r { positive = x }) (λ x r. refl) (λ r. refl) (λ r. refl) s t e
puts_value p.NegativeFeedback text s t e = put (λ x. inr x) same_feedback 7 _ (λ r. r.negative) (λ x r. record r { negative = x }) (λ x r. refl) (λ r. refl) (λ r. refl) s t e
puts_value p.FailedCohortLimit text s t e = put (λ x. inl x) same_number 8 _ (λ r. r.cohort_limit) (λ x r. record r { cohort_limit = x }) (λ x r. refl) (λ r. refl) (λ r. refl) s t e
puts_value p.ProcessLimit text s t e = put (λ x. inl x) same_number 9 _ (λ r. r.process_limit) (λ x r. record r { process_limit = x }) (λ x r. refl) (λ r. refl) (λ r. refl) s t e
puts_value p.SlotCost text s t e = put (λ x. inl x) same_number 10 _ (λ r. r.slot_cost) (λ x r. record r { slot_cost = x }) (λ x r. refl) (λ r. refl) (λ r. refl) s t e
puts_value p.SlotLoan text s t e = put (λ x. inl x) same_number 11 _ (λ r. r.slot_loan) (λ x r. record r { slot_loan = x }) (λ x r. refl) (λ r. refl) (λ r. refl) s t e
puts_value p.SlotDiscount text s t e = put (λ x. inl x) same_number 12 _ (λ r. r.slot_discount) (λ x r. record r { slot_discount = x }) (λ x r. refl) (λ r. refl) (λ r. refl) s t e
puts_value p.MinimumSlots text s t e = put (λ x. inl x) same_number 13 _ (λ r. r.minimum_slots) (λ x r. record r { minimum_slots = x }) (λ x r. refl) (λ r. refl) (λ r. refl) s t e
puts_value p.QueueRunDelay text s t e = put (λ x. inl x) same_number 14 _ (λ r. r.run_delay) (λ x r. record r { run_delay = x }) (λ x r. refl) (λ r. refl) (λ r. refl) s t e
puts_value p.MinimalBackoff text s t e = put (λ x. inl x) same_number 15 _ (λ r. r.minimal_backoff) (λ x r. record r { minimal_backoff = x }) (λ x r. refl) (λ r. refl) (λ r. refl) s t e
puts_value p.MaximalBackoff text s t e = put (λ x. inl x) same_number 16 _ (λ r. r.maximal_backoff) (λ x r. record r { maximal_backoff = x }) (λ x r. refl) (λ r. refl) (λ r. refl) s t e
puts_value p.QueueLifetime text s t e = put (λ x. inl x) same_number 17 _ (λ r. r.lifetime) (λ x r. record r { lifetime = x }) (λ x r. refl) (λ r. refl) (λ r. refl) s t e
puts_value p.BounceLifetime text s t e = put (λ x. inl x) same_number 18 _ (λ r. r.bounce_lifetime) (λ x r. record r { bounce_lifetime = x }) (λ x r. refl) (λ r. refl) (λ r. refl) s t e
puts_value p.MarkSyncLimit text s t e = put (λ x. inl x) same_number 19 _ (λ r. r.mark_sync_limit) (λ x r. record r { mark_sync_limit = x }) (λ x r. refl) (λ r. refl) (λ r. refl) s t e
puts_value p.RateDelay text s t e = put (λ x. inl x) same_number 20 _ (λ r. r.rate_delay) (λ x r. record r { rate_delay = x }) (λ x r. refl) (λ r. refl) (λ r. refl) s t e

has_then : (q : Parameter) (text : List ℕ) (s t : Settings) (puts : Puts q text s t) → value_at (place_of q) t ≡ puts.0
has_then q text s t puts = ap (λ (xs : List Value). get_or xs (place_of q) (inl 0)) puts.2 ∙ get_or-set_same (values s) (place_of q) puts.0 (inl 0) (place_within q)

-- to set it once more changes nothing
pub set_again : (q : Parameter) (text : List ℕ) (s t : Settings) → set_to q text s ≡ Some t → set_to q text t ≡ Some t
set_again q text s t e =
    let puts = puts_value q text s t e in
    puts.1 t (has_then q text s t puts)

-- to set another one leaves it as it was
pub set_other : (q other : Parameter) (text value : List ℕ) (s t : Settings) → place_of q ≢ place_of other → set_to other value s ≡ Some t → set_to q text s ≡ Some s → set_to q text t ≡ Some t
set_other q other text value s t apart sets has =
    let mine = puts_value q text s s has in
    let theirs = puts_value other value s t sets in
    mine.1 t (ap (λ (xs : List Value). get_or xs (place_of q) (inl 0)) theirs.2 ∙ get_or-set_other (values s) (place_of other) (place_of q) theirs.0 (inl 0) apart ∙ has_then q text s s mine)

-- a default is one
pub default_set : (q : Parameter) → set_to q (default_text q) defaults ≡ Some defaults
unfolding cut set_to
default_set p.ActiveLimit = refl
default_set p.RecipientLimit = refl
default_set p.RecipientMinimum = refl
default_set p.InitialConcurrency = refl
default_set p.ConcurrencyLimit = refl
default_set p.EntryLimit = refl
default_set p.PositiveFeedback = refl
default_set p.NegativeFeedback = refl
default_set p.FailedCohortLimit = refl
default_set p.ProcessLimit = refl
default_set p.SlotCost = refl
default_set p.SlotLoan = refl
default_set p.SlotDiscount = refl
default_set p.MinimumSlots = refl
default_set p.QueueRunDelay = refl
default_set p.MinimalBackoff = refl
default_set p.MaximalBackoff = refl
default_set p.QueueLifetime = refl
default_set p.BounceLifetime = refl
default_set p.MarkSyncLimit = refl
default_set p.RateDelay = refl

-- before the first line none has one
pub unset_line : (q : Parameter) → setting_line nothing_read q ≡ 0
unset_line p.ActiveLimit = refl
unset_line p.RecipientLimit = refl
unset_line p.RecipientMinimum = refl
unset_line p.InitialConcurrency = refl
unset_line p.ConcurrencyLimit = refl
unset_line p.EntryLimit = refl
unset_line p.PositiveFeedback = refl
unset_line p.NegativeFeedback = refl
unset_line p.FailedCohortLimit = refl
unset_line p.ProcessLimit = refl
unset_line p.SlotCost = refl
unset_line p.SlotLoan = refl
unset_line p.SlotDiscount = refl
unset_line p.MinimumSlots = refl
unset_line p.QueueRunDelay = refl
unset_line p.MinimalBackoff = refl
unset_line p.MaximalBackoff = refl
unset_line p.QueueLifetime = refl
unset_line p.BounceLifetime = refl
unset_line p.MarkSyncLimit = refl
unset_line p.RateDelay = refl
