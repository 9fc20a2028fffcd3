-- Outcomes that a line may list for a site in a state are those that a reply in this state may have.
use Rattle.std.proofs.Common.{◌≡◌, List, [], ◌∷◌, true, refl}
use Rattle.std.specs.List.{AllByRecursion, list_all}
use Rattle.q_model.specs.declared.outcome.Outcome.{Outcome}
use Rattle.q_model.specs.declared.outcome.Outcome.TheVariants as outcomes
use Rattle.q_model.specs.declared.outcome.SiteState.{SiteState}
use Rattle.q_model.specs.declared.outcome.SiteState.TheVariants.{Down, Up}
use Rattle.q_model.specs.Replies.{fits_state, is_later}
use Rattle.q_text.specs.ValueForms.{IsOutcomeAt}

all_later : (os : List Outcome) → AllByRecursion (IsOutcomeAt Down) os → list_all is_later os ≡ true
all_later [] h = refl
all_later (outcomes.Ok ∷ os) h = absurd h.0
all_later (outcomes.Later code ∷ os) h = all_later os h.1
all_later (outcomes.Never code ∷ os) h = absurd h.0

pub outcomes_fit : (state : SiteState) (os : List Outcome) → AllByRecursion (IsOutcomeAt state) os → fits_state state os ≡ true
outcomes_fit Up os h = refl
outcomes_fit Down os h = all_later os h
