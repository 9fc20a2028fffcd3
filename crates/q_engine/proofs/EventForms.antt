-- What an event list gives has the form that a step of the engine asks for.
use Rattle.std.proofs.Common.{◌≡◌, ◌&&◌, arith, List, [], ◌∷◌, not, true, refl, ℕ}
use Rattle.std.proofs.lemmas.Bool.{and_from, and_parts}
use Rattle.std.specs.List.{AllByRecursion, list_all}
use Rattle.q_model.specs.declared.event.Event.{Event}
use Rattle.q_model.specs.declared.event.Event.TheVariants as events
use Rattle.q_model.specs.declared.outcome.Outcome.{Outcome}
use Rattle.q_model.specs.declared.outcome.Outcome.TheVariants as outcomes
use Rattle.q_model.specs.declared.outcome.SiteState.{SiteState}
use Rattle.q_model.specs.declared.outcome.SiteState.TheVariants.{Down, Up}
use Rattle.q_model.specs.FailureLog.{is_log_code}
use Rattle.q_model.specs.Replies.{fits_state}
use Rattle.q_text.specs.ValueForms.{IsCode, IsOutcomeAt}
use Rattle.q_text.proofs.OutcomeFits.{outcomes_fit}
use Rattle.q_events.specs.Forms.{IsInForm as IsListed, is_receiver as is_listed}
use Rattle.q_message.specs.NewFile.{is_receiver}
use Rattle.q_model.specs.QueueFile.{is_first, is_other, new_version}
use Rattle.q_model.specs.QueueFileBytes.{is_original}
use Rattle.q_model.specs.Texts.{is_address}
use Rattle.q_model.specs.Values.{Receiver}
use Rattle.std.specs.Option.{option_map_or}
use Rattle.q_core.specs.Hearing.{has_log_code}
use Rattle.q_engine.specs.Heard.{IsEventInForm}

later_code : (code : ℕ) → IsCode 400 code → is_log_code code ≡ true
later_code code h = grind (arith, h)

never_code : (code : ℕ) → IsCode 500 code → is_log_code code ≡ true
never_code code h = grind (arith, h)

log_code : (state : SiteState) (o : Outcome) → IsOutcomeAt state o → has_log_code o ≡ true
log_code state outcomes.Ok h = refl
log_code Up (outcomes.Later code) h = later_code code h
log_code Up (outcomes.Never code) h = never_code code h
log_code Down (outcomes.Later code) h = later_code code h
log_code Down (outcomes.Never code) h = absurd h

log_codes : (state : SiteState) (os : List Outcome) → AllByRecursion (IsOutcomeAt state) os → list_all has_log_code os ≡ true
log_codes state [] h = refl
log_codes state (o ∷ os) h = and_from (has_log_code o) (list_all has_log_code os) (log_code state o h.0) (log_codes state os h.1)

-- of a recipient in form the original address is another
others : (to : List Receiver) → list_all is_listed to ≡ true → list_all is_receiver to ≡ true
others [] h = refl
others (r ∷ to) h =
    let two = and_parts (is_listed r) (list_all is_listed to) h in
    let form = and_parts (is_address r.address) (is_original new_version r.address r.original) two.0 in
    let other = and_parts (option_map_or (λ a. not (is_first new_version) && is_address a) r.original true) (is_other r.address r.original) form.1 in
    and_from (is_receiver r) (list_all is_receiver to) other.1 (others to two.1)

pub form : (event : Event) → IsListed event → IsEventInForm event
form (events.At t) h = h
form (events.Mail sender to content) h = (others to h.1, h.2)
form (events.Reply number state os) h =
    and_from (fits_state state os) (list_all has_log_code os) (outcomes_fit state os h.1) (log_codes state os h.1)
form (events.Trigger kind) h = tt
