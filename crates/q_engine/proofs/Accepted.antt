-- An event that isn't refused is allowed by its row.
use Rattle.std.proofs.Common.{◌≡◌, ◌&&◌, ◌==◌, ℕ, Bool, true, false, List, Option, Some, None, if◌then◌else◌, length, refl}
use Rattle.std.specs.Option.{option_map_or}
use Rattle.std.specs.List.{list_all}
use Rattle.std.proofs.lemmas.Bool.{and_from, and_parts}
use Rattle.q_model.specs.Deliveries.{flight_of}
use Rattle.q_model.specs.Ledger.{Ledger}
use Rattle.q_model.specs.Replies.{fits_state, may_reply}
use Rattle.q_model.specs.declared.event.Event.TheVariants as events
use Rattle.q_model.specs.declared.outcome.Outcome.{Outcome}
use Rattle.q_model.specs.declared.outcome.SiteState.{SiteState}
use Rattle.q_model.specs.declared.rows.Delivery.{Delivery}
use Rattle.q_core.specs.Hearing.{has_log_code}
use Rattle.q_engine.specs.Refusals.{refused_event, refused_reply}
use Rattle.q_engine.specs.declared.error.EngineError.{EngineError}

late : (early : Bool) (error : EngineError) (o : Option EngineError) → (if early then Some error else o) ≡ None → o ≡ None
late true error o h = absurd cc
late false error o h = h

counted : (t : Bool) (error : EngineError) → (if t then None else Some error) ≡ None → t ≡ true
counted true error h = refl
counted false error h = absurd cc

landed : (number : ℕ) (state : SiteState) (os : List Outcome) (o : Option Delivery) → refused_reply number os o ≡ None → fits_state state os ≡ true
    → option_map_or (λ (f : Delivery). (length os == length f.row.positions) && fits_state state os) o false ≡ true
landed number state os None h fits = absurd cc
landed number state os (Some f) h fits = and_from (length os == length f.row.positions) (fits_state state os) (counted (length os == length f.row.positions) _ h) fits

pub reply_accepted : (l : Ledger) (number : ℕ) (state : SiteState) (os : List Outcome) → refused_event l (events.Reply number state os) ≡ None → (fits_state state os && list_all has_log_code os) ≡ true → may_reply l number state os ≡ true
reply_accepted l number state os h form = landed number state os (flight_of l number) (late _ _ _ h) (and_parts (fits_state state os) (list_all has_log_code os) form).0
