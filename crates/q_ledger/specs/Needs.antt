-- What the outcomes of recipients need, by whether their message is too old.
use Rattle.std.specs.List.{cons_option}
use Rattle.std.specs.Prelude.{[], Bool, if◌then◌else◌, List, None, Option, option_and_then, option_map, Some, ℕ, ◌∷◌, length, replicate}
use Rattle.q_model.specs.declared.id.Id.{Id}
use Rattle.q_model.specs.declared.outcome.Outcome.{Outcome}
use Rattle.q_model.specs.declared.outcome.Why.TheVariants.{Expired, Refused}
use Rattle.q_model.specs.declared.rows.Need.{Need}
use Rattle.q_model.specs.declared.rows.Unsettled.{Unsettled}
use Rattle.q_model.specs.Settling.{unsettled_row}
use Rattle.q_model.specs.declared.outcome.Outcome.TheVariants as outcomes
use Rattle.q_model.specs.declared.rows.Need.TheVariants as needs

-- what an outcome needs
abbrev pub need_in : Bool → Outcome → Option Need
need_in expired outcomes.Ok = Some needs.Mark
need_in expired (outcomes.Never code) = Some (needs.Log Refused code)
need_in expired (outcomes.Later code) = if expired then Some (needs.Log Expired code) else None

-- what positions and their outcomes need
abbrev pub needs_in : Bool → Id → List ℕ → List Outcome → List Unsettled
needs_in expired id [] outcomes = []
needs_in expired id (p ∷ ps) [] = []
needs_in expired id (p ∷ ps) (o ∷ os) = cons_option
    (option_map (unsettled_row id p) (need_in expired o))
    (needs_in expired id ps os)

-- what one position needs, where it has an outcome
abbrev pub need_at : Bool → Id → ℕ → Option Outcome → List Unsettled
need_at expired id position outcome = cons_option
    (option_map (unsettled_row id position) (option_and_then (need_in expired) outcome)) []

-- what positions need that are put off without a code
abbrev pub needs_put_off : Bool → Id → List ℕ → List Unsettled
needs_put_off expired id positions =
    needs_in expired id positions (replicate (length positions) (outcomes.Later 0))
