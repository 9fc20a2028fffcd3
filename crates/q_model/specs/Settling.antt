-- What the outcome of a recipient needs before it is settled.
use Rattle.std.specs.List.{cons_option}
use Rattle.std.specs.Option.{option_map_or}
use Rattle.std.specs.Prelude.{◌++◌, [], if◌then◌else◌, List, None, Option, option_map, Some, ℕ, ◌∷◌}
use Rattle.q_model.specs.declared.id.Id.{Id}
use Rattle.q_model.specs.declared.outcome.Outcome.{Outcome}
use Rattle.q_model.specs.declared.outcome.Why.TheVariants.{Expired, Refused}
use Rattle.q_model.specs.declared.rows.Need.{Need}
use Rattle.q_model.specs.declared.rows.Unsettled.{Unsettled}
use Rattle.q_model.specs.Book.{message_of}
use Rattle.q_model.specs.Ledger.{Ledger}
use Rattle.q_model.specs.Message.{Message}
use Rattle.q_model.specs.Settings.{World}
use Rattle.q_model.specs.Times.{is_expired}
use Rattle.q_model.specs.declared.rows.Need.TheVariants as needs
use Rattle.q_model.specs.declared.outcome.Outcome.TheVariants as outcomes

-- what an outcome needs: a mark, or a failure's record and then a mark; a delay needs nothing
-- unless the message is too old
abbrev pub need_of : World → ℕ → Message → Outcome → Option Need
need_of w now m outcomes.Ok = Some needs.Mark
need_of w now m (outcomes.Never code) = Some (needs.Log Refused code)
need_of w now m (outcomes.Later code) = if is_expired w now m then Some (needs.Log Expired code) else None

-- an outcome that has a need
abbrev pub unsettled_row : Id → ℕ → Need → Unsettled
unsettled_row id position need = record { id = id; position = position; need = need }

-- the needs of positions and their outcomes
abbrev pub needs_of : World → ℕ → Message → List ℕ → List Outcome → List Unsettled
needs_of w now m [] outcomes = []
needs_of w now m (p ∷ ps) [] = []
needs_of w now m (p ∷ ps) (o ∷ os) =
    cons_option (option_map (unsettled_row m.id p) (need_of w now m o)) (needs_of w now m ps os)

-- the outcomes of these positions are settled in order
abbrev pub with_outcomes : World → Id → List ℕ → List Outcome → Ledger → Ledger
with_outcomes w id positions outcomes l =
    option_map_or (λ m. record l { unsettled = l.unsettled ++ needs_of w l.now m positions outcomes })
    (message_of l.book id) l
