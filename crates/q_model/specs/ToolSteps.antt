-- Steps of the queue tools, which act on a spool at rest: a file moves, a message is taken into active to
-- be given up, and a recipient of it that is pending fails.
use Rattle.std.specs.List.{list_all, list_any}
use Rattle.std.specs.Option.{option_map_or}
use Rattle.std.specs.Prelude.{◌&&◌, ◌==◌, Bool, false, is_some, List, not, true, ◌||◌, ℕ, [], ◌∷◌}
use Rattle.q_model.specs.declared.id.Id.{Id}
use Rattle.q_model.specs.declared.outcome.Failure.{Failure}
use Rattle.q_model.specs.declared.outcome.Why.TheVariants.{Expired}
use Rattle.q_model.specs.declared.rows.Place.{Place}
use Rattle.q_model.specs.Book.{all_ids, Book, message_of, stands, stands_in}
use Rattle.q_model.specs.BookChanges.{change_message, move_damaged, move_message}
use Rattle.q_model.specs.Ids.{bounce_of}
use Rattle.q_model.specs.Logs.{with_failure}
use Rattle.q_model.specs.Message.{Message, pending}
use Rattle.q_model.specs.Places.{is_active}
use Rattle.q_model.specs.declared.rows.Place.TheVariants as places

-- a step: the file of an id moves to a place, or a position of its message fails
pub data ToolStep : Type 0 where
  moves : Id → Place → ToolStep
  fails : Id → ℕ → ToolStep

-- a tool may move a file from the one place to the other: held back, let go, due at once, or taken to be
-- given up
abbrev pub is_tool_move : Place → Place → Bool
is_tool_move places.Incoming places.Hold = true
is_tool_move (places.Deferred due) places.Hold = true
is_tool_move places.Hold places.Incoming = true
is_tool_move (places.Deferred due) places.Incoming = true
is_tool_move places.Incoming places.Active = true
is_tool_move (places.Deferred due) places.Active = true
is_tool_move places.Hold places.Active = true
is_tool_move from to = false

-- the failure of a recipient that a tool gives up
abbrev pub given_up : ℕ → Failure
given_up position = record { position = position; why = Expired; code = 0 }

-- no message and its bounce stand together
abbrev pub is_unpaired : Book → Bool
is_unpaired b = list_all (λ id. id.bounce || not (stands b (bounce_of id))) (all_ids b)

-- the position is pending in a message that stands in active
abbrev pub may_give_up : ℕ → Message → Bool
may_give_up position m = is_active m.place && list_any (λ p. p == position) (pending m)

-- a book on which the step may be done
abbrev pub may_step : Book → ToolStep → Bool
may_step b (moves id place) = is_unpaired b && stands_in (λ from. is_tool_move from place) b id
    && (not (is_active place) || is_some (message_of b id))
may_step b (fails id position) = is_unpaired b && option_map_or (may_give_up position) (message_of b id) false

-- the book after the step
abbrev pub after_step : Book → ToolStep → Book
after_step b (moves id place) = move_damaged (move_message b id place) id place
after_step b (fails id position) = change_message b id (with_failure (given_up position))

-- each step may be done after those before it
abbrev pub may_steps : Book → List ToolStep → Bool
may_steps b [] = true
may_steps b (s ∷ ss) = may_step b s && may_steps (after_step b s) ss

-- the book after these steps
abbrev pub after_steps : Book → List ToolStep → Book
after_steps b [] = b
after_steps b (s ∷ ss) = after_steps (after_step b s) ss
