-- Worked steps of the queue tools: which may be done, and what they leave.
use Rattle.q_model.proofs.RowWords.{id, one_to}
use Rattle.q_model.specs.Book.{Book, ids_at}
use Rattle.q_model.specs.Ids.{bounce_of}
use Rattle.q_model.specs.Message.{Message}
use Rattle.q_model.specs.Places.{is_active, place_eq}
use Rattle.q_model.specs.ToolSteps.{after_steps, fails, may_step, may_steps, moves}
use Rattle.std.proofs.Common.{refl}
use Rattle.std.specs.Prelude.{[], false, true, ◌∷◌, ◌≡◌}
use Rattle.q_model.specs.declared.rows.Mark.TheVariants as marks
use Rattle.q_model.specs.declared.rows.Place.TheVariants as places

abbrev as_bounce : Message → Message
as_bounce m = record m { id = bounce_of m.id }

-- a message in deferred, a bounce on hold whose message is gone, and a damaged file in incoming
abbrev waiting : Book
waiting = record {
  generation = 2;
  messages = one_to 1 marks.Unmarked (places.Deferred 1300) ∷ as_bounce (one_to 2 marks.Unmarked places.Hold) ∷ [];
  damaged = record { id = id 3; place = places.Incoming } ∷ [];
}

-- a message is taken to active, and its recipient fails there
gives_up : may_steps waiting (moves (id 1) places.Active ∷ fails (id 1) 0 ∷ []) ≡ true
gives_up = refl

gave_up : ids_at is_active (after_steps waiting (moves (id 1) places.Active ∷ fails (id 1) 0 ∷ [])) ≡ id 1 ∷ []
gave_up = refl

-- not before, not again, and no recipient that there isn't
gives_up_nothing_else : (may_step waiting (fails (id 1) 0) ≡ false)
    × (may_steps waiting (moves (id 1) places.Active ∷ fails (id 1) 0 ∷ fails (id 1) 0 ∷ []) ≡ false)
    × (may_steps waiting (moves (id 1) places.Active ∷ fails (id 1) 1 ∷ []) ≡ false)
gives_up_nothing_else = (refl, refl, refl)

-- all but what is on hold is held back, a damaged file too, and a bounce is let go
moves_all : (ids_at (place_eq places.Hold) (after_steps waiting (moves (id 1) places.Hold ∷ moves (id 3) places.Hold ∷ [])) ≡ id 1 ∷ bounce_of (id 2) ∷ id 3 ∷ [])
    × (may_steps waiting (moves (id 1) places.Hold ∷ moves (id 3) places.Hold ∷ moves (bounce_of (id 2)) places.Incoming ∷ []) ≡ true)
moves_all = (refl, refl)

-- a damaged file isn't taken to active, and nothing is moved that isn't there
moves_nothing_else : (may_step waiting (moves (id 3) places.Active) ≡ false)
    × (may_step waiting (moves (id 2) places.Incoming) ≡ false)
moves_nothing_else = (refl, refl)

-- where a message stands with its bounce, no step is done
waits_for_bounce : may_step (record waiting { messages = one_to 2 marks.Synced places.Active ∷ as_bounce (one_to 2 marks.Unmarked places.Incoming) ∷ one_to 1 marks.Unmarked places.Hold ∷ [] }) (moves (id 1) places.Incoming) ≡ false
waits_for_bounce = refl
