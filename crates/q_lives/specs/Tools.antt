-- Steps of queue tools on a book at rest of which the last was cut off, and recipients that they give up.
use Rattle.std.specs.Prelude.{◌&&◌, ◌==◌, [], Bool, false, List, ◌∷◌, ℕ}
use Rattle.q_model.specs.declared.id.Id.{Id}
use Rattle.q_model.specs.Book.{Book}
use Rattle.q_model.specs.BookChanges.{change_message}
use Rattle.q_model.specs.CutOff.{loosened}
use Rattle.q_model.specs.Ids.{id_eq}
use Rattle.q_model.specs.ToolSteps.{after_step, fails, moves, ToolStep}

-- the book after a step that was cut off: of a failure the disk may not be sure yet
abbrev pub cut_step : Book → ToolStep → Book
cut_step b (moves id place) = b
cut_step b (fails id position) = change_message b id loosened

-- the book after these steps, of which the last was cut off
abbrev pub after_cut_steps : Book → List ToolStep → Book
after_cut_steps b [] = b
after_cut_steps b (s ∷ []) = cut_step (after_step b s) s
after_cut_steps b (s ∷ t ∷ ss) = after_cut_steps (after_step b s) (t ∷ ss)

-- the step gives the recipient up
abbrev pub is_fail_of : Id → ℕ → ToolStep → Bool
is_fail_of id position (fails other p) = id_eq other id && (p == position)
is_fail_of id position _ = false
