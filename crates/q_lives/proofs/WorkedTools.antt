-- Worked lives with steps of queue tools between them: a message is given up, and its bounce is stored by the
-- next life.
use Rattle.std.proofs.Common.{[], ap, false, inl, inr, List, refl, true, ◌∷◌, ◌≡◌}
use Rattle.std.specs.Prelude.{Bool}
use Rattle.q_lives.proofs.CausedLives.{lives_done}
use Rattle.q_lives.proofs.WorkedLives.{empty_orderly, one_mail, only, plain, plain_receiver, plain_usable}
use Rattle.q_lives.specs.Bounces.{bounces}
use Rattle.q_lives.specs.Causes.{Cause, IsDoneBeside}
use Rattle.q_lives.specs.Lives.{AreLives, IsLife, Life, tool_steps, trace}
use Rattle.q_model.proofs.RowWords.{at, id, one_to}
use Rattle.q_model.specs.Book.{empty_book}
use Rattle.q_model.specs.Message.{Message}
use Rattle.q_model.specs.Next.{next}
use Rattle.q_model.specs.Notices.{bounce_message}
use Rattle.q_model.specs.Run.{decide, decisions, run, run_of, turn}
use Rattle.q_model.specs.Step.{after, after_all, allowed}
use Rattle.q_model.specs.ToolSteps.{fails, given_up, moves}
use Rattle.q_model.specs.declared.event.Mode.TheVariants.{Deliver}
use Rattle.q_model.specs.declared.entry.Entry.TheVariants as entries
use Rattle.q_model.specs.declared.rows.Mark.TheVariants as marks
use Rattle.q_model.specs.declared.rows.Mark.{Mark}
use Rattle.q_model.specs.declared.rows.Place.TheVariants as places

-- the message, given up
abbrev given : Bool → Mark → Message
given firm mark = record (one_to 1 mark places.Active) { failures = record { failure = given_up 0; firm = firm } ∷ [] }

-- It arrives, and the life is cut off behind it. Then it is taken to active and given up, where the step was
-- cut off once the failure was written.
abbrev arriving : Life
arriving = record { world = plain; mode = Deliver; items = at 1000 ∷ one_mail ∷ []; count = 3; steps = moves (id 1) places.Active ∷ fails (id 1) 0 ∷ []; left = only 1 (given false marks.Unmarked ∷ []) }

-- the next life marks it and stores its bounce, and is cut off there
abbrev finishing : Life
finishing = record { world = plain; mode = Deliver; items = at 2000 ∷ []; count = 5; steps = []; left = only 2 (given true marks.Synced ∷ bounce_message 2000 (given true marks.Synced) ∷ []) }

abbrev both : List Life
both = arriving ∷ finishing ∷ []

both_are_lives : AreLives empty_book both
unfolding run_of run turn decisions decide after after_all next allowed
both_are_lives = (arriving_is, (finishing_is, tt))
  where
    arriving_is : IsLife empty_book arriving
    arriving_is = record {
      usable = plain_usable;
      fits = (refl, (refl, (refl, tt)));
      left = record { end = only 1 (one_to 1 marks.Unmarked places.Incoming ∷ []); ends = inl refl; may = refl; worked = only 1 (given false marks.Unmarked ∷ []); works = inr refl; leaves = inl refl };
    }

    finishing_is : IsLife arriving.left finishing
    finishing_is = record {
      usable = plain_usable;
      fits = (refl, (refl, tt));
      left = record { end = finishing.left; ends = inl refl; may = refl; worked = finishing.left; works = inl refl; leaves = inl refl };
    }

both_trace : trace empty_book both ≡
    entries.Life 1 Deliver ∷ entries.At 1000 ∷ entries.Arrive (id 1) (one_to 1 marks.Unmarked places.Active).sender (plain_receiver ∷ []) []
    ∷ entries.Life 2 Deliver ∷ entries.At 2000 ∷ entries.Mark (id 1) 0 ∷ entries.Sync (id 1) ∷ entries.Bounce (id 1)
    ∷ []
unfolding run_of run turn decisions decide after after_all next
both_trace = refl

-- the message has one bounce
bounced_one : bounces empty_book (id 1) (trace empty_book both) ≡ 1
bounced_one = ap (bounces empty_book (id 1)) both_trace

-- the recipient is done, and the law says that a tool gave it up: no entry did
had_cause : Cause (IsDoneBeside empty_book (tool_steps both)) (trace empty_book both) (id 1) 0
had_cause = lives_done empty_book both empty_orderly both_are_lives (id 1) 0 refl
