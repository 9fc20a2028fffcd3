-- Worked lives of a message that is refused: its finishing is cut off twice, and it has one bounce.
use Rattle.std.proofs.Common.{◌≡◌, true, List, [], ◌∷◌, inl, inr, refl}
use Rattle.q_lives.proofs.BouncedLives.{all_bounced}
use Rattle.q_lives.proofs.WorkedLives.{empty_orderly, one_mail, only, plain, plain_receiver, plain_usable, refused}
use Rattle.q_lives.specs.Bounces.{BouncedThroughout, bounces}
use Rattle.q_lives.specs.Lives.{AreLives, IsLife, Life, trace}
use Rattle.q_model.proofs.RowWords.{at, id, one_to, up}
use Rattle.q_model.specs.Book.{empty_book}
use Rattle.q_model.specs.Finishing.{wants_bounce}
use Rattle.q_model.specs.Message.{Logged, Message}
use Rattle.q_model.specs.Next.{next}
use Rattle.q_model.specs.Notices.{bounce_message}
use Rattle.q_model.specs.Run.{decide, decisions, run, run_of, turn}
use Rattle.q_model.specs.Step.{after, after_all, allowed}
use Rattle.q_model.specs.declared.event.Mode.TheVariants.{Deliver}
use Rattle.q_model.specs.declared.outcome.Why.TheVariants.{Refused}
use Rattle.q_model.specs.declared.rows.Mark.{Mark}
use Rattle.q_model.specs.declared.entry.Entry.TheVariants as entries
use Rattle.q_model.specs.declared.rows.Mark.TheVariants as marks
use Rattle.q_model.specs.declared.rows.Place.TheVariants as places
use Rattle.std.proofs.Common.{ap}
use Rattle.std.specs.Prelude.{Bool, false}
use Rattle.q_lives.proofs.WorkedLives.{start}
use Rattle.q_model.specs.declared.outcome.SiteState.TheVariants.{Up}

-- the failure of its recipient
abbrev failed : Bool → Logged
failed firm = record { failure = record { position = 0; why = Refused; code = 550 }; firm = firm }

abbrev with_failed : Bool → Mark → Message
with_failed firm mark = record (one_to 1 mark places.Active) { failures = failed firm ∷ [] }

-- it is refused; the life is cut off as the failure is logged, and the failure is lost
abbrev losing : Life
losing = record { world = plain; mode = Deliver; items = at 1000 ∷ one_mail ∷ up 1 refused ∷ []; count = 8; steps = []; left = only 1 (one_to 1 marks.Unmarked places.Active ∷ []) }

-- it is refused once more; the life is cut off between its bounce and its end
abbrev bouncing : Life
bouncing = record { world = plain; mode = Deliver; items = at 2000 ∷ up 1 refused ∷ []; count = 12; steps = []; left = only 2 (with_failed true marks.Synced ∷ bounce_message 2000 (with_failed true marks.Synced) ∷ []) }

-- it leaves; what follows is cut off
abbrev leaving : Life
leaving = record { world = plain; mode = Deliver; items = at 3000 ∷ []; count = 4; steps = []; left = only 3 (bounce_message 2000 (with_failed true marks.Synced) ∷ []) }

abbrev three_lives : List Life
three_lives = losing ∷ bouncing ∷ leaving ∷ []

three_are_lives : AreLives empty_book three_lives
unfolding run_of run turn decisions decide after after_all next allowed
three_are_lives = (losing_is, (bouncing_is, (leaving_is, tt)))
  where
    losing_is : IsLife empty_book losing
    losing_is = record {
      usable = plain_usable;
      fits = (refl, (refl, (refl, (refl, tt))));
      left = record {
        end = only 1 (with_failed false marks.Unmarked ∷ []);
        ends = inr refl;
        may = refl;
        worked = only 1 (with_failed false marks.Unmarked ∷ []);
        works = inl refl;
        leaves = inr (record {
          generation = refl;
          damaged = refl;
          messages = (record { id = refl; version = refl; sender = refl; arrival = refl; content = refl; place = refl; recipients = (record { address = refl; original = refl; mark = refl }, tt); failures = inr (refl, refl) }, tt);
        });
      };
    }

    bouncing_is : IsLife (only 1 (one_to 1 marks.Unmarked places.Active ∷ [])) bouncing
    bouncing_is = record { usable = plain_usable; fits = (refl, (refl, (refl, tt))); left = record { end = bouncing.left; ends = inl refl; may = refl; worked = bouncing.left; works = inl refl; leaves = inl refl } }

    leaving_is : IsLife bouncing.left leaving
    leaving_is = record { usable = plain_usable; fits = (refl, (refl, tt)); left = record { end = leaving.left; ends = inl refl; may = refl; worked = leaving.left; works = inl refl; leaves = inl refl } }

-- its trace
three_trace : trace empty_book three_lives ≡
    entries.Life 1 Deliver ∷ entries.At 1000 ∷ entries.Arrive (id 1) (one_to 1 marks.Unmarked places.Active).sender (plain_receiver ∷ []) [] ∷ entries.Admit (id 1) ∷ entries.Load (id 1) 0 1 ∷ start ∷ entries.Reply 1 Up refused
    ∷ entries.Log (id 1) (failed true).failure
    ∷ entries.Life 2 Deliver ∷ entries.At 2000 ∷ entries.Sync (id 1) ∷ entries.Back (id 1) ∷ entries.Admit (id 1) ∷ entries.Load (id 1) 0 1 ∷ start ∷ entries.Reply 1 Up refused
    ∷ entries.Log (id 1) (failed true).failure ∷ entries.Mark (id 1) 0 ∷ entries.Sync (id 1) ∷ entries.Bounce (id 1)
    ∷ entries.Life 3 Deliver ∷ entries.At 3000 ∷ entries.Sync (id 1) ∷ entries.Remove (id 1)
    ∷ []
unfolding run_of run turn decisions decide after after_all next
three_trace = refl

-- it wants a bounce, and had one in all lives
wanted : wants_bounce (with_failed true marks.Synced) ≡ true
wanted = refl

had_one : bounces empty_book (id 1) (trace empty_book three_lives) ≡ 1
had_one = ap (bounces empty_book (id 1)) three_trace

-- and the law speaks of it
bounced_throughout : BouncedThroughout empty_book [] empty_book three_lives
bounced_throughout = all_bounced empty_book three_lives empty_orderly three_are_lives
