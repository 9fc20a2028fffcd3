-- Worked lists of lives: the laws speak of lives that there are.
use Rattle.std.proofs.Common.{◌≡◌, ℕ, true, List, [], ◌∷◌, ◌++◌, drop, Some, inl, inr, refl, arith}
use Rattle.std.specs.Prelude.{None, codes}
use Rattle.q_laws.specs.Consistency.{IsUsable}
use Rattle.q_lives.proofs.RepeatLives.{all_repeat}
use Rattle.q_lives.specs.Causes.{IsReported}
use Rattle.q_lives.specs.Lives.{AreLives, IsLife, IsOrderly, Life, trace}
use Rattle.q_lives.specs.Repeats.{IsUnsynced, names}
use Rattle.q_model.proofs.RowWords.{at, id, mail, one_to, up}
use Rattle.q_model.specs.Book.{Book, empty_book}
use Rattle.q_model.specs.Message.{Message}
use Rattle.q_model.specs.Next.{next}
use Rattle.q_model.specs.Routes.{world_without_table}
use Rattle.q_model.specs.Run.{decide, decisions, run, run_of, turn}
use Rattle.q_model.specs.Settings.{World, defaults}
use Rattle.q_model.specs.Step.{after, after_all, allowed}
use Rattle.q_model.specs.Values.{Receiver, Site}
use Rattle.q_model.specs.declared.entry.Entry.{Entry}
use Rattle.q_model.specs.declared.event.LifeEvent.{LifeEvent}
use Rattle.q_model.specs.declared.event.LifeEvent.TheVariants.{Finish}
use Rattle.q_model.specs.declared.event.Mode.TheVariants.{Deliver}
use Rattle.q_model.specs.declared.outcome.Outcome.{Outcome}
use Rattle.q_model.specs.declared.outcome.SiteState.TheVariants.{Up}
use Rattle.q_model.specs.declared.entry.Entry.TheVariants as entries
use Rattle.q_model.specs.declared.outcome.Outcome.TheVariants as outcomes
use Rattle.q_model.specs.declared.rows.Mark.TheVariants as marks
use Rattle.q_model.specs.declared.rows.Place.TheVariants as places

abbrev pub plain_receiver : Receiver
plain_receiver = record { address = codes "b@y.example"; original = None }

-- an empty spool may be begun with
pub empty_orderly : IsOrderly empty_book
empty_orderly = record { distinct = refl; orderly = refl }

abbrev pub plain : World
plain = world_without_table defaults

pub plain_usable : IsUsable plain
plain_usable = record { recipient_minimum = omega arith; mark_sync_limit = omega arith }

abbrev pub ok : List Outcome
ok = outcomes.Ok ∷ []

abbrev pub refused : List Outcome
refused = outcomes.Never 550 ∷ []

abbrev pub one_mail : LifeEvent
one_mail = mail (codes "a@x.example") (codes "b@y.example" ∷ [])

abbrev there : Site
there = record { transport = 0; hop = codes "y.example" }

abbrev pub only : ℕ → List Message → Book
only generation messages = record { generation = generation; messages = messages; damaged = [] }

-- ---- a recipient is repeated

-- a delivery is reported, and its mark is lost: the life is cut off before it is synced
abbrev delivered : Life
delivered = record { world = plain; mode = Deliver; items = at 1000 ∷ one_mail ∷ up 1 ok ∷ []; count = 8; steps = []; left = only 1 (one_to 1 marks.Unmarked places.Active ∷ []) }

-- the next life delivers once more, and ends as asked
abbrev again : Life
again = record { world = plain; mode = Deliver; items = at 2000 ∷ up 1 ok ∷ Finish ∷ []; count = 12; steps = []; left = only 2 [] }

abbrev two_lives : List Life
two_lives = delivered ∷ again ∷ []

two_are_lives : AreLives empty_book two_lives
unfolding run_of run turn decisions decide after after_all next allowed
two_are_lives = (delivered_is, (again_is, tt))
  where
    delivered_is : IsLife empty_book delivered
    delivered_is = record {
      usable = plain_usable;
      fits = (refl, (refl, (refl, (refl, tt))));
      left = record {
        end = only 1 (one_to 1 marks.Written places.Active ∷ []);
        ends = inl refl;
        may = refl;
        worked = only 1 (one_to 1 marks.Written places.Active ∷ []);
        works = inl refl;
        leaves = inr (record {
          generation = refl;
          damaged = refl;
          messages = (record { id = refl; version = refl; sender = refl; arrival = refl; content = refl; place = refl; recipients = (record { address = refl; original = refl; mark = inl refl }, tt); failures = refl }, tt);
        });
      };
    }

    again_is : IsLife (only 1 (one_to 1 marks.Unmarked places.Active ∷ [])) again
    again_is = record { usable = plain_usable; fits = (refl, (refl, (refl, (refl, tt)))); left = record { end = only 2 []; ends = inl refl; may = refl; worked = only 2 []; works = inl refl; leaves = inl refl } }

-- the trace, in which the second life starts the recipient that the first one reported delivered
abbrev pub start : Entry
start = entries.Start 1 (id 1) there (0 ∷ [])

abbrev meanwhile : List Entry
meanwhile = entries.Mark (id 1) 0 ∷ entries.Life 2 Deliver ∷ entries.At 2000 ∷ entries.Sync (id 1) ∷ entries.Back (id 1) ∷ entries.Admit (id 1) ∷ entries.Load (id 1) 0 1 ∷ []

abbrev before : List Entry
before = entries.Life 1 Deliver ∷ entries.At 1000 ∷ entries.Arrive (id 1) (Some (codes "a@x.example")) (plain_receiver ∷ []) [] ∷ entries.Admit (id 1) ∷ entries.Load (id 1) 0 1 ∷ []

abbrev later : List Entry
later = entries.Reply 1 Up ok ∷ entries.Mark (id 1) 0 ∷ entries.Sync (id 1) ∷ entries.Remove (id 1) ∷ entries.End ∷ []

repeated_trace : trace empty_book two_lives ≡ before ++ (start ∷ (entries.Reply 1 Up ok ∷ (meanwhile ++ (start ∷ later))))
unfolding run_of run turn decisions decide after after_all next
repeated_trace = refl

repeated : IsReported (id 1) 0 (trace empty_book two_lives) (meanwhile ++ (start ∷ later))
repeated = record { before = before; between = []; number = 1; site = there; positions = 0 ∷ []; state = Up; outcomes = ok; entries = repeated_trace; same_life = refl; ok = refl }

repeated_named : names 0 (0 ∷ []) ≡ true
repeated_named = refl

-- so the law on repeats speaks of it
repeated_unsynced : IsUnsynced (id 1) 0 meanwhile
repeated_unsynced = all_repeat empty_book two_lives empty_orderly two_are_lives (id 1) 0 meanwhile later 1 there (0 ∷ []) repeated repeated_named

-- its mark was written: only a synced one keeps a recipient from being repeated
repeated_written : meanwhile ≡ [] ++ (entries.Mark (id 1) 0 ∷ drop 1 meanwhile)
repeated_written = refl
