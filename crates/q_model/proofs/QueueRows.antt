-- Worked runs of queues that alternate, batches, scans and what a crash left, and worked texts and times.
use Rattle.q_model.proofs.RowWords.{at, id, lines, mail, many, one_to, same_domain, told_from, up}
use Rattle.q_model.specs.Feedbacks.{amount}
use Rattle.q_model.specs.IdTexts.{hex}
use Rattle.q_model.specs.Message.{Message}
use Rattle.q_model.specs.Next.{next}
use Rattle.q_model.specs.Notices.{notice}
use Rattle.q_model.specs.Routes.{no_table, world_without_table}
use Rattle.q_model.specs.Run.{decide, decisions, run, run_of, turn}
use Rattle.q_model.specs.Settings.{defaults}
use Rattle.q_model.specs.Step.{after, after_all}
use Rattle.q_model.specs.Text.{line, text}
use Rattle.q_model.specs.Times.{due}
use Rattle.q_model.specs.declared.event.LifeEvent.TheVariants.{Finish, Heard}
use Rattle.q_model.specs.declared.event.Mode.TheVariants.{Deliver}
use Rattle.q_model.specs.declared.outcome.Why.TheVariants.{Refused}
use Rattle.std.proofs.Common.{refl}
use Rattle.std.specs.Fmt.{digits}
use Rattle.std.specs.Prelude.{[], codes, length, replicate, true, ◌∷◌, ◌≡◌}
use Rattle.q_model.specs.declared.event.Event.TheVariants as events
use Rattle.q_model.specs.declared.rows.Mark.TheVariants as marks
use Rattle.q_model.specs.declared.outcome.Outcome.TheVariants as outcomes
use Rattle.q_model.specs.declared.rows.Place.TheVariants as places
use Rattle.q_model.specs.declared.event.Trigger.TheVariants as triggers

-- one recipient was refused
abbrev refused_one : Message
refused_one = record (one_to 1 marks.Synced places.Active) { failures = record { failure = record { position = 0; why = Refused; code = 550 }; firm = true } ∷ [] }

-- incoming and deferred alternate
alternation : told_from 2 (record defaults { active_limit = 1 }) (at 1000 ∷ mail (codes "a@x.example") (codes "a@y.example" ∷ []) ∷ up 1 (outcomes.Later 0 ∷ []) ∷ mail (codes "a@x.example") (codes "b@y.example" ∷ []) ∷ mail (codes "a@x.example") (codes "c@y.example" ∷ []) ∷ mail (codes "a@x.example") (codes "d@y.example" ∷ []) ∷ at 1300 ∷ up 2 (outcomes.Ok ∷ []) ∷ up 3 (outcomes.Ok ∷ []) ∷ up 4 (outcomes.Ok ∷ []) ∷ Finish ∷ []) ≡ lines (
    codes "arrive 00000001-00000001 a@x.example 0 a@y.example"
    ∷ codes "admit 00000001-00000001"
    ∷ codes "load 00000001-00000001 0 1"
    ∷ codes "start 1 00000001-00000001 smtp y.example 0"
    ∷ codes "reply 1 up later"
    ∷ codes "defer 00000001-00000001 1300"
    ∷ codes "arrive 00000001-00000002 a@x.example 0 b@y.example"
    ∷ codes "admit 00000001-00000002"
    ∷ codes "load 00000001-00000002 0 1"
    ∷ codes "start 2 00000001-00000002 smtp y.example 0"
    ∷ codes "arrive 00000001-00000003 a@x.example 0 c@y.example"
    ∷ codes "arrive 00000001-00000004 a@x.example 0 d@y.example"
    ∷ codes "at 1300"
    ∷ codes "reply 2 up ok"
    ∷ codes "mark 00000001-00000002 0"
    ∷ codes "sync 00000001-00000002"
    ∷ codes "remove 00000001-00000002"
    ∷ codes "admit 00000001-00000001"
    ∷ codes "load 00000001-00000001 0 1"
    ∷ codes "start 3 00000001-00000001 smtp y.example 0"
    ∷ codes "reply 3 up ok"
    ∷ codes "mark 00000001-00000001 0"
    ∷ codes "sync 00000001-00000001"
    ∷ codes "remove 00000001-00000001"
    ∷ codes "admit 00000001-00000003"
    ∷ codes "load 00000001-00000003 0 1"
    ∷ codes "start 4 00000001-00000003 smtp y.example 0"
    ∷ codes "reply 4 up ok"
    ∷ codes "mark 00000001-00000003 0"
    ∷ codes "sync 00000001-00000003"
    ∷ codes "remove 00000001-00000003"
    ∷ codes "admit 00000001-00000004"
    ∷ codes "load 00000001-00000004 0 1"
    ∷ codes "start 5 00000001-00000004 smtp y.example 0"
    ∷ codes "end"
    ∷ [])
unfolding run_of text run turn decisions decide after after_all next line digits hex
alternation = refl

-- a long list is read as far as there is room
loads_in_batches : told_from 32 (record defaults { recipient_limit = 10 }) (at 1000 ∷ mail (codes "a@x.example") (many 25 0 same_domain) ∷ up 1 (replicate 10 outcomes.Ok) ∷ up 2 (replicate 10 outcomes.Ok) ∷ Finish ∷ []) ≡ lines (
    codes "load 00000001-00000001 20 25"
    ∷ codes "start 3 00000001-00000001 smtp y.example 20 21 22 23 24"
    ∷ codes "end"
    ∷ [])
unfolding run_of text run turn decisions decide after after_all next line digits hex
loads_in_batches = refl

-- a scan that takes all, and is over when it has given its one message
triggers_A_and_D : told_from 8 defaults (at 1000 ∷ mail (codes "a@x.example") (codes "b@y.example" ∷ []) ∷ up 1 (outcomes.Later 0 ∷ []) ∷ Heard (events.Trigger triggers.A) ∷ Heard (events.Trigger triggers.D) ∷ at 1001 ∷ up 2 (outcomes.Later 0 ∷ []) ∷ Finish ∷ []) ≡ lines (
    codes "trigger A"
    ∷ codes "trigger D"
    ∷ codes "admit 00000001-00000001"
    ∷ codes "load 00000001-00000001 0 1"
    ∷ codes "start 2 00000001-00000001 smtp y.example 0"
    ∷ codes "at 1001"
    ∷ codes "reply 2 up later"
    ∷ codes "defer 00000001-00000001 1301"
    ∷ codes "end"
    ∷ [])
unfolding run_of text run turn decisions decide after after_all next line digits hex
triggers_A_and_D = refl

-- a crash that lost the mark: the message is sent again
mark_lost_in_a_crash : text no_table (run_of (world_without_table defaults) Deliver (record { generation = 1; messages = one_to 1 marks.Unmarked places.Active ∷ []; damaged = [] }) (at 2000 ∷ Finish ∷ [])) ≡ lines (
    codes "life 2"
    ∷ codes "at 2000"
    ∷ codes "sync 00000001-00000001"
    ∷ codes "back 00000001-00000001"
    ∷ codes "admit 00000001-00000001"
    ∷ codes "load 00000001-00000001 0 1"
    ∷ codes "start 1 00000001-00000001 smtp y.example 0"
    ∷ codes "end"
    ∷ [])
unfolding run_of text run turn decisions decide after after_all next line digits hex
mark_lost_in_a_crash = refl

-- a crash that kept the mark: the message is only removed
mark_kept_in_a_crash : text no_table (run_of (world_without_table defaults) Deliver (record { generation = 1; messages = one_to 1 marks.Synced places.Active ∷ []; damaged = [] }) (at 2000 ∷ Finish ∷ [])) ≡ lines (
    codes "life 2"
    ∷ codes "at 2000"
    ∷ codes "sync 00000001-00000001"
    ∷ codes "remove 00000001-00000001"
    ∷ codes "end"
    ∷ [])
unfolding run_of text run turn decisions decide after after_all next line digits hex
mark_kept_in_a_crash = refl

-- a damaged file goes to corrupt, and the next is picked
damaged_file : text no_table (run_of (world_without_table defaults) Deliver (record { generation = 1; messages = one_to 2 marks.Unmarked places.Incoming ∷ []; damaged = record { id = id 1; place = places.Incoming } ∷ [] }) (at 2000 ∷ Finish ∷ [])) ≡ lines (
    codes "life 2"
    ∷ codes "at 2000"
    ∷ codes "corrupt 00000001-00000001"
    ∷ codes "admit 00000001-00000002"
    ∷ codes "load 00000001-00000002 0 1"
    ∷ codes "start 1 00000001-00000002 smtp y.example 0"
    ∷ codes "end"
    ∷ [])
unfolding run_of text run turn decisions decide after after_all next line digits hex
damaged_file = refl

-- the notice of one refused recipient
notice_of_a_refusal : notice refused_one ≡ lines (
    codes "From: MAILER-DAEMON" ∷ codes "To: a@x.example" ∷ codes "Subject: Undelivered Mail Returned to Sender" ∷ []
    ∷ codes "These recipients of message 00000001-00000001 were not reached:" ∷ [] ∷ codes "b@y.example: refused 550" ∷ []
    ∷ codes "The message had 0 bytes. Its first 0 bytes follow." ∷ [] ∷ [])
unfolding digits hex
notice_of_a_refusal = refl

-- it has 225 bytes
notice_length : length (notice refused_one) ≡ 225
unfolding digits hex
notice_length = refl

-- feedback by the window at window 5
feedback_amount : amount (record { numerator = 1; denominator = 1; by_window = true }) 5 ≡ 1068586291412640
feedback_amount = refl

-- the delay about doubles the age, until it reaches the greatest
due_times : (due (world_without_table defaults) 1000 refused_one ≡ 1300) × (due (world_without_table defaults) 1301 refused_one ≡ 1602) × (due (world_without_table defaults) 11000 refused_one ≡ 15000)
due_times = (refl, refl, refl)
