-- Worked runs of one message.
use Rattle.q_model.proofs.RowWords.{at, lines, mail, told, up}
use Rattle.q_model.specs.IdTexts.{hex}
use Rattle.q_model.specs.Next.{next}
use Rattle.q_model.specs.Run.{decide, decisions, run, run_of, turn}
use Rattle.q_model.specs.Settings.{defaults}
use Rattle.q_model.specs.Step.{after, after_all}
use Rattle.q_model.specs.Text.{line, text}
use Rattle.q_model.specs.declared.event.LifeEvent.TheVariants.{Begin, Finish}
use Rattle.std.proofs.Common.{refl}
use Rattle.std.specs.Fmt.{digits}
use Rattle.std.specs.Prelude.{[], codes, ◌∷◌, ◌≡◌}
use Rattle.q_model.specs.declared.outcome.Outcome.TheVariants as outcomes

-- one message is delivered, and the spool is empty again
one_message : told defaults (at 1000 ∷ mail (codes "a@x.example") (codes "b@y.example" ∷ []) ∷ up 1 (outcomes.Ok ∷ []) ∷ Finish ∷ []) ≡ lines (
    codes "life 1"
    ∷ codes "at 1000"
    ∷ codes "arrive 00000001-00000001 a@x.example 0 b@y.example"
    ∷ codes "admit 00000001-00000001"
    ∷ codes "load 00000001-00000001 0 1"
    ∷ codes "start 1 00000001-00000001 smtp y.example 0"
    ∷ codes "reply 1 up ok"
    ∷ codes "mark 00000001-00000001 0"
    ∷ codes "sync 00000001-00000001"
    ∷ codes "remove 00000001-00000001"
    ∷ codes "end"
    ∷ [])
unfolding run_of text run turn decisions decide after after_all next line digits hex
one_message = refl

-- a life in which nothing comes
nothing_came : told defaults (Finish ∷ []) ≡ lines (
    codes "life 1"
    ∷ codes "end"
    ∷ [])
unfolding run_of text run turn decisions decide after after_all next line digits hex
nothing_came = refl

-- a recipient is put off: the message is due again after the least back-off
one_delay : told defaults (at 1000 ∷ mail (codes "a@x.example") (codes "b@y.example" ∷ []) ∷ up 1 (outcomes.Later 0 ∷ []) ∷ Finish ∷ []) ≡ lines (
    codes "life 1"
    ∷ codes "at 1000"
    ∷ codes "arrive 00000001-00000001 a@x.example 0 b@y.example"
    ∷ codes "admit 00000001-00000001"
    ∷ codes "load 00000001-00000001 0 1"
    ∷ codes "start 1 00000001-00000001 smtp y.example 0"
    ∷ codes "reply 1 up later"
    ∷ codes "defer 00000001-00000001 1300"
    ∷ codes "end"
    ∷ [])
unfolding run_of text run turn decisions decide after after_all next line digits hex
one_delay = refl

-- an old message is put off for the greatest back-off
back_off_of_the_greatest : told defaults (at 1000 ∷ mail (codes "a@x.example") (codes "b@y.example" ∷ []) ∷ at 11000 ∷ up 1 (outcomes.Later 0 ∷ []) ∷ Finish ∷ []) ≡ lines (
    codes "life 1"
    ∷ codes "at 1000"
    ∷ codes "arrive 00000001-00000001 a@x.example 0 b@y.example"
    ∷ codes "admit 00000001-00000001"
    ∷ codes "load 00000001-00000001 0 1"
    ∷ codes "start 1 00000001-00000001 smtp y.example 0"
    ∷ codes "at 11000"
    ∷ codes "reply 1 up later"
    ∷ codes "defer 00000001-00000001 15000"
    ∷ codes "end"
    ∷ [])
unfolding run_of text run turn decisions decide after after_all next line digits hex
back_off_of_the_greatest = refl

-- a refused recipient, the notice to its sender, and a notice that is refused itself
refused_and_bounced : told defaults (at 1000 ∷ mail (codes "a@x.example") (codes "b@y.example" ∷ []) ∷ up 1 (outcomes.Never 550 ∷ []) ∷ up 2 (outcomes.Never 550 ∷ []) ∷ Finish ∷ []) ≡ lines (
    codes "life 1"
    ∷ codes "at 1000"
    ∷ codes "arrive 00000001-00000001 a@x.example 0 b@y.example"
    ∷ codes "admit 00000001-00000001"
    ∷ codes "load 00000001-00000001 0 1"
    ∷ codes "start 1 00000001-00000001 smtp y.example 0"
    ∷ codes "reply 1 up never:550"
    ∷ codes "log 00000001-00000001 0 refused 550"
    ∷ codes "mark 00000001-00000001 0"
    ∷ codes "sync 00000001-00000001"
    ∷ codes "bounce 00000001-00000001"
    ∷ codes "remove 00000001-00000001"
    ∷ codes "admit 00000001-00000001b"
    ∷ codes "load 00000001-00000001b 0 1"
    ∷ codes "start 2 00000001-00000001b smtp x.example 0"
    ∷ codes "reply 2 up never:550"
    ∷ codes "log 00000001-00000001b 0 refused 550"
    ∷ codes "mark 00000001-00000001b 0"
    ∷ codes "sync 00000001-00000001b"
    ∷ codes "remove 00000001-00000001b"
    ∷ codes "end"
    ∷ [])
unfolding run_of text run turn decisions decide after after_all next line digits hex
refused_and_bounced = refl

-- a message that has reached its lifetime
expired : told defaults (at 1000 ∷ mail (codes "a@x.example") (codes "b@y.example" ∷ []) ∷ at 433000 ∷ up 1 (outcomes.Later 0 ∷ []) ∷ Finish ∷ []) ≡ lines (
    codes "life 1"
    ∷ codes "at 1000"
    ∷ codes "arrive 00000001-00000001 a@x.example 0 b@y.example"
    ∷ codes "admit 00000001-00000001"
    ∷ codes "load 00000001-00000001 0 1"
    ∷ codes "start 1 00000001-00000001 smtp y.example 0"
    ∷ codes "at 433000"
    ∷ codes "reply 1 up later"
    ∷ codes "log 00000001-00000001 0 expired 0"
    ∷ codes "mark 00000001-00000001 0"
    ∷ codes "sync 00000001-00000001"
    ∷ codes "bounce 00000001-00000001"
    ∷ codes "remove 00000001-00000001"
    ∷ codes "admit 00000001-00000001b"
    ∷ codes "load 00000001-00000001b 0 1"
    ∷ codes "start 2 00000001-00000001b smtp x.example 0"
    ∷ codes "end"
    ∷ [])
unfolding run_of text run turn decisions decide after after_all next line digits hex
expired = refl

-- a restart: what was in flight is sent again
restarted : told defaults (at 1000 ∷ mail (codes "a@x.example") (codes "b@y.example" ∷ []) ∷ Begin ∷ at 2000 ∷ Finish ∷ []) ≡ lines (
    codes "life 1"
    ∷ codes "at 1000"
    ∷ codes "arrive 00000001-00000001 a@x.example 0 b@y.example"
    ∷ codes "admit 00000001-00000001"
    ∷ codes "load 00000001-00000001 0 1"
    ∷ codes "start 1 00000001-00000001 smtp y.example 0"
    ∷ codes "life 2"
    ∷ codes "at 2000"
    ∷ codes "sync 00000001-00000001"
    ∷ codes "back 00000001-00000001"
    ∷ codes "admit 00000001-00000001"
    ∷ codes "load 00000001-00000001 0 1"
    ∷ codes "start 1 00000001-00000001 smtp y.example 0"
    ∷ codes "end"
    ∷ [])
unfolding run_of text run turn decisions decide after after_all next line digits hex
restarted = refl
