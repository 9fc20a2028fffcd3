-- Worked runs with a delay between deliveries to a site.
use Rattle.q_model.proofs.RowWords.{at, lines, mail, told_from, up}
use Rattle.q_model.specs.IdTexts.{hex}
use Rattle.q_model.specs.Next.{next}
use Rattle.q_model.specs.Run.{decide, decisions, run, run_of, turn}
use Rattle.q_model.specs.Settings.{defaults, Settings}
use Rattle.q_model.specs.Step.{after, after_all}
use Rattle.q_model.specs.Text.{line, text}
use Rattle.q_model.specs.declared.event.LifeEvent.TheVariants.{Finish, Heard}
use Rattle.std.proofs.Common.{refl}
use Rattle.std.specs.Fmt.{digits}
use Rattle.std.specs.Prelude.{[], codes, ◌∷◌, ◌≡◌}
use Rattle.q_model.specs.declared.event.Event.TheVariants as events
use Rattle.q_model.specs.declared.event.Trigger.TheVariants as triggers
use Rattle.q_model.specs.declared.outcome.Outcome.TheVariants as outcomes

abbrev delayed : Settings
delayed = record defaults { rate_delay = 60 }

-- the site rests for 60 seconds after its delivery, and no longer
rests_at_site : told_from 1 delayed (at 1000 ∷ mail (codes "a@x.example") (codes "b@y.example" ∷ []) ∷ mail (codes "a@x.example") (codes "c@y.example" ∷ []) ∷ up 1 (outcomes.Ok ∷ []) ∷ at 1059 ∷ at 1060 ∷ Finish ∷ []) ≡ lines (
    codes "at 1000"
    ∷ codes "arrive 00000001-00000001 a@x.example 0 b@y.example"
    ∷ codes "admit 00000001-00000001"
    ∷ codes "load 00000001-00000001 0 1"
    ∷ codes "start 1 00000001-00000001 smtp y.example 0"
    ∷ codes "arrive 00000001-00000002 a@x.example 0 c@y.example"
    ∷ codes "admit 00000001-00000002"
    ∷ codes "load 00000001-00000002 0 1"
    ∷ codes "reply 1 up ok"
    ∷ codes "mark 00000001-00000001 0"
    ∷ codes "sync 00000001-00000001"
    ∷ codes "remove 00000001-00000001"
    ∷ codes "at 1059"
    ∷ codes "at 1060"
    ∷ codes "start 2 00000001-00000002 smtp y.example 0"
    ∷ codes "end"
    ∷ [])
unfolding run_of text run turn decisions decide after after_all next line digits hex
rests_at_site = refl

-- another site doesn't rest with it
other_site_goes_on : told_from 6 delayed (at 1000 ∷ mail (codes "a@x.example") (codes "b@y.example" ∷ []) ∷ mail (codes "a@x.example") (codes "c@z.example" ∷ []) ∷ up 1 (outcomes.Ok ∷ []) ∷ at 1059 ∷ at 1060 ∷ Finish ∷ []) ≡ lines (
    codes "arrive 00000001-00000002 a@x.example 0 c@z.example"
    ∷ codes "admit 00000001-00000002"
    ∷ codes "load 00000001-00000002 0 1"
    ∷ codes "start 2 00000001-00000002 smtp z.example 0"
    ∷ codes "reply 1 up ok"
    ∷ codes "mark 00000001-00000001 0"
    ∷ codes "sync 00000001-00000001"
    ∷ codes "remove 00000001-00000001"
    ∷ codes "at 1059"
    ∷ codes "at 1060"
    ∷ codes "end"
    ∷ [])
unfolding run_of text run turn decisions decide after after_all next line digits hex
other_site_goes_on = refl

-- the trigger F ends no rest
forgetting_ends_no_rest : told_from 9 delayed (at 1000 ∷ mail (codes "a@x.example") (codes "b@y.example" ∷ []) ∷ mail (codes "a@x.example") (codes "c@y.example" ∷ []) ∷ up 1 (outcomes.Ok ∷ []) ∷ Heard (events.Trigger triggers.F) ∷ Finish ∷ []) ≡ lines (
    codes "reply 1 up ok"
    ∷ codes "mark 00000001-00000001 0"
    ∷ codes "sync 00000001-00000001"
    ∷ codes "remove 00000001-00000001"
    ∷ codes "trigger F"
    ∷ codes "end"
    ∷ [])
unfolding run_of text run turn decisions decide after after_all next line digits hex
forgetting_ends_no_rest = refl

-- a message that comes while its site rests alone waits for the end of the rest
remembered_rest : told_from 10 delayed (at 1000 ∷ mail (codes "a@x.example") (codes "b@y.example" ∷ []) ∷ up 1 (outcomes.Ok ∷ []) ∷ mail (codes "a@x.example") (codes "c@y.example" ∷ []) ∷ at 1060 ∷ Finish ∷ []) ≡ lines (
    codes "arrive 00000001-00000002 a@x.example 0 c@y.example"
    ∷ codes "admit 00000001-00000002"
    ∷ codes "load 00000001-00000002 0 1"
    ∷ codes "at 1060"
    ∷ codes "start 2 00000001-00000002 smtp y.example 0"
    ∷ codes "end"
    ∷ [])
unfolding run_of text run turn decisions decide after after_all next line digits hex
remembered_rest = refl
