-- Worked runs in which sites die, revive and widen their windows.
use Rattle.q_model.proofs.RowWords.{at, down, lines, mail, many, same_domain, told_from, up, ups}
use Rattle.q_model.specs.IdTexts.{hex}
use Rattle.q_model.specs.Next.{next}
use Rattle.q_model.specs.Run.{decide, decisions, run, run_of, turn}
use Rattle.q_model.specs.Settings.{defaults}
use Rattle.q_model.specs.Step.{after, after_all}
use Rattle.q_model.specs.Text.{line, text}
use Rattle.q_model.specs.declared.event.LifeEvent.TheVariants.{Finish, Heard}
use Rattle.std.proofs.Common.{refl}
use Rattle.std.specs.Fmt.{digits}
use Rattle.std.specs.Prelude.{[], codes, true, ◌++◌, ◌∷◌, ◌≡◌}
use Rattle.q_model.specs.declared.event.Event.TheVariants as events
use Rattle.q_model.specs.declared.outcome.Outcome.TheVariants as outcomes
use Rattle.q_model.specs.declared.event.Trigger.TheVariants as triggers

-- four failures at a site make it dead, and what waits there is put off
site_dies : told_from 10 (record defaults { entry_limit = 1 }) (at 1000 ∷ mail (codes "a@x.example") (many 8 0 same_domain) ∷ down 1 (outcomes.Later 0 ∷ []) ∷ down 2 (outcomes.Later 0 ∷ []) ∷ down 3 (outcomes.Later 0 ∷ []) ∷ down 4 (outcomes.Later 0 ∷ []) ∷ Finish ∷ []) ≡ lines (
    codes "reply 1 down later"
    ∷ codes "reply 2 down later"
    ∷ codes "reply 3 down later"
    ∷ codes "reply 4 down later"
    ∷ codes "skip 00000001-00000001 smtp y.example 5"
    ∷ codes "skip 00000001-00000001 smtp y.example 6"
    ∷ codes "skip 00000001-00000001 smtp y.example 7"
    ∷ codes "end"
    ∷ [])
unfolding run_of text run turn decisions decide after after_all next line digits hex
site_dies = refl

-- a success of an earlier delivery revives it
site_revives : told_from 10 (record defaults { entry_limit = 1 }) (at 1000 ∷ mail (codes "a@x.example") (many 8 0 same_domain) ∷ down 1 (outcomes.Later 0 ∷ []) ∷ down 2 (outcomes.Later 0 ∷ []) ∷ down 3 (outcomes.Later 0 ∷ []) ∷ down 4 (outcomes.Later 0 ∷ []) ∷ up 5 (outcomes.Ok ∷ []) ∷ Finish ∷ []) ≡ lines (
    codes "reply 1 down later"
    ∷ codes "reply 2 down later"
    ∷ codes "reply 3 down later"
    ∷ codes "reply 4 down later"
    ∷ codes "skip 00000001-00000001 smtp y.example 5"
    ∷ codes "skip 00000001-00000001 smtp y.example 6"
    ∷ codes "skip 00000001-00000001 smtp y.example 7"
    ∷ codes "reply 5 up ok"
    ∷ codes "mark 00000001-00000001 4"
    ∷ codes "sync 00000001-00000001"
    ∷ codes "defer 00000001-00000001 1300"
    ∷ codes "end"
    ∷ [])
unfolding run_of text run turn decisions decide after after_all next line digits hex
site_revives = refl

-- feedback by the window: five answers widen it by one
window_grows : told_from 10 (record defaults { entry_limit = 1; positive = record { numerator = 1; denominator = 1; by_window = true } }) (at 1000 ∷ mail (codes "a@x.example") (many 11 0 same_domain) ∷ ups 5 1 ++ Finish ∷ []) ≡ lines (
    codes "reply 1 up ok"
    ∷ codes "mark 00000001-00000001 0"
    ∷ codes "sync 00000001-00000001"
    ∷ codes "start 6 00000001-00000001 smtp y.example 5"
    ∷ codes "reply 2 up ok"
    ∷ codes "mark 00000001-00000001 1"
    ∷ codes "sync 00000001-00000001"
    ∷ codes "start 7 00000001-00000001 smtp y.example 6"
    ∷ codes "reply 3 up ok"
    ∷ codes "mark 00000001-00000001 2"
    ∷ codes "sync 00000001-00000001"
    ∷ codes "start 8 00000001-00000001 smtp y.example 7"
    ∷ codes "reply 4 up ok"
    ∷ codes "mark 00000001-00000001 3"
    ∷ codes "sync 00000001-00000001"
    ∷ codes "start 9 00000001-00000001 smtp y.example 8"
    ∷ codes "reply 5 up ok"
    ∷ codes "mark 00000001-00000001 4"
    ∷ codes "sync 00000001-00000001"
    ∷ codes "start 10 00000001-00000001 smtp y.example 9"
    ∷ codes "start 11 00000001-00000001 smtp y.example 10"
    ∷ codes "end"
    ∷ [])
unfolding run_of text run turn decisions decide after after_all next line digits hex
window_grows = refl

-- the trigger F: the site is alive with the window that its delivery fills
forgotten_dead_site : told_from 17 (record defaults { entry_limit = 1 }) (at 1000 ∷ mail (codes "a@x.example") (many 8 0 same_domain) ∷ down 1 (outcomes.Later 0 ∷ []) ∷ down 2 (outcomes.Later 0 ∷ []) ∷ down 3 (outcomes.Later 0 ∷ []) ∷ down 4 (outcomes.Later 0 ∷ []) ∷ Heard (events.Trigger triggers.F) ∷ mail (codes "a@x.example") (codes "s@y.example" ∷ []) ∷ Finish ∷ []) ≡ lines (
    codes "trigger F"
    ∷ codes "arrive 00000001-00000002 a@x.example 0 s@y.example"
    ∷ codes "admit 00000001-00000002"
    ∷ codes "load 00000001-00000002 0 1"
    ∷ codes "end"
    ∷ [])
unfolding run_of text run turn decisions decide after after_all next line digits hex
forgotten_dead_site = refl

-- without it the next message for the site is put off
remembered_dead_site : told_from 17 (record defaults { entry_limit = 1 }) (at 1000 ∷ mail (codes "a@x.example") (many 8 0 same_domain) ∷ down 1 (outcomes.Later 0 ∷ []) ∷ down 2 (outcomes.Later 0 ∷ []) ∷ down 3 (outcomes.Later 0 ∷ []) ∷ down 4 (outcomes.Later 0 ∷ []) ∷ mail (codes "a@x.example") (codes "s@y.example" ∷ []) ∷ Finish ∷ []) ≡ lines (
    codes "arrive 00000001-00000002 a@x.example 0 s@y.example"
    ∷ codes "admit 00000001-00000002"
    ∷ codes "load 00000001-00000002 0 1"
    ∷ codes "skip 00000001-00000002 smtp y.example 0"
    ∷ codes "defer 00000001-00000002 1300"
    ∷ codes "end"
    ∷ [])
unfolding run_of text run turn decisions decide after after_all next line digits hex
remembered_dead_site = refl
