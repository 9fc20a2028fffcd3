-- What was told grows by a turn, and stays the run of what it names.
use Rattle.std.proofs.Common.{◌≡◌, List, [], ◌∷◌, ◌++◌, map, sym, ap, ◌∙◌}
use Rattle.std.proofs.lemmas.Grind.{flat_map-append}
use Rattle.std.proofs.lemmas.List.{map-append}
use Rattle.q_listen.specs.Told.{IsOwnRun, event_of, events_of, mail_of, mails_told}
use Rattle.q_model.proofs.RunLaws.{run-turn}
use Rattle.q_model.specs.Ledger.{Ledger}
use Rattle.q_model.specs.Run.{run, turn}
use Rattle.q_model.specs.Settings.{World}
use Rattle.q_model.specs.Step.{after_all}
use Rattle.q_model.specs.declared.entry.Entry.{Entry}
use Rattle.q_model.specs.declared.event.Event.{Event}
use Rattle.q_model.specs.declared.event.LifeEvent.{LifeEvent}
use Rattle.q_model.specs.declared.event.LifeEvent.TheVariants.{Heard}

pub mails_added : (es fs : List Entry) → mails_told (es ++ fs) ≡ mails_told es ++ mails_told fs
mails_added es fs = flat_map-append mail_of es fs

pub heard_added : (es fs : List Entry) → map Heard (events_of (es ++ fs)) ≡ map Heard (events_of es) ++ map Heard (events_of fs)
heard_added es fs = ap (λ (xs : List Event). map Heard xs) (flat_map-append event_of es fs) ∙ map-append Heard (events_of es) (events_of fs)

-- the turn of an event that names that event alone is added
pub run_longer : (w : World) (l : Ledger) (told : List Entry) (event : Event) → IsOwnRun w l told → events_of (turn w (after_all w l told) (Heard event)) ≡ event ∷ []
    → IsOwnRun w l (told ++ turn w (after_all w l told) (Heard event))
run_longer w l told event is one =
    let es : List Entry = turn w (after_all w l told) (Heard event) in
    let heard : List LifeEvent = map Heard (events_of told) in
    let own : map Heard (events_of (told ++ es)) ≡ heard ++ Heard event ∷ [] = heard_added told es ∙ ap (λ (xs : List Event). heard ++ map Heard xs) one in
    ap (λ (xs : List Entry). xs ++ es) is
    ∙ ap (λ (xs : List Entry). run w l heard ++ turn w (after_all w l xs) (Heard event)) is
    ∙ sym (run-turn w l heard (Heard event))
    ∙ ap (λ (xs : List LifeEvent). run w l xs) (sym own)
