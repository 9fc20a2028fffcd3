-- The ledger of a life counts the messages that its entries name.
use Rattle.std.proofs.Common.{◌≡◌, ◌+◌, false, if◌then◌else◌, List, [], ◌∷◌, length, length-append, refl, ap, ◌∙◌, arith}
use Rattle.std.proofs.lemmas.List.Sums.{sum_by-cons}
use Rattle.std.specs.Prelude.{count_by}
use Rattle.q_drain.proofs.Silent.{AreInside, decisions_inside}
use Rattle.q_engine.proofs.Counting.{after_past}
use Rattle.q_listen.specs.Told.{mail_of, mails_told}
use Rattle.q_lives.proofs.Books.{after_is}
use Rattle.q_model.specs.Book.{Book}
use Rattle.q_model.specs.Ledger.{Ledger, opening}
use Rattle.q_model.specs.Past.{arrivals, is_arrive, is_life}
use Rattle.q_model.specs.Run.{decisions, event_entry, turn}
use Rattle.q_model.specs.Settings.{World}
use Rattle.q_model.specs.Step.{after, after_all}
use Rattle.q_model.specs.declared.entry.Entry.{Entry}
use Rattle.q_model.specs.declared.entry.Entry.TheVariants as entries
use Rattle.q_model.specs.declared.event.Event.{Event}
use Rattle.q_model.specs.declared.event.Event.TheVariants as events
use Rattle.q_model.specs.declared.event.LifeEvent.TheVariants.{Heard}
use Rattle.q_model.specs.declared.event.Mode.TheVariants.{Intake}

-- an entry names a message where it counts as an arrival
names_one : (e : Entry) → length (mail_of e) ≡ (if is_arrive e then 1 else 0)
names_one entries.End = refl
names_one (entries.Life generation mode) = refl
names_one (entries.At now) = refl
names_one (entries.Arrive id sender to content) = refl
names_one (entries.Reply number site os) = refl
names_one (entries.Trigger kind) = refl
names_one (entries.Start number id site positions) = refl
names_one (entries.Back id) = refl
names_one (entries.Admit id) = refl
names_one (entries.Load id from to) = refl
names_one (entries.Preempt child parent transport need) = refl
names_one (entries.Skip id site positions) = refl
names_one (entries.Log id failure) = refl
names_one (entries.Mark id position) = refl
names_one (entries.Sync id) = refl
names_one (entries.Defer id due) = refl
names_one (entries.Bounce id) = refl
names_one (entries.Remove id) = refl
names_one (entries.Corrupt id) = refl

counted : (e : Entry) (es : List Entry) → count_by is_arrive (e ∷ es) ≡ count_by is_arrive es + length (mail_of e)
counted e es =
    let step = sum_by-cons (λ x. if is_arrive x then 1 else 0) e es in
    let one = names_one e in
    omega (arith, step, one)

entry_arrivals : (w : World) (l : Ledger) (e : Entry) → is_life e ≡ false → arrivals (after w l e) ≡ arrivals l + length (mail_of e)
entry_arrivals w l e h = ap (count_by is_arrive) (after_past w l e h) ∙ counted e l.past

inside_arrivals : (w : World) (l : Ledger) (es : List Entry) → AreInside es → arrivals (after_all w l es) ≡ arrivals l + length (mails_told es)
unfolding after_all
inside_arrivals w l [] h = omega arith
inside_arrivals w l (e ∷ es) h =
    let rest = inside_arrivals w (after w l e) es h.1 in
    let one = entry_arrivals w l e h.0.life in
    let all = length-append (mail_of e) (mails_told es) in
    omega (arith, rest, one, all)

-- an entry from outside that begins no life, and what follows it
behind_arrivals : (w : World) (l : Ledger) (e : Entry) → is_life e ≡ false → arrivals (after_all w l (e ∷ decisions w (after w l e))) ≡ arrivals l + length (mails_told (e ∷ decisions w (after w l e)))
unfolding after_all
behind_arrivals w l e h =
    let m = after w l e in
    let rest = inside_arrivals w m (decisions w m) (decisions_inside w m) in
    let one = entry_arrivals w l e h in
    let all = length-append (mail_of e) (mails_told (decisions w m)) in
    omega (arith, rest, one, all)

begins_no_life : (l : Ledger) (event : Event) → is_life (event_entry l event) ≡ false
begins_no_life l (events.At t) = refl
begins_no_life l (events.Mail sender to content) = refl
begins_no_life l (events.Reply number state os) = refl
begins_no_life l (events.Trigger kind) = refl

heard_turn : (w : World) (l : Ledger) (event : Event) → turn w l (Heard event) ≡ event_entry l event ∷ decisions w (after w l (event_entry l event))
unfolding turn
heard_turn w l event = refl

-- the turn of an event
pub turn_arrivals : (w : World) (l : Ledger) (event : Event) → arrivals (after_all w l (turn w l (Heard event))) ≡ arrivals l + length (mails_told (turn w l (Heard event)))
turn_arrivals w l event = rw (heard_turn w l event) (behind_arrivals w l (event_entry l event) (begins_no_life l event))

-- none came before a life
pub life_arrivals : (w : World) (b : Book) → arrivals (after w (opening Intake b) (entries.Life (b.generation + 1) Intake)) ≡ 0
life_arrivals w b =
    let e : Entry = entries.Life (b.generation + 1) Intake in
    let past : (after w (opening Intake b) e).past ≡ e ∷ [] = (after_is w (opening Intake b) e).past in
    ap (count_by is_arrive) past ∙ counted e []
