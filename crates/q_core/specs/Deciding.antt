-- The next decision, by what the core holds.
use Rattle.std.specs.Option.{option_or}
use Rattle.std.specs.Prelude.{◌≡◌, ◌<◌, ◌≤◌, ◌⊎◌, ◌^◌, ◌==◌, [], Bool, false, true, find, if◌then◌else◌, IsSome, List, None, not, Option, option_map, Some, ℕ}
use Rattle.q_model.specs.declared.entry.Entry.{Entry}
use Rattle.q_model.specs.declared.rows.Delivery.{Delivery}
use Rattle.q_model.specs.declared.rows.Scan.{Scan}
use Rattle.q_model.specs.Book.{damaged_of, message_of}
use Rattle.q_model.specs.FailureLog.{is_log_code}
use Rattle.q_model.specs.Ledger.{Ledger}
use Rattle.q_model.specs.declared.rows.Place.{Place}
use Rattle.q_model.specs.declared.rows.Place.TheVariants as places
use Rattle.q_core.specs.Queries.{flight_in}
use Rattle.q_model.specs.declared.entry.Entry.TheVariants as entries
use Rattle.q_model.specs.Next.{next}
use Rattle.q_model.specs.Settings.{World}
use Rattle.q_model.specs.Step.{after}
use Rattle.q_core.specs.Agrees.{Agrees, Matches, ForLedgers}
use Rattle.q_core.specs.Choosing.{next_start_in}
use Rattle.q_core.specs.Decisions.{IsOf, IsReadRule, IsRule}
use Rattle.q_core.specs.Leaving.{IsSkipNoted}
use Rattle.q_core.specs.Rules.{first_need_in, next_admission_in, next_clearing_in, next_finish_in, next_read_in, next_skip_in, next_sync_in}
use Rattle.q_core.specs.declared.decision.Decision.{Decision}
use Rattle.q_core.specs.declared.state.Core.{Core}
use Rattle.q_core.specs.declared.state.Question.{Question}
use Rattle.q_core.specs.declared.state.Question.TheVariants.{Active, Deferred, Incoming, Nothing, Recipients}
use Rattle.q_core.specs.declared.state.Seen.{Seen}
use Rattle.q_core.specs.declared.decision.Decision.TheVariants as decisions
use Rattle.q_core.specs.declared.state.Seen.TheVariants.{Known, Unknown}

-- the look at deferred that a scan wants
abbrev pub scan_look_of : Scan → Seen → Option Decision
scan_look_of scan Unknown = Some (decisions.LookDeferred scan.place scan.until)
scan_look_of scan (Known found) = None

-- a scan's next name is looked at before anything else is decided
abbrev pub scan_look_in : Seen → Option Scan → Option Decision
scan_look_in deferred None = None
scan_look_in deferred (Some scan) = scan_look_of scan deferred

-- the first of the last four rules
abbrev pub clearing_on : Core → Option Decision
clearing_on c = option_or (next_clearing_in c c.active)
    (option_or (next_admission_in c c.incoming) (option_or (next_read_in c) (next_start_in c)))

-- the first of the eight rules
abbrev pub first_rule_in : Core → Option Decision
first_rule_in c = option_or (first_need_in c)
    (option_or (next_sync_in c) (option_or (next_skip_in c) (option_or (next_finish_in c) (clearing_on c))))

-- before the first `at` of a life there is none
abbrev pub decide_in : Core → Option Decision
decide_in c = if not c.timed then None else option_or (scan_look_in c.deferred c.scan) (first_rule_in c)

-- a look, at what isn't known
abbrev pub IsLooking : Core → Option Decision → Type 0
IsLooking c d = ((d ≡ Some decisions.LookActive) × (c.active ≡ Unknown))
    ⊎ (((d ≡ Some decisions.LookIncoming) × (c.incoming ≡ Unknown))
    ⊎ ((scan : Scan) × (d ≡ Some (decisions.LookDeferred scan.place scan.until)) × (c.scan ≡ Some scan)
    × (c.deferred ≡ Unknown)))

-- the rule has the entry of the decision, which may be a read; or the decision is a look
abbrev pub IsNextDecision : World → Ledger → Core → Option Decision → Option Entry → Type 0
IsNextDecision w l c d rule = IsRule c d rule ⊎ (IsReadRule w l d rule ⊎ IsLooking c d)

-- The decision has an entry, the ledger's next, and the core says what the ledger is after it. Or it is a
-- look or a read, and the ledger is as it was.
abbrev pub IsApplied : World → Ledger → Core → Decision → Core → Type 0
IsApplied w l old d new = ((e : Entry) × IsOf old d e × (next w l ≡ Some e) × Matches w new (after w l e))
    ⊎ ((IsReadRule w l (Some d) (next w l) ⊎ IsLooking old (Some d)) × Matches w new l)

-- the same where there may be no decision; the core agrees with the ledger then
abbrev pub IsDecided : World → Ledger → Core → Option Decision → Core → Type 0
IsDecided w l old None new = (next w l ≡ None) × Agrees w new l
IsDecided w l old (Some d) new = ((e : Entry) × IsOf old d e × (next w l ≡ Some e) × Agrees w new (after w l e))
    ⊎ ((IsReadRule w l (Some d) (next w l) ⊎ IsLooking old (Some d)) × Agrees w new l)

-- a message that is admitted, and a damaged file that goes to corrupt, stand at the place of the decision
abbrev pub IsPlaced : Ledger → Option Decision → Type 0
IsPlaced l None = Unit {0}
IsPlaced l (Some (decisions.Admit id place)) = option_map (λ m. m.place) (message_of l.book id) ≡ Some place
IsPlaced l (Some (decisions.Corrupt id place)) = option_map (λ d. d.place) (damaged_of l.book id) ≡ Some place
IsPlaced l (Some _) = Unit {0}

-- a file is picked from here: incoming, or deferred by a due moment of 12 digits at most
abbrev pub IsPicked : Place → Type 0
IsPicked places.Incoming = Unit {0}
IsPicked places.Active = ⊥
IsPicked (places.Deferred due) = due < 10 ^ 12
IsPicked places.Hold = ⊥
IsPicked places.Corrupt = ⊥

-- a damaged file is found here: there, or in active
abbrev pub IsFoundDamaged : Place → Type 0
IsFoundDamaged places.Active = Unit {0}
IsFoundDamaged place = IsPicked place

-- A log can hold the code of a failure, and a name can tell a due moment and a place.
abbrev pub CanBeDone : Option Decision → Type 0
CanBeDone None = Unit {0}
CanBeDone (Some (decisions.Log id failure)) = is_log_code failure.code ≡ true
CanBeDone (Some (decisions.Defer id due)) = due < 10 ^ 12
CanBeDone (Some (decisions.Corrupt id place)) = IsFoundDamaged place
CanBeDone (Some (decisions.Admit id place)) = IsPicked place
CanBeDone (Some _) = Unit {0}

-- a delivery that starts is in flight with the positions of the ledger's entry
abbrev pub IsStartOf : World → Ledger → Option Decision → Core → Type 0
IsStartOf w l None c = Unit {0}
IsStartOf w l (Some (decisions.Start number id site)) c = (positions : List ℕ) → next w l ≡ Some
    (entries.Start number id site positions) →
    flight_in c number ≡ Some (record { number = number; row = record { id = id; site = site; positions = positions } })
IsStartOf w l (Some _) c = Unit {0}

-- a delivery that starts is one of these in flight
abbrev pub BeginsFlight : Option Decision → List Delivery → Type 0
BeginsFlight None flights = Unit {0}
BeginsFlight (Some (decisions.Start number id site)) flights =
    IsSome (find (λ f. f.number == number) flights)
BeginsFlight (Some _) flights = Unit {0}

-- a row that is put off is the last one, by its number and its positions
abbrev pub IsSkipOf : Core → Decision → Core → Type 0
IsSkipOf old (decisions.Skip id site entry) new = IsSkipNoted old id site entry new
IsSkipOf old _ new = Unit {0}

-- the same where there may be no decision
abbrev pub NotesSkip : Core → Option Decision → Core → Type 0
NotesSkip old None new = Unit {0}
NotesSkip old (Some d) new = IsSkipOf old d new

-- the core waits for no answer
abbrev pub is_answered : Question → Bool
is_answered Nothing = true
is_answered Active = false
is_answered Incoming = false
is_answered Deferred = false
is_answered (Recipients id from max) = false

-- what a look or a read asks for
abbrev pub question_of : Decision → Question
question_of decisions.LookActive = Active
question_of decisions.LookIncoming = Incoming
question_of (decisions.LookDeferred after until) = Deferred
question_of (decisions.Read id from max) = Recipients id from max
question_of _ = Nothing

abbrev pub question_for : Option Decision → Question
question_for None = Nothing
question_for (Some d) = question_of d

-- a read asks for one recipient at least
abbrev pub AsksSome : Question → Type 0
AsksSome Nothing = Unit {0}
AsksSome Active = Unit {0}
AsksSome Incoming = Unit {0}
AsksSome Deferred = Unit {0}
AsksSome (Recipients id from max) = 1 ≤ max

-- the core waits for the answer to a look
abbrev pub is_look : Question → Bool
is_look Nothing = false
is_look Active = true
is_look Incoming = true
is_look Deferred = true
is_look (Recipients id from max) = false

-- the core waits for recipients that are read
abbrev pub is_reading : Question → Bool
is_reading Nothing = false
is_reading Active = false
is_reading Incoming = false
is_reading Deferred = false
is_reading (Recipients id from max) = true

-- a look or a read
abbrev pub is_asking : Decision → Bool
is_asking (decisions.Read id from max) = true
is_asking decisions.LookActive = true
is_asking decisions.LookIncoming = true
is_asking (decisions.LookDeferred after until) = true
is_asking _ = false

-- Of every ledger with which the core agreed: the decision has its entry, and the core is applied to it.
abbrev pub Applies : Core → Decision → Core → Type 0
Applies old d new = ForLedgers old (λ w l. IsApplied w l old d new)

-- this holds where the decision is a look
abbrev pub AtLook : Option Decision → Type 0 → Type 0
AtLook d P = is_look (question_for d) ≡ true → P

-- this holds where it is a read
abbrev pub AtRead : Option Decision → Type 0 → Type 0
AtRead d P = is_reading (question_for d) ≡ true → P

-- by a look or a read nothing changes but what is asked, and nothing at all where there is no decision
abbrev pub AsksOnly : Core → Option Decision → Core → Type 0
AsksOnly old None new = new ≡ old
AsksOnly old (Some d) new = is_asking d ≡ true
    → new ≡ record old { question = question_of d; named = [] }
