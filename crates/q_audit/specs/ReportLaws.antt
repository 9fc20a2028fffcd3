-- What holds of reports, and of what an audit keeps for them.
use Rattle.std.specs.List.{list_all, list_any}
use Rattle.std.specs.Prelude.{◌*◌, ◌++◌, ◌-◌, ◌^◌, ◌≡◌, ◌≢◌, [], Bool, List, map, min, nat_le, nat_lt, Some, true, ℕ, ◌∷◌}
use Rattle.q_audit.specs.Breaking.{IsBroken}
use Rattle.q_audit.specs.Delays.{Delay, delays, Preempted, preempted_by, recipients_of, was_preempted}
use Rattle.q_audit.specs.Tallied.{delay_of, is_of, job_by, job_with, jobs, with_opened}
use Rattle.q_fronts.specs.Fronts.{empty_at, IsFront}
use Rattle.q_laws.specs.Consistency.{IsUsable}
use Rattle.q_model.specs.declared.entry.Entry.{Entry}
use Rattle.q_model.specs.declared.id.Id.{Id}
use Rattle.q_model.specs.Ledger.{Ledger, opening}
use Rattle.q_model.specs.Settings.{World}
use Rattle.q_model.specs.Step.{after_all}

-- The front of a run has no broken entry.
abbrev pub FrontsAreWhole : Type 0
FrontsAreWhole = (w : World) (es : List Entry) (count rule : ℕ) → IsFront w es → IsBroken w es count rule → ⊥

-- Behind one entry more each job that was preempted has counted it, and the entry may be the first to preempt
-- another.
abbrev pub JobsGoOn : Type 0
JobsGoOn = (w : World) (l : Ledger) (es : List Entry) (e : Entry)
    → jobs w l (es ++ e ∷ []) ≡ map (job_with e) (jobs w l es) ++ job_by (after_all w l es) e []

-- as far as 64 bits reach
abbrev pub capped : Delay → Delay
capped d = record d { starts = min d.starts (2 ^ 64 - 1) }

-- What is kept of the jobs is what the trace tells of them.
abbrev pub JobsAreDelays : Type 0
JobsAreDelays = (w : World) (l : Ledger) (es : List Entry)
    → map delay_of (jobs w l es) ≡ map capped (delays w l es)

-- what is kept tells which jobs were preempted since their messages came into memory
abbrev pub TellsPreempted : World → Ledger → List Entry → Type 0
TellsPreempted w l es = (id : Id) (transport : ℕ)
    → list_any (is_of id transport) (jobs w l es) ≡ was_preempted (after_all w l es) id transport

-- so many recipients has the message of which the entry puts a job off
abbrev pub CountsRecipients : Ledger → Entry → ℕ → Type 0
CountsRecipients l e n = (p : Preempted) → preempted_by e ≡ Some p → n ≡ recipients_of l p.id

-- Taking up what an entry is the first to preempt, and counting it, goes on from what was kept.
abbrev pub JobsAreKept : Type 0
JobsAreKept = (w : World) (l : Ledger) (es : List Entry) (e : Entry) (recipients : ℕ)
    → TellsPreempted w l es → CountsRecipients (after_all w l es) e recipients
    → map (job_with e) (with_opened e recipients (jobs w l es)) ≡ jobs w l (es ++ e ∷ [])

-- the deliveries that went before the job, times the slot cost less one, are at most its recipients
abbrev pub is_bounded : World → Delay → Bool
is_bounded w d = nat_le (d.starts * (w.settings.slot_cost - 1)) d.recipients

-- its message has fewer recipients than 64 bits count
abbrev pub has_few : Delay → Bool
has_few d = nat_lt d.recipients (2 ^ 64)

-- the ledger before the front of a run
abbrev pub ledger_before : {w : World} {es : List Entry} → IsFront w es → Ledger
ledger_before f = opening f.mode (empty_at f.generation)

-- So it is of each front: what is kept tells which jobs were preempted.
abbrev pub JobsAreTold : Type 0
JobsAreTold = (w : World) (es : List Entry) (f : IsFront w es) → IsUsable w → TellsPreempted w (ledger_before f) es

-- Preemption puts no more deliveries before a job, times the slot cost less one, than its message has recipients.
abbrev pub DelaysAreBounded : Type 0
DelaysAreBounded = (w : World) (es : List Entry) (f : IsFront w es) → IsUsable w
    → list_all (is_bounded w) (delays w (ledger_before f) es) ≡ true

-- So 64 bits reach for all of them, where they do for recipients: no parameters let a slot cost 1.
abbrev pub DelaysAreWhole : Type 0
DelaysAreWhole = (w : World) (es : List Entry) (f : IsFront w es) → IsUsable w → w.settings.slot_cost ≢ 1
    → list_all has_few (delays w (ledger_before f) es) ≡ true
    → map capped (delays w (ledger_before f) es) ≡ delays w (ledger_before f) es
