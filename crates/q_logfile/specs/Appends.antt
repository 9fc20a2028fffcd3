-- What appending a record to a failure log does to reads, and to what a crash leaves.
use Rattle.std.specs.Option.{IfSome}
use Rattle.std.specs.Prelude.{◌&&◌, ◌*◌, ◌+◌, ◌++◌, ◌==◌, ◌^◌, ◌≡◌, ◌⊎◌, ◌∷◌, [], Bool, drop, if◌then◌else◌, length, List, nat_lt, None, not, Option, slice_index, Some, ℕ}
use Rattle.q_model.specs.declared.outcome.Failure.{Failure}
use Rattle.q_model.specs.declared.spot.Area.{Area}
use Rattle.q_model.specs.FailureLog.{failure_bytes, log_records}
use Rattle.q_host.specs.Files.{written}
use Rattle.q_host.specs.View.{After, Goes, LeavesOnly, now, Remains, View}
use Rattle.q_store.specs.Stores.{OneFile}
use Rattle.q_logfile.specs.HasRecords.{HasRecords, LeavesRecords, records_at}

-- the place of the gate behind the last record
abbrev pub gate_of : List ℕ → ℕ
gate_of log = 8 * length (log_records log)

-- a gate stands at this place, and is closed
abbrev pub is_closed_at : List ℕ → ℕ → Bool
is_closed_at log place = nat_lt place (length log) && not (slice_index log place == 79)

-- the log has a record, as many as four bytes can count, and a closed gate behind its last
abbrev pub is_gated : List ℕ → Bool
is_gated log =
    is_closed_at log (gate_of log)
    && (nat_lt 0 (length (log_records log)) && nat_lt (length (log_records log)) (2 ^ 32))

-- how many records a log has, where one more can be appended behind them
abbrev pub appendable : List ℕ → Option ℕ
appendable log = if is_gated log then Some (length (log_records log)) else None

-- what stands behind the gate of the last record: its other bytes, and a closed gate
abbrev pub behind_gate : Failure → List ℕ
behind_gate f = drop 1 (failure_bytes f) ++ 0 ∷ []

-- the log with a record behind its closed gate
abbrev pub prepared : Failure → List ℕ → List ℕ
prepared f log = written (gate_of log + 1) (behind_gate f) log

-- the log with that gate open
abbrev pub appended : Failure → List ℕ → List ℕ
appended f log = written (gate_of log) (79 ∷ []) (prepared f log)

-- ---- one log, as it was read, and what is read or left of it later

-- The record was appended, and nothing else changed.
pub record HoldsRecord (a : Area) (n log : List ℕ) (f : Failure) (d c : Remains) : Type 0 where
  pub one : OneFile a n d c
  pub whole : c.files a n ≡ Some (appended f log)

-- Where the disk had it as it was read, it has the same records. Nothing else changed.
pub record KeepsRecords (a : Area) (n log : List ℕ) (d c : Remains) : Type 0 where
  pub one : OneFile a n d c
  pub records : d.files a n ≡ Some log → HasRecords c.files a n (log_records log)

-- Where the disk had it as it was read, it has the same records, or this one more.
pub record MayHoldRecord (a : Area) (n log : List ℕ) (f : Failure) (d c : Remains) : Type 0 where
  pub one : OneFile a n d c
  pub records : d.files a n ≡ Some log
      → HasRecords c.files a n (log_records log) ⊎ HasRecords c.files a n (log_records log ++ f ∷ [])

-- It was appended: reads give it, and so does every crash. A crash meanwhile left it or not.
pub record Appends (a : Area) (n log : List ℕ) (f : Failure) (v w : View) : Type 0 where
  pub reads : HoldsRecord a n log f (now v) (now w)
  pub goes : Goes (HoldsRecord a n log f) (MayHoldRecord a n log f) v w

-- It wasn't appended: neither reads nor a crash give it. A crash meanwhile left it or not.
pub record AppendsNothing (a : Area) (n log : List ℕ) (f : Failure) (v w : View) : Type 0 where
  pub reads : KeepsRecords a n log (now v) (now w)
  pub goes : Goes (KeepsRecords a n log) (MayHoldRecord a n log f) v w

-- It was appended, but the disk isn't sure of it: reads give it, and a crash leaves it or not.
pub record AppendsLoosely (a : Area) (n log : List ℕ) (f : Failure) (v w : View) : Type 0 where
  pub reads : HoldsRecord a n log f (now v) (now w)
  pub goes : Goes (MayHoldRecord a n log f) (MayHoldRecord a n log f) v w

-- ---- the log that stands at a place

-- the record was appended
abbrev pub AppendsLog : Area → List ℕ → Failure → View → View → Type 0
AppendsLog a n f v w = IfSome (v.files a n) (λ log. Appends a n log f v w)

-- it wasn't, or loosely
abbrev pub MayAppendLog : Area → List ℕ → Failure → View → View → Type 0
MayAppendLog a n f v w =
    IfSome (v.files a n) (λ log. AppendsNothing a n log f v w ⊎ AppendsLoosely a n log f v w)

-- what reads give of it, and what every crash leaves: the records that were read before, and this one
pub record AddsRecord (a : Area) (n : List ℕ) (f : Failure) (v w : View) : Type 0 where
  pub reads : HasRecords w.files a n (records_at v.files a n ++ f ∷ [])
  pub crash : LeavesRecords w a n (records_at v.files a n ++ f ∷ [])

-- a crash at any moment between the two leaves the records as they were, or one more
abbrev pub LeavesOldOrOneMore : Area → List ℕ → Failure → View → View → Type 0
LeavesOldOrOneMore a n f v w =
    IfSome (v.files a n) (λ log. LeavesOnly v w (After (MayHoldRecord a n log f) v.may_leave))
