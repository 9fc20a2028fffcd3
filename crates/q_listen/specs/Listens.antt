-- What a life that listens promises, as a whole.
use Rattle.std.specs.List.{AllByRecursion}
use Rattle.std.specs.Prelude.{◌*◌, ◌+◌, ◌++◌, ◌≡◌, ◌≤◌, ◌⊎◌, [], ◌∷◌, Bool, count_by, flat_map, fold, length, List, map, max, ℕ}
use Rattle.q_drain.specs.Sweeps.{rising}
use Rattle.q_drain.specs.Told.{moments_of}
use Rattle.q_door.specs.Doors.{Closed}
use Rattle.q_listen.specs.Links.{IsCutOff, IsServed}
use Rattle.q_listen.specs.Stories.{Story}
use Rattle.q_listen.specs.Told.{mails_told}
use Rattle.q_smtpd.specs.Places.{Mail}

-- A link that was served, by its record, with its messages that were told, and whether it ended late.
pub record Case : Type 0 where
  pub link : Closed
  pub mails : List Mail
  pub late : Bool

abbrev pub records_of : List Case → List Closed
records_of cs = map (λ c. c.link) cs

abbrev pub mails_of_cases : List Case → List Mail
mails_of_cases cs = flat_map (λ c. c.mails) cs

-- the `at` lines are the first moment, and each later one past all before it
abbrev pub IsClocked : Story → Type 0
IsClocked s = moments_of s.told ≡ rising s.moments

-- the first of them are
abbrev pub IsClockedSoFar : Story → Type 0
IsClockedSoFar s = (rest : List ℕ) × (rising s.moments ≡ moments_of s.told ++ rest)

-- the greatest moment
abbrev pub greatest : List ℕ → ℕ
greatest moments = fold max 0 moments

-- between the first moment and the greatest there are 300 seconds for each link that was late
abbrev pub IsPatient : List ℕ → ℕ → Type 0
IsPatient [] late = late ≡ 0
IsPatient (first ∷ moments) late = first + 300 * late ≤ greatest (first ∷ moments)

-- The moments are at most one more than the rests, the messages and the links together.
abbrev pub IsRested : Story → Type 0
IsRested s = length s.moments ≤ s.rests + length (mails_told s.told) + length s.records + 1

-- each link that was accepted was closed, and has its record
abbrev pub IsAllClosed : Story → Type 0
IsAllClosed s = s.accepts ≡ length s.records

-- an accept gave no link, or `close` had no memory for the record of its link
abbrev pub IsOneOpen : Story → Type 0
IsOneOpen s = s.accepts ≡ length s.records + 1

-- so many links may be served at a port
pub record IsWithin (count : ℕ) (s : Story) : Type 0 where
  pub binds : s.binds ≤ 1
  pub accepts : s.accepts ≤ count
  pub accepted : s.accepts ≤ length s.records + 1
  pub rested : IsRested s

-- All links were served, one behind the other, at this port.
pub record ServesAll (port count : ℕ) (s : Story) : Type 0 where
  pub cases : List Case
  pub records : records_of cases ≡ s.records
  pub mails : mails_of_cases cases ≡ mails_told s.told
  pub each : AllByRecursion (λ c. IsServed c.link c.mails c.late) cases
  -- those of the records by which nothing else ended them are among the late ones
  pub patient : IsPatient s.moments (count_by (λ c. c.late) cases)
  pub within : IsWithin count s
  pub bound : (s.binds ≡ 1) × (s.ports ≡ port ∷ [])
  pub all : length s.records ≡ count

-- The last link, whose session was given up, was closed: it has a record, or these messages are those of a
-- link without one.
abbrev pub IsLast : Story → List Case → List Mail → Type 0
IsLast s [] unrecorded = IsOneOpen s ⊎ ((unrecorded ≡ []) × IsAllClosed s)
IsLast s (c ∷ cs) unrecorded = (unrecorded ≡ []) × (cs ≡ []) × IsCutOff c.link c.mails × IsAllClosed s

-- The first links were served, and the session of the next was given up and its link closed, if one was open.
pub record ServesSome (count : ℕ) (s : Story) : Type 0 where
  pub cases : List Case
  pub last : List Case
  pub unrecorded : List Mail
  pub records : records_of cases ++ records_of last ≡ s.records
  pub mails : mails_of_cases cases ++ mails_of_cases last ++ unrecorded ≡ mails_told s.told
  pub each : AllByRecursion (λ c. IsServed c.link c.mails c.late) cases
  pub is_last : IsLast s last unrecorded
  pub within : IsWithin count s

-- and each link that was accepted has its record
abbrev pub ServesClosed : ℕ → Story → Type 0
ServesClosed count s = ServesSome count s × IsAllClosed s

-- no session was given up: each link that came was served to its end
abbrev pub ServesWhole : ℕ → Story → Type 0
ServesWhole count s = (some : ServesSome count s) × (some.last ≡ []) × (some.unrecorded ≡ [])
