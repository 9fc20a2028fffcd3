-- How a call that listens stands with its door.
use Rattle.std.specs.List.{AllByRecursion}
use Rattle.std.specs.Prelude.{◌*◌, ◌+◌, ◌++◌, ◌≡◌, ◌≤◌, [], ◌∷◌, count_by, length, List, ℕ}
use Rattle.q_listen.specs.Links.{IsServed}
use Rattle.q_listen.specs.Listens.{Case, greatest, mails_of_cases, records_of}
use Rattle.q_listen.specs.Stories.{Story}
use Rattle.q_listen.specs.Told.{mails_told}
use Rattle.q_smtpd.specs.Places.{Mail}

-- between the first moment and this one there are 300 seconds for each link that was late
abbrev pub IsWaited : List ℕ → ℕ → ℕ → Type 0
IsWaited [] late moment = late ≡ 0
IsWaited (first ∷ moments) late moment = first + 300 * late ≤ moment

-- how many links were late
abbrev pub late_links : List Case → ℕ
late_links cases = count_by (λ c. c.late) cases

-- a port, how many links are to be served there, and how many were
pub record Task : Type 0 where
  pub port : ℕ
  pub count : ℕ
  pub served : ℕ

-- with one more
abbrev pub next_task : Task → Task
next_task k = record k { served = k.served + 1 }

-- Links were served, one behind the other, and so many more are open: none, or one. The
-- messages that were told and aren't theirs are those of the open link, over which the last byte came at the
-- moment `heard`. Each moment was that of a poll that waited, behind which a rest was given, that gave a
-- message, or that was the last of its link; so many more are those of a poll that is still to be made.
pub record Serving (k : Task) (cases : List Case) (mails : List Mail) (heard ahead open_links : ℕ) (s : Story) : Type 0 where
  pub records : records_of cases ≡ s.records
  pub told : mails_of_cases cases ++ mails ≡ mails_told s.told
  pub each : AllByRecursion (λ c. IsServed c.link c.mails c.late) cases
  pub waited : IsWaited s.moments (late_links cases) heard
  pub heard_is : heard ≤ greatest s.moments
  pub polled : length s.moments ≡ s.rests + length (mails_told s.told) + k.served + ahead
  pub bound : (s.binds ≡ 1) × (s.ports ≡ k.port ∷ [])
  pub served_are : length s.records ≡ k.served
  pub accepted : s.accepts ≡ k.served + open_links
  pub few : k.served + open_links ≤ k.count
