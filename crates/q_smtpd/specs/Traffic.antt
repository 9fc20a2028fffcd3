-- What sending and receiving do to a link.
use Rattle.std.specs.Prelude.{◌+◌, ◌++◌, ◌≡◌, ◌≢◌, ◌≤◌, [], List, Some, ℕ}
use Rattle.q_link.specs.Reads.{Rose}
use Rattle.q_link.specs.Views.{ForWrite, Told, View}
use Rattle.q_smtpd.specs.declared.outbox.Sent.{Sent}
use Rattle.q_smtpd.specs.declared.outbox.Sent.TheVariants as sent

-- where the link still tells, it told before, and this is between the two
abbrev pub Tells : (Told → Told → Type 0) → View → View → Type 0
Tells what old new = (t : Told) → new.told ≡ Some t → (before : Told) × (old.told ≡ Some before) × what before t

-- the same connection, which answered `NotYet` so many times more
pub record Answers (more : ℕ) (before after : Told) : Type 0 where
  pub rests_before : after.rests_before ≡ before.rests_before
  pub not_yets : after.not_yets ≡ before.not_yets + more

-- the count of faults doesn't fall, and the link ends no sooner
pub record GoesOn (old new : View) : Type 0 where
  pub faults : old.faults ≤ new.faults
  pub ended : new.ended ≡ old.ended

abbrev pub waits_of_sent : Sent → ℕ
waits_of_sent sent.All = 0
waits_of_sent sent.NotYet = 1
waits_of_sent sent.Lost = 0

-- what sending does to a link, with these bytes left
abbrev pub Sends : Sent → List ℕ → View → View → Type 0
Sends sent.All left old new = left ≡ []
Sends sent.NotYet left old new = (new.wait ≡ ForWrite) × (left ≢ [])
Sends sent.Lost left old new = Rose old.faults new.faults

-- the front of some bytes was sent, and these are left
pub record Gave (whole left : List ℕ) (more : ℕ) (before after : Told) : Type 0 where
  pub front : List ℕ
  pub whole_is : whole ≡ front ++ left
  pub sent : after.sent ≡ before.sent ++ front
  pub received : after.received ≡ before.received
  pub answers : Answers more before after
