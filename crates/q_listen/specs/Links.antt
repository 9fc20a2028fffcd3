-- What the record of a link says of its session.
use Rattle.std.specs.Prelude.{◌++◌, ◌-◌, ◌<◌, ◌==◌, ◌≡◌, ◌≤◌, ◌⊎◌, ◌^◌, [], ◌∷◌, Bool, false, if◌then◌else◌, length, List, take, true, ℕ}
use Rattle.q_door.specs.Doors.{Closed}
use Rattle.q_smtpd.specs.Answers.{timeout_line}
use Rattle.q_smtpd.specs.Intakes.{due, mails, mails_of, quits, replies_to}
use Rattle.q_smtpd.specs.Places.{Mail, Reply}

-- the replies of which something was sent, by how many bytes were
unfoldable pub begun_replies : ℕ → List Reply → List Reply
begun_replies n [] = []
begun_replies n (r ∷ rs) = if n == 0 then [] else r ∷ begun_replies (n - length r.text) rs

-- how many final dots were answered by 250, whole or in part, where so many bytes of the replies were sent
abbrev pub dots_answered : ℕ → Closed → ℕ
dots_answered n r = length (mails_of (begun_replies n (replies_to r.received)))

-- Some first bytes of its replies were sent, and then perhaps of the line that ends it late; so at most these messages were acknowledged.
pub record IsAnswered (r : Closed) (told : List Mail) : Type 0 where
  pub of_replies : ℕ
  pub of_timeout : ℕ
  pub within : of_replies ≤ length (due r.received)
  pub sent : r.sent ≡ take of_replies (due r.received) ++ take of_timeout timeout_line
  pub dots : dots_answered of_replies r ≤ length told

-- its client took leave or ended it, and all replies were sent; it failed; or all bytes came that are taken
abbrev pub IsEnded : Closed → Type 0
IsEnded r = ((quits r.received ≡ true) × (r.sent ≡ due r.received))
    ⊎ ((r.ended ≡ true) × (r.sent ≡ due r.received))
    ⊎ (0 < r.faults)
    ⊎ (2 ^ 40 ≤ length r.received)

-- A session that was served to its end: these messages were told, which are all that came. It ended so, or late: no byte came for 300 seconds.
pub record IsServed (r : Closed) (told : List Mail) (late : Bool) : Type 0 where
  pub told_are : mails r.received ≡ told
  pub answered : IsAnswered r told
  pub ends : late ≡ false → IsEnded r

-- A session that was given up: the first of its messages were told.
pub record IsCutOff (r : Closed) (told : List Mail) : Type 0 where
  pub told_are : (rest : List Mail) × (mails r.received ≡ told ++ rest)
  pub answered : IsAnswered r told
