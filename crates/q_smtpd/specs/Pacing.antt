-- When bytes are read: each where all that is due was sent.
use Rattle.std.specs.Prelude.{◌++◌, ◌≡◌, ◌<◌, false, length, List, Some, take, ℕ}
use Rattle.q_link.specs.Views.{Told, View}
use Rattle.q_smtpd.specs.Intakes.{due, quits}

-- The byte at this place was read where QUIT hadn't come, and all replies to those before it had been sent.
pub record IsReadInTurn (received sent : List ℕ) (at : ℕ) : Type 0 where
  pub stays : quits (take at received) ≡ false
  pub more : List ℕ
  pub sent_is : sent ≡ due (take at received) ++ more

-- Each byte was read in turn.
pub record IsPaced (received sent : List ℕ) : Type 0 where
  pub each : (at : ℕ) → at < length received → IsReadInTurn received sent at

-- where the link tells, it is so
abbrev pub Paces : View → Type 0
Paces v = (t : Told) → v.told ≡ Some t → IsPaced t.received t.sent
