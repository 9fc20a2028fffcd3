-- What is known of a link, and what one that tells tells.
use Rattle.std.specs.Prelude.{Bool, List, Option, ℕ}
use Rattle.q_link.specs.declared.usage.Usage.{Usage}

-- Whether the last read or write answered `NotYet`, and no rest was given for it since.
pub data Wait : Type 0 where
  NoWait : Wait
  ForRead : Wait
  ForWrite : Wait

-- The next hop that its connect was given, the bytes received and sent, how often it answered
-- `NotYet`, and how many rests its hops had told at its connect.
pub record Told : Type 0 where
  pub hop : List ℕ
  pub received : List ℕ
  pub sent : List ℕ
  pub not_yets : ℕ
  pub rests_before : ℕ

-- A link: how often it failed, whether it waits, whether it answered `End`, whether it was called behind
-- that or a failure, how often it may still answer `NotYet` where that is known, and what it tells.
pub record View : Type 0 where
  pub faults : ℕ
  pub wait : Wait
  pub ended : Bool
  pub usage : Usage
  pub waits_left : Option ℕ
  pub told : Option Told
