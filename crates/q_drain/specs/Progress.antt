-- How a drain gets on, whatever host and hops tell: each number gives at most one session, and each
-- session is over once.
use Rattle.std.specs.List.{count_by}
use Rattle.std.specs.Prelude.{◌*◌, ◌+◌, ◌-◌, ◌^◌, ◌≡◌, ◌≤◌, Bool, length, map, nat_lt, None, Option, Some, ℕ}
use Rattle.q_agent.specs.Sessions.{OpenSession, Sessions, with_session}
use Rattle.q_core.specs.Queries.{flight_in}
use Rattle.q_drain.specs.Waits.{idle}
use Rattle.q_engine.specs.declared.engine.Engine.{Engine}
use Rattle.q_model.specs.declared.rows.Delivery.{Delivery}

-- how many open sessions weren't polled in this sweep
abbrev pub unpolled_count : Sessions → ℕ
unpolled_count s = count_by (nat_lt s.polled) (map (λ o. o.number) s.listed)

-- one session more where there is a delivery, and none else
abbrev pub OpensBy : Option Delivery → Sessions → Sessions → Type 0
OpensBy None old new = new ≡ old
OpensBy (Some f) old new = (o : OpenSession) × (new ≡ with_session o old)

-- Where the delivery of this number is in flight, by what the engine keeps, one session more is open.
abbrev pub OpensIfInFlight : Engine → ℕ → Sessions → Sessions → Type 0
OpensIfInFlight engine number old new = OpensBy (flight_in engine.core.value number) old new

-- Each number behind `known`, up to `last`, has at most one session more, and none is gone.
pub record OpensUpTo (known last : ℕ) (old new : Sessions) : Type 0 where
  pub kept : length old.listed ≤ length new.listed
  pub listed : length new.listed + known ≤ length old.listed + last
  pub unpolled : unpolled_count new + known ≤ unpolled_count old + last

-- The polls that may be left in a sweep: one of each session that wasn't polled, and of each that may
-- still be opened.
abbrev pub polls_left : ℕ → Sessions → ℕ
polls_left known s = 2 ^ 64 - known + unpolled_count s

-- What may be left to do: each number that isn't known begins a delivery and ends it, and each open
-- session ends one.
abbrev pub work_left : ℕ → Sessions → ℕ
work_left known s = 2 * (2 ^ 64 - known) + length s.listed

-- More is never left, and less where a delivery began or ended, as none had before.
abbrev pub LeavesLess : Bool → Bool → ℕ → ℕ → Type 0
LeavesLess was busy old new = new + idle was ≤ old + idle busy
