-- How often the links of an agent may still answer `NotYet`, where that is known.
use Rattle.std.specs.Prelude.{[], ◌∷◌, List, None, Option, Some, ℕ}
use Rattle.q_link.specs.Records.{HopsView}
use Rattle.q_link.specs.WaitsLeft.{waits_sum}
use Rattle.q_agent.specs.Sessions.{OpenSession, Sessions, Work}
use Rattle.q_agent.specs.declared.report.Report.{Report}

-- a session without a link never does
abbrev pub work_waits_left : Option Work → Option ℕ
work_waits_left None = Some 0
work_waits_left (Some w) = w.link.waits_left

abbrev pub listed_waits_left : List OpenSession → Option ℕ
listed_waits_left [] = Some 0
listed_waits_left (o ∷ os) = waits_sum (work_waits_left o.work) (listed_waits_left os)

-- the links that are still to be opened, and those of the open sessions
abbrev pub waits_left : HopsView → Sessions → Option ℕ
waits_left hops s = waits_sum hops.waits_left (listed_waits_left s.listed)

-- how many are spent by a poll of this session that gave this report: one where it goes on
abbrev pub polls_spent : Option OpenSession → Option Report → ℕ
polls_spent None r = 0
polls_spent (Some o) None = 1
polls_spent (Some o) (Some r) = 0
