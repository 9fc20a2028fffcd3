-- What is known of a delivery that is over: its reply, what was sent, and its link.
use Rattle.std.specs.List.{count_by}
use Rattle.std.specs.Option.{is_some}
use Rattle.std.specs.Prelude.{◌&&◌, ◌+◌, ◌++◌, ◌-◌, ◌<◌, ◌^◌, ◌≡◌, ◌≤◌, ◌⊎◌, Bool, IfSome, length, List, not, Some, take, true, ℕ}
use Rattle.q_model.specs.declared.outcome.SiteState.TheVariants.{Down, Up}
use Rattle.q_link.specs.Records.{Closed}
use Rattle.q_link.specs.Routes.{has_route}
use Rattle.q_smtp.specs.Codes.{put_off}
use Rattle.q_smtp.specs.Dialogue.{Broken, Settled, quit_line}
use Rattle.q_session.specs.Steps.{BeginsWith, IsBeforeQuit}
use Rattle.q_drain.specs.Cases.{Case, exchange}
use Rattle.q_drain.specs.Stories.{Story}
use Rattle.q_drain.specs.Told.{begun}

-- The reply is what the bytes of the link say, or the site is down and all are put off.
pub record IsReply (c : Case) : Type 0 where
  pub up : c.reply.site ≡ Up
      → (r : Closed) × (c.link ≡ Some r) × ((exchange c r).ending ≡ Settled c.reply.outcomes)
  pub down : c.reply.site ≡ Down → c.reply.outcomes ≡ put_off (length c.start.positions)

-- 600 seconds have gone since the start
abbrev pub IsLate : Case → Type 0
IsLate c = c.start.moment + 600 ≤ c.moment

-- The bytes say that it is down, or the link ended or failed before QUIT, or the time was over.
abbrev pub IsDown : Case → Closed → Type 0
IsDown c r =
    ((exchange c r).ending ≡ Broken)
    ⊎ ((IsBeforeQuit (exchange c r) r.sent × ((r.ended ≡ true) ⊎ (0 < r.faults))) ⊎ IsLate c)

-- a site with a link is down for such a cause alone
abbrev pub HasCause : Case → Type 0
HasCause c = c.reply.site ≡ Down → IfSome c.link (IsDown c)

-- What was sent is a front of what is due; where the site is up, all of it, and a front of QUIT.
pub record IsSent (c : Case) (r : Closed) : Type 0 where
  pub front : c.reply.site ≡ Down → BeginsWith (exchange c r).due r.sent
  pub all : c.reply.site ≡ Up → (k : ℕ) × (r.sent ≡ (exchange c r).due ++ take k quit_line)

-- The link is that to the next hop of the start. When it was closed, as many connects had been made
-- behind the first ones as deliveries had begun.
pub record IsLink (connects : ℕ) (c : Case) (r : Closed) : Type 0 where
  pub hop : r.hop ≡ c.start.site.hop
  pub route : has_route r.hop ≡ true
  pub connects_before : r.connects ≡ connects + length (begun c.before)

-- A link answered `NotYet` at least once for each rest while it was open, and at most once for each
-- moment of the clock.
pub record IsPatient (s : Story) (r : Closed) : Type 0 where
  pub rests : r.rests ≤ r.not_yets
  pub moments : r.not_yets ≤ length s.moments

-- What holds of each delivery that is over, where so many connects were made before the call.
pub record IsDelivery (s : Story) (connects : ℕ) (c : Case) : Type 0 where
  pub reply : IsReply c
  pub cause : HasCause c
  pub sent : IfSome c.link (IsSent c)
  pub link : IfSome c.link (IsLink connects c)
  pub patient : IfSome c.link (IsPatient s)

-- it had no link, and its next hop has a route
abbrev pub has_failed : Case → Bool
has_failed c = not (is_some c.link) && has_route c.start.site.hop

-- Those are at most as many as connects failed since, whose count may stand at its last value.
abbrev pub FewFailed : List Case → ℕ → ℕ → Type 0
FewFailed cs old new = (old + count_by has_failed cs ≤ new) ⊎ (2 ^ 64 - 1 ≤ new)
