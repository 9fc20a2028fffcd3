-- What a delivery leaves of a link that was open: it is open, unless the delivery is over, and never is it
-- called behind its end or a failure. And how many fewer answers `NotYet` it may give.
use Rattle.std.specs.Prelude.{◌≡◌, ◌≢◌, Err, Ok, Option, Result, ℕ}
use Rattle.q_link.specs.declared.usage.Usage.{Usage}
use Rattle.q_link.specs.declared.usage.Usage.TheVariants.{Misused, Open}
use Rattle.q_link.specs.WaitsLeft.{Spares}
use Rattle.q_session.specs.declared.inbox.Heard.{Heard}
use Rattle.q_session.specs.declared.inbox.Heard.TheVariants.{Code, NoReply, NotYet, Lost as Broken}
use Rattle.q_session.specs.declared.outbox.Sent.{Sent}
use Rattle.q_session.specs.declared.outbox.Sent.TheVariants as sent
use Rattle.q_session.specs.declared.polled.Polled.{Polled}
use Rattle.q_session.specs.declared.polled.Polled.TheVariants.{Over, Working}
use Rattle.q_session.specs.declared.steps.Step.{Step}
use Rattle.q_session.specs.declared.steps.Step.TheVariants.{Lost, Onward, Settles, Waits}

-- behind a poll
abbrev pub Uses : {E : Type 0} → Result Polled E → Usage → Type 0
Uses (Ok Working) usage = usage ≡ Open
Uses (Ok (Over site)) usage = usage ≢ Misused
Uses (Err error) usage = usage ≡ Open

-- behind sending
abbrev pub UsesSent : Sent → Usage → Type 0
UsesSent sent.All usage = usage ≡ Open
UsesSent sent.NotYet usage = usage ≡ Open
UsesSent sent.Lost usage = usage ≢ Misused

-- behind waiting for a reply
abbrev pub UsesHeard : Heard → Usage → Type 0
UsesHeard (Code code) usage = usage ≡ Open
UsesHeard NotYet usage = usage ≡ Open
UsesHeard NoReply usage = usage ≡ Open
UsesHeard Broken usage = usage ≢ Misused

-- behind a step
abbrev pub UsesStep : Step → Usage → Type 0
UsesStep Onward usage = usage ≡ Open
UsesStep Waits usage = usage ≡ Open
UsesStep Lost usage = usage ≢ Misused
UsesStep (Settles last) usage = usage ≡ Open

-- where the host didn't fail, and where it did
abbrev pub UsesBy : {T E : Type 0} → (T → Usage → Type 0) → Result T E → Usage → Type 0
UsesBy behind (Ok done) usage = behind done usage
UsesBy behind (Err error) usage = usage ≡ Open

-- how many fewer are left behind a poll: one, unless the delivery is over
abbrev pub SparesPolled : Polled → Option ℕ → Option ℕ → Type 0
SparesPolled Working old new = Spares 1 old new
SparesPolled (Over site) old new = Unit {0}

-- behind sending
abbrev pub SparesSent : Sent → Option ℕ → Option ℕ → Type 0
SparesSent sent.All old new = Spares 0 old new
SparesSent sent.NotYet old new = Spares 1 old new
SparesSent sent.Lost old new = Unit {0}

-- behind waiting for a reply
abbrev pub SparesHeard : Heard → Option ℕ → Option ℕ → Type 0
SparesHeard (Code code) old new = Spares 0 old new
SparesHeard NotYet old new = Spares 1 old new
SparesHeard NoReply old new = Spares 0 old new
SparesHeard Broken old new = Unit {0}

-- behind a step
abbrev pub SparesStep : Step → Option ℕ → Option ℕ → Type 0
SparesStep Onward old new = Spares 0 old new
SparesStep Waits old new = Spares 1 old new
SparesStep Lost old new = Unit {0}
SparesStep (Settles last) old new = Spares 0 old new
