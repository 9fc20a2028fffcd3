-- What a session leaves of a link that was open: it is open, unless the session has come to its end, and never is it called behind its end or a failure. And how many fewer answers `NotYet` it may give.
use Rattle.std.specs.Prelude.{◌≡◌, ◌≢◌, Err, Ok, Option, Result, ℕ}
use Rattle.q_link.specs.WaitsLeft.{Spares}
use Rattle.q_link.specs.declared.usage.Usage.{Usage}
use Rattle.q_link.specs.declared.usage.Usage.TheVariants.{Misused, Open}
use Rattle.q_smtpd.specs.declared.outbox.Sent.{Sent}
use Rattle.q_smtpd.specs.declared.outbox.Sent.TheVariants as sent
use Rattle.q_smtpd.specs.declared.served.Served.{Served}
use Rattle.q_smtpd.specs.declared.served.Served.TheVariants.{Message, Over, Working}
use Rattle.q_smtpd.specs.declared.session.Step.{Step}
use Rattle.q_smtpd.specs.declared.session.Step.TheVariants as steps

-- behind a poll
abbrev pub Uses : {E : Type 0} → Result Served E → Usage → Type 0
Uses (Ok Working) usage = usage ≡ Open
Uses (Ok (Message sender to content)) usage = usage ≡ Open
Uses (Ok Over) usage = usage ≢ Misused
Uses (Err error) usage = usage ≡ Open

-- behind sending
abbrev pub UsesSent : Sent → Usage → Type 0
UsesSent sent.All usage = usage ≡ Open
UsesSent sent.NotYet usage = usage ≡ Open
UsesSent sent.Lost usage = usage ≢ Misused

-- behind a step
abbrev pub UsesStep : Step → Usage → Type 0
UsesStep steps.Onward usage = usage ≡ Open
UsesStep steps.Waits usage = usage ≡ Open
UsesStep (steps.Mail mail) usage = usage ≡ Open
UsesStep steps.Ends usage = usage ≢ Misused

-- how many fewer are left behind a poll: one where it waits
abbrev pub SparesServed : Served → Option ℕ → Option ℕ → Type 0
SparesServed Working old new = Spares 1 old new
SparesServed (Message sender to content) old new = Spares 0 old new
SparesServed Over old new = Unit {0}

-- behind sending
abbrev pub SparesSent : Sent → Option ℕ → Option ℕ → Type 0
SparesSent sent.All old new = Spares 0 old new
SparesSent sent.NotYet old new = Spares 1 old new
SparesSent sent.Lost old new = Unit {0}

-- behind a step
abbrev pub SparesStep : Step → Option ℕ → Option ℕ → Type 0
SparesStep steps.Onward old new = Spares 0 old new
SparesStep steps.Waits old new = Spares 1 old new
SparesStep (steps.Mail mail) old new = Spares 0 old new
SparesStep steps.Ends old new = Unit {0}
