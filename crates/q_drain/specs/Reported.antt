-- What comes of a report: its reply is carried out and told, and then sessions are opened.
use Rattle.std.specs.Prelude.{◌≡◌, ◌⊎◌, List, Option, ℕ}
use Rattle.q_agent.specs.Sessions.{Sessions}
use Rattle.q_agent.specs.declared.report.Report.{Report}
use Rattle.q_drain.specs.Opened.{FailsToOpenAll, MayOpenAll, OpensAll}
use Rattle.q_drain.specs.Replied.{HaltsReply, Replies}
use Rattle.q_drain.specs.declared.poll.Served.{Served}
use Rattle.q_engine.specs.declared.engine.Engine.{Engine}
use Rattle.q_host.specs.View.{View as HostView}
use Rattle.q_host.specs.declared.error.HostError.{HostError}
use Rattle.q_link.specs.Records.{HopsView}

module _ {H : Type 0} (view : H → HostView) where
  -- Whatever the engine becomes by the reply, the sessions of the deliveries that began may be opened.
  abbrev pub MayOpenBehind : Option (List ℕ) → Report → Engine → H → HopsView → Sessions → ℕ → Type 0
  MayOpenBehind clock r engine before hops agent known = (next : Engine) → (after : H)
      → Replies r engine next (view before) (view after) → MayOpenAll clock (view after) hops next agent known

  -- at a moment between the reply was told, and from there on the sessions were opened
  pub record HearsReport (r : Report) (engine : Engine) (next : Served) (before after : H)
      (hops_old hops_new : HopsView) (old new : Sessions) (known : ℕ) : Type 0 where
    pub between : H
    pub replied : Replies r engine next.engine (view before) (view between)
    pub opened : OpensAll next.engine (view between) (view after) hops_old hops_new old new known next.known

  -- the reply was told, and a session couldn't be opened
  pub record FailsBehind (r : Report) (engine : Engine) (before after : H)
      (hops_old hops_new : HopsView) (old : Sessions) (known : ℕ) : Type 0 where
    pub next : Engine
    pub between : H
    pub replied : Replies r engine next (view before) (view between)
    pub fails : FailsToOpenAll next (view between) (view after) hops_old hops_new old known

  -- or the reply was given up
  abbrev pub GivesUpReport : Report → Engine → HostError → H → H → HopsView → HopsView → Sessions → ℕ → Type 0
  GivesUpReport r engine error before after hops_old hops_new old known =
      (HaltsReply r engine error (view before) (view after) × (hops_new ≡ hops_old))
      ⊎ FailsBehind r engine before after hops_old hops_new old known
