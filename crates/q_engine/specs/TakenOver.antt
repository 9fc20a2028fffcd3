-- What is known of each core that has taken a decision over, whatever was answered to it.
use Rattle.std.specs.Prelude.{◌≡◌, [], false, Some, true}
use Rattle.q_core.specs.Changes.{is_looked_at}
use Rattle.q_core.specs.Deciding.{AsksSome, BeginsFlight, CanBeDone, is_look, is_reading, question_of}
use Rattle.q_core.specs.declared.decision.Decision.{Decision}
use Rattle.q_core.specs.declared.state.Core.{Core}
use Rattle.q_engine.specs.KeptRows.{KeepsRow}

-- It waits for what the decision asks for, which is no look; a read asks for some recipients, of which
-- none is named yet. A delivery that starts is in flight, and a row that is put off is kept.
pub record IsTakenOver (d : Decision) (c : Core) : Type 0 where
  pub question : c.question ≡ question_of d
  pub no_look : is_look (question_of d) ≡ false
  pub reads : is_reading (question_of d) ≡ true → (is_looked_at c ≡ true) × (c.named ≡ [])
  pub some : AsksSome (question_of d)
  pub flies : BeginsFlight (Some d) c.flights
  pub row : KeepsRow d c
  pub lawful : CanBeDone (Some d)
