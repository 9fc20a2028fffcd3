use Rattle.std.proofs.Common.{◌∙◌, IsTrue, Some, ap, subst}
use Rattle.q_core.specs.Deciding.{AsksSome, BeginsFlight, CanBeDone, is_reading, question_of}
use Rattle.q_core.specs.declared.decision.Decision.{Decision}
use Rattle.q_engine.specs.KeptRows.{KeepsRow}
use Rattle.q_engine.specs.KeptPlaces.{left_by}
use Rattle.q_core.specs.declared.decision.Decision.TheVariants as decisions
use Rattle.q_engine.proofs.DecisionArms.{arm_ok}
use Rattle.q_engine.proofs.engine.Engine.dispatch.Goals as goal

pub returns-in-Sync-clause-ok : goal.returns-in-Sync-clause-ok
returns-in-Sync-clause-ok g c = arm_ok c.sync.result (IsTrue g.H.Host.tells) c.args.decision.now (decisions.Sync c.in-Sync.id) c.args.self.now c.args.self.now _ _ c.in-Sync.is c.sync.ensures.ok

pub returns-in-Skip-clause-ok : goal.returns-in-Skip-clause-ok
returns-in-Skip-clause-ok g c = arm_ok c.skip.result (IsTrue g.H.Host.tells) c.args.decision.now (decisions.Skip c.in-Skip.id c.in-Skip.site c.in-Skip.entry) c.args.self.now c.args.self.now _ _ c.in-Skip.is c.skip.ensures.ok

pub returns-in-Defer-clause-ok : goal.returns-in-Defer-clause-ok
returns-in-Defer-clause-ok g c = arm_ok c.defer.result (IsTrue g.H.Host.tells) c.args.decision.now (decisions.Defer c.in-Defer.id c.in-Defer.due) c.args.self.now c.args.self.now _ _ c.in-Defer.is c.defer.ensures.ok

pub returns-in-Back-clause-ok : goal.returns-in-Back-clause-ok
returns-in-Back-clause-ok g c = arm_ok c.back.result (IsTrue g.H.Host.tells) c.args.decision.now (decisions.Back c.in-Back.id) c.args.self.now c.args.self.now _ _ c.in-Back.is c.back.ensures.ok

pub returns-in-Remove-clause-ok : goal.returns-in-Remove-clause-ok
returns-in-Remove-clause-ok g c = arm_ok c.remove.result (IsTrue g.H.Host.tells) c.args.decision.now (decisions.Remove c.in-Remove.id) c.args.self.now c.args.self.now _ _ c.in-Remove.is c.remove.ensures.ok

pub returns-in-Corrupt-clause-ok : goal.returns-in-Corrupt-clause-ok
returns-in-Corrupt-clause-ok g c = arm_ok c.corrupt.result (IsTrue g.H.Host.tells) c.args.decision.now (decisions.Corrupt c.in-Corrupt.id c.in-Corrupt.place) c.args.self.now c.args.self.now _ _ c.in-Corrupt.is c.corrupt.ensures.ok

pub returns-in-Admit-clause-ok : goal.returns-in-Admit-clause-ok
returns-in-Admit-clause-ok g c = arm_ok c.admit.result (IsTrue g.H.Host.tells) c.args.decision.now (decisions.Admit c.in-Admit.id c.in-Admit.place) c.args.self.now c.args.self.now _ _ c.in-Admit.is c.admit.ensures.ok

pub returns-in-Preempt-clause-ok : goal.returns-in-Preempt-clause-ok
returns-in-Preempt-clause-ok g c = arm_ok c.preempt.result (IsTrue g.H.Host.tells) c.args.decision.now (decisions.Preempt c.in-Preempt.child c.in-Preempt.parent c.in-Preempt.transport c.in-Preempt.need) c.args.self.now c.preempt.new.self _ _ c.in-Preempt.is c.preempt.ensures.ok

pub returns-in-Start-clause-ok : goal.returns-in-Start-clause-ok
returns-in-Start-clause-ok g c = arm_ok c.start.result (IsTrue g.H.Host.tells) c.args.decision.now (decisions.Start c.in-Start.number c.in-Start.id c.in-Start.site) c.args.self.now c.args.self.now _ _ c.in-Start.is c.start.ensures.ok

pub returns-in-Log-clause-ok : goal.returns-in-Log-clause-ok
returns-in-Log-clause-ok g c = arm_ok c.log.result (IsTrue g.H.Host.tells) c.args.decision.now (decisions.Log c.in-Log.id c.in-Log.failure) c.args.self.now c.args.self.now _ _ c.in-Log.is c.log.ensures.ok

pub returns-in-Bounce-clause-ok : goal.returns-in-Bounce-clause-ok
returns-in-Bounce-clause-ok g c = arm_ok c.bounce.result (IsTrue g.H.Host.tells) c.args.decision.now (decisions.Bounce c.in-Bounce.id) c.args.self.now c.bounce.new.self _ _ c.in-Bounce.is c.bounce.ensures.ok

pub returns-in-Read-clause-ok : goal.returns-in-Read-clause-ok
returns-in-Read-clause-ok g c = arm_ok c.load.result (IsTrue g.H.Host.tells) c.args.decision.now (decisions.Read c.in-Read.id c.in-Read.from c.in-Read.max) c.args.self.now c.load.new.self _ _ c.in-Read.is c.load.ensures.ok

pub remove-requires-clause-forgotten : goal.remove-requires-clause-forgotten
remove-requires-clause-forgotten g c = c.requires.forgotten c.in-Remove.id (ap left_by c.in-Remove.is)

pub skip-requires-clause-row : goal.skip-requires-clause-row
skip-requires-clause-row g c = subst (λ (d : Decision). KeepsRow d c.args.self.now.core.value) c.in-Skip.is c.requires.taken.row

pub start-requires-clause-flies : goal.start-requires-clause-flies
start-requires-clause-flies g c = subst (λ (d : Decision). BeginsFlight (Some d) c.args.self.now.core.value.flights) c.in-Start.is c.requires.taken.flies

pub load-requires-clause-question : goal.load-requires-clause-question
load-requires-clause-question g c = c.requires.taken.question ∙ ap question_of c.in-Read.is

pub load-requires-clause-reads : goal.load-requires-clause-reads
load-requires-clause-reads g c = c.requires.taken.reads (ap (λ (d : Decision). is_reading (question_of d)) c.in-Read.is)

pub load-requires-clause-some : goal.load-requires-clause-some
load-requires-clause-some g c = subst (λ (d : Decision). AsksSome (question_of d)) c.in-Read.is c.requires.taken.some

pub log-requires-clause-code : goal.log-requires-clause-code
log-requires-clause-code g c = subst (λ (d : Decision). CanBeDone (Some d)) c.in-Log.is c.requires.taken.lawful

pub defer-requires-clause-due : goal.defer-requires-clause-due
defer-requires-clause-due g c = subst (λ (d : Decision). CanBeDone (Some d)) c.in-Defer.is c.requires.taken.lawful

pub corrupt-requires-clause-place : goal.corrupt-requires-clause-place
corrupt-requires-clause-place g c = subst (λ (d : Decision). CanBeDone (Some d)) c.in-Corrupt.is c.requires.taken.lawful

pub admit-requires-clause-place : goal.admit-requires-clause-place
admit-requires-clause-place g c = subst (λ (d : Decision). CanBeDone (Some d)) c.in-Admit.is c.requires.taken.lawful
