use Rattle.std.proofs.Common.{refl}
use Rattle.q_model.specs.declared.entry.Entry.TheVariants as entries
use Rattle.q_engine.proofs.BegunLives.{fault_of}
use Rattle.q_engine.proofs.Causes.{made_no_disk, ok_cause, told_cause}
use Rattle.q_engine.proofs.EndedLives.{ended}
use Rattle.q_engine.proofs.HeardEvents.{stopped}
use Rattle.q_engine.proofs.engine.Engine.finish.Goals as goal

pub returns-in-Ok-clause-ok : goal.returns-in-Ok-clause-ok
returns-in-Ok-clause-ok g c t w l h =
    ended w l c.args.self (g.H.Host.view c.args.host.now) (g.H.Host.view c.tell.new.host) h (c.in-Ok.ensures.ok t l.book h.host)

pub returns-clause-err : goal.returns-clause-err
returns-clause-err g c error is t w l h =
    stopped w l entries.End c.args.self (g.H.Host.view c.args.host.now) h l.book error (g.H.Host.view c.tell.new.host) refl
    (c.tell.ensures.err error (fault_of c.in-Err.error error c.refusal_of.result c.tell.result c.in-Err.is c.refusal_of.ensures.exact is) t l.book h.host)

pub returns-clause-cause : goal.returns-clause-cause
returns-clause-cause g c = told_cause (g.H.Host.faults c.args.host.now) (g.H.Host.faults c.tell.new.host) c.in-Err.error c.refusal_of.result c.tell.result c.in-Err.is c.refusal_of.ensures.exact c.tell.ensures.cause

pub returns-in-Ok-clause-cause : goal.returns-in-Ok-clause-cause
returns-in-Ok-clause-cause g c = ok_cause (g.H.Host.faults c.args.host.now) (g.H.Host.faults c.tell.new.host) c.tell.result tt c.tell.ensures.cause

pub returns-clause-no_disk : goal.returns-clause-no_disk
returns-clause-no_disk g c of = made_no_disk (g.H.Host.faults c.args.host.now) (g.H.Host.faults c.tell.new.host) c.in-Err.error c.refusal_of.result c.tell.result c.in-Err.is c.refusal_of.ensures.exact c.tell.ensures.cause of
