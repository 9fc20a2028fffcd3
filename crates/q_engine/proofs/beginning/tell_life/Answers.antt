use Rattle.std.proofs.Common.{◌∙◌}
use Rattle.q_entries.proofs.Lines.{as_it_was, stands_still}
use Rattle.q_model.specs.declared.entry.Entry.TheVariants as entries
use Rattle.q_transport.specs.Routing.{table_of}
use Rattle.q_engine.proofs.BegunLives.{fault_of}
use Rattle.q_engine.proofs.Causes.{told_cause, made_spool}
use Rattle.q_engine.proofs.beginning.tell_life.Goals as goal

pub returns-in_default-clause-err : goal.returns-in_default-clause-err
returns-in_default-clause-err g c error is t b h =
    let v = g.H.Host.view c.args.host.now in
    as_it_was (table_of c.args.table) (entries.Life c.args.generation c.args.mode) b b error v v (record { only = g.met.H.Host.only_now c.args.host.now; told = g.met.H.Host.told_stays c.args.host.now }) (stands_still v) h

pub returns-in-Err-clause-err : goal.returns-in-Err-clause-err
returns-in-Err-clause-err g c error is t b h =
    c.tell.ensures.err error (fault_of c.in-Err.error error c.refusal_of.result c.tell.result c.in-Err.is c.refusal_of.ensures.exact is) t b h

pub returns-in-Err-clause-spool : goal.returns-in-Err-clause-spool
returns-in-Err-clause-spool g c error of = made_spool c.in-Err.error c.refusal_of.result error c.refusal_of.ensures.exact of

pub returns-in-Err-clause-cause : goal.returns-in-Err-clause-cause
returns-in-Err-clause-cause g c = told_cause (g.H.Host.faults c.args.host.now) (g.H.Host.faults c.tell.new.host) c.in-Err.error c.refusal_of.result c.tell.result c.in-Err.is c.refusal_of.ensures.exact c.tell.ensures.cause

pub returns-in-Ok-clause-core : goal.returns-in-Ok-clause-core
returns-in-Ok-clause-core g c w book settings count distinct orderly = c.in-Some.ensures.orderly w book settings (c.transports.ensures.exact ∙ count) distinct orderly
