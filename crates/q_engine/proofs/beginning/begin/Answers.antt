use Rattle.std.proofs.Common.{◌≡◌, true, false, subst, sym}
use Rattle.q_entries.proofs.Lines.{may_stop}
use Rattle.q_restart.proofs.OneSight.{next-begins}
use Rattle.q_restart.specs.Openings.{begun}
use Rattle.q_transport.specs.Routing.{table_of}
use Rattle.q_engine.specs.Beginnings.{first_entry, IsRefusalOfSomeSpool}
use Rattle.q_engine.specs.declared.error.EngineError.TheVariants as errors
use Rattle.q_engine.proofs.BegunLives.{began, by_four, each_not_of_spool, found_damaged, found_refused, found_spent, new_engine, not_begun, refused_by_some}
use Rattle.q_engine.proofs.beginning.begin.Goals as goal

pub returns-in-Ok-clause-ok : goal.returns-in-Ok-clause-ok
returns-in-Ok-clause-ok g c = by_four c.tell_life.result (λ engine told core made empty t b h.
    let v = g.H.Host.view c.args.host.now in
    let u = g.H.Host.view c.open_spool.new.host in
    let opens = c.in-Ok.ensures.ok t b h in
    began c.args.params c.args.table c.args.mode b c.in-Ok.spool.generation v u (g.H.Host.view c.tell_life.new.host) opens engine
    (new_engine c.args.table c.in-Ok.spool.generation engine made empty) core (told t (begun b) opens.takes.stands) (c.tell_life.ensures.files t)) c.tell_life.ensures.ok c.tell_life.ensures.core c.tell_life.ensures.made c.tell_life.ensures.places

pub returns-in-Ok-clause-err : goal.returns-in-Ok-clause-err
returns-in-Ok-clause-err g c error is t b h =
    let opens = c.in-Ok.ensures.ok t b h in
    not_begun c.args.params c.args.table c.args.mode b c.in-Ok.spool.generation (g.H.Host.view c.args.host.now) (g.H.Host.view c.open_spool.new.host) (g.H.Host.view c.tell_life.new.host) opens error
    (c.tell_life.ensures.err error is t (begun b) opens.takes.stands)

pub returns-in-Ok-clause-damaged : goal.returns-in-Ok-clause-damaged
returns-in-Ok-clause-damaged g c t area name is =
    let bad : true ≡ false = c.tell_life.ensures.spool (errors.Damaged area name) is in
    absurd cc

pub returns-in-Ok-clause-limit : goal.returns-in-Ok-clause-limit
returns-in-Ok-clause-limit g c bound is =
    let bad : true ≡ false = c.tell_life.ensures.spool (errors.Limit bound) is in
    absurd cc

pub returns-in-Ok-clause-spent : goal.returns-in-Ok-clause-spent
returns-in-Ok-clause-spent g c bound is t =
    let bad : true ≡ false = c.tell_life.ensures.spool (errors.Limit bound) is in
    absurd cc

pub returns-in-Err-clause-err : goal.returns-in-Err-clause-err
returns-in-Err-clause-err g c error is t b h =
    may_stop (table_of c.args.table) (first_entry b c.args.mode) b (begun b) error (g.H.Host.view c.args.host.now) (g.H.Host.view c.open_spool.new.host) (c.open_spool.ensures.tries t b h)

pub returns-in-Err-clause-damaged : goal.returns-in-Err-clause-damaged
returns-in-Err-clause-damaged g c t area name is =
    c.open_spool.ensures.damaged t area name (found_damaged c.in-Err.error c.opening_refusal.result area name c.open_spool.result c.in-Err.is c.opening_refusal.ensures.exact is)

pub returns-in-Err-clause-spent : goal.returns-in-Err-clause-spent
returns-in-Err-clause-spent g c bound is t =
    c.open_spool.ensures.spent t (found_spent c.in-Err.error c.opening_refusal.result bound c.open_spool.result c.in-Err.is c.opening_refusal.ensures.exact is)

pub returns-in-Err-clause-untouched : goal.returns-in-Err-clause-untouched
returns-in-Err-clause-untouched g c error is of t =
    c.open_spool.ensures.untouched (found_refused c.in-Err.error c.opening_refusal.result error c.open_spool.result c.in-Err.is c.opening_refusal.ensures.exact is of) t

pub returns-in-Err-clause-some : goal.returns-in-Err-clause-some
returns-in-Err-clause-some g c =
    let some = refused_by_some c.in-Err.error c.in-Err.ensures.some in
    subst IsRefusalOfSomeSpool (sym c.opening_refusal.ensures.exact) some

pub returns-in-Ok-clause-some : goal.returns-in-Ok-clause-some
returns-in-Ok-clause-some g c = each_not_of_spool c.tell_life.result c.tell_life.ensures.spool

pub returns-in-Ok-clause-unbegun : goal.returns-in-Ok-clause-unbegun
returns-in-Ok-clause-unbegun g c t cannot =
    absurd (next-begins (g.H.Host.view c.args.host.now).files c.in-Ok.spool.generation (c.in-Ok.ensures.opened t) cannot)
