use Rattle.std.proofs.Common.{◌∙◌, sym, refl}
use Rattle.q_books.proofs.Results.{on_ok}
use Rattle.q_model.specs.declared.entry.Entry.TheVariants as entries
use Rattle.q_engine.proofs.Counting.{counts_core, counts_stay}
use Rattle.q_engine.proofs.HeardEvents.{allowed_by, done, stopped}
use Rattle.q_engine.proofs.QuietEvents.{trigger_book}
use Rattle.q_engine.proofs.StoredNotes.{files_keep, plain_notes}
use Rattle.q_engine.specs.Stands.{with_core}
use Rattle.q_engine.proofs.Boxed.{lent_agrees}
use Rattle.q_engine.proofs.engine.Engine.hear_trigger.Goals as goal

pub returns-clause-ok : goal.returns-clause-ok
returns-clause-ok g c = on_ok c.tell.result (λ told t w l h.
    let e = entries.Trigger c.args.kind in
    let engine = c.args.self.now in
    let core = c.event.ensures.exact w l (lent_agrees w l _ _ c.deref_mut.ensures.value h.core) e refl (allowed_by w l e h.core.living (sym h.core.matches.parts.timed ∙ c.requires.timed)) in
    done w l e engine (g.H.Host.view c.args.host.now) h (with_core c.event.new.self engine) l.book (g.H.Host.view c.tell.new.host) refl refl (λ id. refl) core
    (counts_stay w l e (with_core c.event.new.self engine) refl refl refl (counts_core engine c.event.new.self l h.counts)) (trigger_book w l c.args.kind) (told t l.book h.host)
    (plain_notes w l e (g.H.Host.view c.args.host.now) (g.H.Host.view c.tell.new.host) refl (files_keep (g.H.Host.view c.args.host.now) (g.H.Host.view c.tell.new.host) (c.tell.ensures.files t)))) c.tell.ensures.ok

pub returns-clause-err : goal.returns-clause-err
returns-clause-err g c error is t w l h =
    stopped w l (entries.Trigger c.args.kind) c.args.self.now (g.H.Host.view c.args.host.now) h l.book error (g.H.Host.view c.tell.new.host) (trigger_book w l c.args.kind) (c.tell.ensures.err error is t l.book h.host)
