use Rattle.std.proofs.Common.{◌≡◌, ◌∙◌, ℕ, ap, sym, refl, subst, max, arith}
use Rattle.std.specs.Prelude.{nat_le, true}
use Rattle.std.proofs.lemmas.Bool.{le-leb}
use Rattle.q_books.proofs.Results.{on_ok}
use Rattle.q_entries.specs.Entries.{DoesEntry, StopsEntry}
use Rattle.q_model.specs.declared.entry.Entry.TheVariants as entries
use Rattle.q_transport.specs.Routing.{table_of}
use Rattle.q_engine.proofs.Counting.{counts_core, counts_stay}
use Rattle.q_engine.proofs.HeardEvents.{allowed_by, done, stopped}
use Rattle.q_engine.proofs.QuietEvents.{moment_book}
use Rattle.q_engine.proofs.StoredNotes.{files_keep, plain_notes}
use Rattle.q_engine.specs.Stands.{with_core}
use Rattle.q_engine.proofs.Boxed.{lent_agrees}
use Rattle.q_engine.proofs.engine.Engine.hear_moment.Goals as goal

pub returns-clause-ok : goal.returns-clause-ok
returns-clause-ok g c = on_ok c.tell.result (λ told t w l h.
    let v = g.H.Host.view c.args.host.now in
    let x = g.H.Host.view c.tell.new.host in
    let n = max l.now c.args.moment in
    let e = entries.At n in
    let engine = c.args.self.now in
    let latest : c.later-latest.result ≡ n = c.later-latest.ensures ∙ ap (λ (m : ℕ). max m c.args.moment) (c.now.ensures.ledger w l (lent_agrees w l _ _ c.deref.ensures h.core)) in
    let later : nat_le l.now n ≡ true = le-leb l.now n (omega arith) in
    let does = subst (λ (m : ℕ). DoesEntry (table_of engine.table) (entries.At m) l.book l.book v x) latest (told t l.book h.host) in
    let core = c.event.ensures.exact w l (lent_agrees w l _ _ c.deref_mut.ensures.value h.core) e (ap (λ (m : ℕ). entries.At m) (sym latest)) (allowed_by w l e h.core.living later) in
    done w l e engine v h (with_core c.event.new.self engine) l.book x refl refl (λ id. refl) core
    (counts_stay w l e (with_core c.event.new.self engine) refl refl refl (counts_core engine c.event.new.self l h.counts)) (moment_book w l n) does (plain_notes w l e v x refl (files_keep v x (c.tell.ensures.files t)))) c.tell.ensures.ok

pub returns-clause-err : goal.returns-clause-err
returns-clause-err g c error is t w l h =
    let v = g.H.Host.view c.args.host.now in
    let x = g.H.Host.view c.tell.new.host in
    let n = max l.now c.args.moment in
    let latest : c.later-latest.result ≡ n = c.later-latest.ensures ∙ ap (λ (m : ℕ). max m c.args.moment) (c.now.ensures.ledger w l (lent_agrees w l _ _ c.deref.ensures h.core)) in
    stopped w l (entries.At n) c.args.self.now v h l.book error x (moment_book w l n)
    (subst (λ (m : ℕ). StopsEntry (table_of c.args.self.now.table) (entries.At m) l.book l.book error v x) latest (c.tell.ensures.err error is t l.book h.host))
