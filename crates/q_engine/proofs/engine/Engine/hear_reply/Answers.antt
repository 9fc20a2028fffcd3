use Rattle.std.proofs.Common.{◌≡◌, ◌∙◌, ℕ, List, Some, ap, length, refl, subst}
use Rattle.q_books.proofs.Calls.{tried}
use Rattle.q_books.proofs.Results.{on_ok}
use Rattle.q_books.specs.HostStands.{KeepsOtherNotes, TellsCrashes}
use Rattle.q_entries.proofs.Lines.{changed_does, changed_stops, may_stop}
use Rattle.q_model.specs.declared.entry.Entry.TheVariants as entries
use Rattle.q_model.specs.declared.id.Id.{Id}
use Rattle.q_model.specs.IdTexts.{id_text}
use Rattle.q_core.specs.Queries.{Flight}
use Rattle.q_transport.specs.Routing.{table_of}
use Rattle.q_engine.specs.Delays.{AddsDelays}
use Rattle.q_engine.proofs.Counting.{counts_core, counts_stay}
use Rattle.q_engine.proofs.HeardEvents.{allowed_by, done, not_done, stopped}
use Rattle.q_engine.proofs.OwnNotes.{reply_lengths, reply_stored}
use Rattle.q_engine.proofs.QuietEvents.{reply_book}
use Rattle.q_engine.specs.Stands.{with_core}
use Rattle.q_engine.proofs.Boxed.{lent_agrees}
use Rattle.q_engine.proofs.engine.Engine.hear_reply.Goals as goal

pub returns-clause-ok : goal.returns-clause-ok
returns-clause-ok g c = on_ok c.tell.result (λ told t w l h.
    let number = c.args.number in
    let state = c.args.site in
    let os = c.args.outcomes in
    let e = entries.Reply number state os in
    let engine = c.args.self.now in
    let v = g.H.Host.view c.args.host.now in
    let m = g.H.Host.view c.note_reply.new.host in
    let x = g.H.Host.view c.tell.new.host in
    let flight = c.in-Some.flight in
    let ps = c.in_ok-positions.positions in
    let takes = c.in_ok-note_reply.ensures.book t l.book h.host in
    let core = c.event.ensures.exact w l (lent_agrees w l _ _ c.deref_mut.ensures.value h.core) e refl (allowed_by w l e h.core.living (c.requires.fits w l h.core h.counts)) in
    let shown = c.in-Some.ensures.ledger w l (lent_agrees w l _ _ c.deref.ensures h.core) in
    let listed = ap (λ (p : List ℕ). Some p) c.in_ok-positions.ensures ∙ c.in-Some-entry_positions.ensures.ledger w l (lent_agrees w l _ _ c.deref-2.ensures h.core) in
    let fits = reply_lengths w l number state os engine v m x h flight ps shown listed (c.requires.fits w l h.core h.counts) in
    let named = ap (λ (f : Flight). f.id) c.flight-2.view_is in
    let noted = subst (λ (xs : List ℕ). length xs ≡ length os → AddsDelays c.event.new.self c.flight-2.inside.id xs os v.files m.files) c.as_slice.ensures (c.in_ok-note_reply.ensures.noted t) fits in
    let adds = subst (λ (i : Id). AddsDelays c.event.new.self i ps os v.files m.files) named noted in
    let others = subst (λ (i : Id). KeepsOtherNotes (id_text i) v m) named (c.in_ok-note_reply.ensures.others t) in
    done w l e engine v h (with_core c.event.new.self engine) l.book x refl refl (λ id. refl) core
    (counts_stay w l e (with_core c.event.new.self engine) refl refl refl (counts_core engine c.event.new.self l h.counts)) (reply_book w l number state os)
    (changed_does (table_of engine.table) e l.book l.book v m x takes (told t l.book takes.stands))
    (reply_stored w l number state os engine v m x h flight ps shown listed c.event.new.self core adds others (c.tell.ensures.files t))) c.tell.ensures.ok

pub returns-in_err-positions-clause-err : goal.returns-in_err-positions-clause-err
returns-in_err-positions-clause-err g c error is t w l h =
    not_done w l (entries.Reply c.args.number c.args.site c.args.outcomes) c.args.self.now (g.H.Host.view c.args.host.now) h error (record { only = g.met.H.Host.only_now c.args.host.now; told = g.met.H.Host.told_stays c.args.host.now })

pub returns-in_err-note_reply-clause-err : goal.returns-in_err-note_reply-clause-err
returns-in_err-note_reply-clause-err g c error is t w l h =
    let e = entries.Reply c.args.number c.args.site c.args.outcomes in
    let v = g.H.Host.view c.args.host.now in
    let m = g.H.Host.view c.note_reply.new.host in
    let lawful : TellsCrashes v = (record { only = g.met.H.Host.only_now c.args.host.now; told = g.met.H.Host.told_stays c.args.host.now }) in
    stopped w l e c.args.self.now v h l.book error m (reply_book w l c.args.number c.args.site c.args.outcomes)
    (may_stop (table_of c.args.self.now.table) e l.book l.book error v m (tried l.book l.book v m lawful (c.in_err-note_reply.ensures.book t l.book h.host)))

pub returns-clause-err : goal.returns-clause-err
returns-clause-err g c error is t w l h =
    let e = entries.Reply c.args.number c.args.site c.args.outcomes in
    let v = g.H.Host.view c.args.host.now in
    let takes = c.in_ok-note_reply.ensures.book t l.book h.host in
    stopped w l e c.args.self.now v h l.book error (g.H.Host.view c.tell.new.host) (reply_book w l c.args.number c.args.site c.args.outcomes)
    (changed_stops (table_of c.args.self.now.table) e l.book l.book v (g.H.Host.view c.note_reply.new.host) (g.H.Host.view c.tell.new.host) takes error (c.tell.ensures.err error is t l.book takes.stands))
