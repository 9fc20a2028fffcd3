use Rattle.std.proofs.Common.{◌∙◌, ap, refl, subst, Some, List, ℕ}
use Rattle.q_books.proofs.Calls.{tried}
use Rattle.q_books.proofs.Results.{on_ok}
use Rattle.q_books.specs.HostStands.{TellsCrashes}
use Rattle.q_core.specs.Queries.{skipped_in}
use Rattle.q_core.specs.declared.decision.Decision.TheVariants as decisions
use Rattle.q_core.specs.declared.state.Core.{Core}
use Rattle.q_model.specs.declared.entry.Entry.TheVariants as entries
use Rattle.q_engine.specs.Delays.{AddsDelays, row_outcomes}
use Rattle.q_engine.proofs.CarriedOut.{carried_behind, given_up_behind, refused, untouched}
use Rattle.q_engine.proofs.OwnNotes.{skip_stored}
use Rattle.q_engine.proofs.QuietEvents.{skip_book}
use Rattle.q_engine.proofs.SkippedEntries.{skip_decided}
use Rattle.q_engine.proofs.engine.Engine.skip.Goals as goal

pub returns-in_err-positions-clause-err : goal.returns-in_err-positions-clause-err
returns-in_err-positions-clause-err g c error is t w l n =
    untouched w l (decisions.Skip c.args.id c.args.site c.args.entry) n.0 c.args.self.now (g.H.Host.view c.args.host.now) n.1 error (record { only = g.met.H.Host.only_now c.args.host.now; told = g.met.H.Host.told_stays c.args.host.now })

pub returns-in_err-note_row-clause-err : goal.returns-in_err-note_row-clause-err
returns-in_err-note_row-clause-err g c error is t w l n =
    let d = decisions.Skip c.args.id c.args.site c.args.entry in
    let v = g.H.Host.view c.args.host.now in
    let ps = c.in_ok-positions.positions in
    let h = skip_decided w l c.args.id c.args.site c.args.entry c.args.self.now v ps (ap (λ (p : List ℕ). Some p) c.in_ok-positions.ensures ∙ c.in-Some.ensures ∙ ap (λ (k : Core). skipped_in k c.args.entry) c.deref.ensures) n in
    let lawful : TellsCrashes v = (record { only = g.met.H.Host.only_now c.args.host.now; told = g.met.H.Host.told_stays c.args.host.now }) in
    refused w l d (entries.Skip c.args.id c.args.site ps) c.args.self.now v h l.book error (g.H.Host.view c.note_row.new.host) (skip_book w l c.args.id c.args.site ps)
    (tried l.book l.book v (g.H.Host.view c.note_row.new.host) lawful (c.in_err-note_row.ensures.book t l.book h.host))

pub returns-clause-ok : goal.returns-clause-ok
returns-clause-ok g c = on_ok c.tell.result (λ told t w l n.
    let d = decisions.Skip c.args.id c.args.site c.args.entry in
    let v = g.H.Host.view c.args.host.now in
    let ps = c.in_ok-positions.positions in
    let h = skip_decided w l c.args.id c.args.site c.args.entry c.args.self.now v ps (ap (λ (p : List ℕ). Some p) c.in_ok-positions.ensures ∙ c.in-Some.ensures ∙ ap (λ (k : Core). skipped_in k c.args.entry) c.deref.ensures) n in
    let m = g.H.Host.view c.note_row.new.host in
    let x = g.H.Host.view c.tell.new.host in
    let takes = c.in_ok-note_row.ensures.book t l.book h.host in
    carried_behind w l d (entries.Skip c.args.id c.args.site ps) c.args.self.now v h l.book (g.H.Host.view c.note_row.new.host) (g.H.Host.view c.tell.new.host) (record { life = refl; arrive = refl; preempt = refl; stays = λ id. refl }) (skip_book w l c.args.id c.args.site ps) takes (told t l.book takes.stands)
    (skip_stored w l c.args.id c.args.site ps d c.args.self.now v m x h (subst (λ (xs : List ℕ). AddsDelays c.args.self.now.core.value c.args.id xs (row_outcomes xs) v.files m.files) c.as_slice.ensures (c.in_ok-note_row.ensures.noted t)) (c.in_ok-note_row.ensures.others t) (c.tell.ensures.files t))) c.tell.ensures.ok

pub returns-clause-err : goal.returns-clause-err
returns-clause-err g c error is t w l n =
    let d = decisions.Skip c.args.id c.args.site c.args.entry in
    let v = g.H.Host.view c.args.host.now in
    let ps = c.in_ok-positions.positions in
    let h = skip_decided w l c.args.id c.args.site c.args.entry c.args.self.now v ps (ap (λ (p : List ℕ). Some p) c.in_ok-positions.ensures ∙ c.in-Some.ensures ∙ ap (λ (k : Core). skipped_in k c.args.entry) c.deref.ensures) n in
    let takes = c.in_ok-note_row.ensures.book t l.book h.host in
    given_up_behind w l d (entries.Skip c.args.id c.args.site ps) c.args.self.now v h l.book error (g.H.Host.view c.note_row.new.host) (g.H.Host.view c.tell.new.host) (skip_book w l c.args.id c.args.site ps) takes (c.tell.ensures.err error is t l.book takes.stands)
