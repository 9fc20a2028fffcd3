use Rattle.std.proofs.Common.{◌∙◌, refl}
use Rattle.q_books.proofs.Results.{on_ok}
use Rattle.q_engine.specs.Delays.{row_outcomes}
use Rattle.q_engine.proofs.Delayed.{adds_none, adds_notes, made_rows, row_codes}
use Rattle.q_engine.proofs.engine.Engine.note_row.Goals as goal

pub returns-then-is_expired-clause-noted : goal.returns-then-is_expired-clause-noted
returns-then-is_expired-clause-noted g c t =
    let f = (g.H.Host.view c.args.host.now).files in
    let ps = c.args.positions.now in
    adds_none c.args.self.now.core.value c.args.id ps (row_outcomes ps) f f c.is_expired.result c.is_expired.ensures c.if-is_expired.true refl

pub returns-clause-noted : goal.returns-clause-noted
returns-clause-noted g c = on_ok c.note_all.result (λ noted t.
    let f = (g.H.Host.view c.args.host.now).files in
    let h = (g.H.Host.view c.note_all.new.host).files in
    let ps = c.args.positions.now in
    let made = c.as_slice.result.now in
    let is = c.as_slice.ensures ∙ c.in_ok-notes.ensures in
    adds_notes c.args.self.now.core.value c.args.id ps (row_outcomes ps) f h c.is_expired.result c.is_expired.ensures made c.if-is_expired.false (made_rows ps made is) (noted t (row_codes ps made is))) c.note_all.ensures.noted
