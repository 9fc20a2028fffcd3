use Rattle.std.proofs.Common.{◌≡◌, ◌∙◌, ap, length, List, not, sym}
use Rattle.std.proofs.lemmas.List.{with_items_is}
use Rattle.std.specs.Prelude.{Bool, ◌==◌}
use Rattle.q_ledger.proofs.ListLaws.{length-numbered}
use Rattle.q_ledger.specs.Changed.{with_ledger}
use Rattle.q_ledger.specs.LinesLeft.{line_by, lines_by, rows_of, with_lines_left}
use Rattle.q_ledger.specs.Held.{unread_in}
use Rattle.q_ledger.specs.State.{State}
use Rattle.q_ledger.specs.contracts.ledger.Ledger.{the_view}
use Rattle.q_model.specs.declared.id.Id.{Id}
use Rattle.q_model.specs.declared.rows.Row.{Row}
use Rattle.q_ledger.proofs.ledger.Ledger.tidy_lines.Goals as goal

pub returns : goal.returns
returns c =
    let id = c.args.id in
    let old = c.self.inside.lines in
    let lines = c.tidy_lines.new.lines in
    let s = the_view c.self.inside in
    let left = λ (rows : List Row) (unread : Bool). lines_by rows unread id old.items in
    let rows = c.of.result.now in
    let some = not (c.unread-unread.result == 0) in
    let done : lines ≡ left rows some = c.tidy_lines.ensures ∙ ap (lines_by rows some id) c.deref_mut.ensures.value in
    let many : length lines ≡ old.len = ap length done ∙ length-numbered (line_by rows some id) 0 old.items ∙ sym old.ok.0 in
    ap (λ (ls : List (List Id)). with_ledger s (record s.ledger { lines = ls })) (with_items_is old lines many ∙ done ∙ ap (λ (rs : List Row). left rs some) c.of.ensures ∙ ap (λ n. left (rows_of s.ledger id) (not (n == 0))) c.unread-unread.ensures
    ∙ ap (λ (x : State). left (rows_of s.ledger id) (not (unread_in x id == 0))) (sym c.self.view_is))
    ∙ ap (with_lines_left id) c.self.view_is
