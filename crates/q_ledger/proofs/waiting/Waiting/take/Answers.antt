use Rattle.std.proofs.Common.{◌≡◌, ◌∙◌, ◌+◌, ap, arith, length, List, sym}
use Rattle.q_model.specs.Lists.{drop_first}
use Rattle.q_model.specs.Starts.{is_row}
use Rattle.q_model.specs.declared.rows.Row.{Row}
use Rattle.q_ledger.proofs.PartLaws.{length_dropped, none_dropped, sum_dropped}
use Rattle.q_ledger.specs.Loads.{recipients_of, rows_of_loads}
use Rattle.q_ledger.proofs.waiting.Waiting.take.Goals as goal

pub invariant_of-self : goal.invariant_of-self
invariant_of-self c =
    let p = is_row c.args.id c.args.site.now c.args.positions.now in
    let rows = rows_of_loads c.self.inside.loads.entries in
    let all : recipients_of rows ≡ length c.in-Some.row.positions + recipients_of (drop_first p rows) =
    sum_dropped (λ (r : Row). length r.positions) p rows c.in-Some.row (sym c.in-Some.ensures.row) in
    let left : recipients_of (rows_of_loads c.take_row.new.loads.entries) ≡ recipients_of (drop_first p rows) = ap recipients_of c.take_row.ensures.left in
    let one : length rows ≡ 1 + length (drop_first p rows) = length_dropped p rows c.in-Some.row (sym c.in-Some.ensures.row) in
    let rest : length (rows_of_loads c.take_row.new.loads.entries) ≡ length (drop_first p rows) = ap (λ (rs : List Row). length rs) c.take_row.ensures.left in (
      c.take_row.ensures.loads,
      omega (arith, all, left, c.self.invariant.1, c.len.ensures, c.saturating_sub-self-inside.ensures),
      omega (arith, one, rest, c.self.invariant.2, c.saturating_sub-self-inside-in-Some.ensures),
    )

pub invariant_of-self-in-None : goal.invariant_of-self-in-None
invariant_of-self-in-None c =
    let p = is_row c.args.id c.args.site.now c.args.positions.now in
    let rows = rows_of_loads c.self.inside.loads.entries in
    let same = sym (c.take_row.ensures.left ∙ none_dropped p rows (sym c.in-None.ensures.row)) in (
      c.take_row.ensures.loads,
      c.self.invariant.1 ∙ ap recipients_of same,
      c.self.invariant.2 ∙ ap (λ (rs : List Row). length rs) same,
    )
