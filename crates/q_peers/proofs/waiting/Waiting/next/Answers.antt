use Rattle.std.proofs.Common.{◌∙◌, ap, option_map, sym}
use Rattle.q_positions.specs.Rows.{row_shown}
use Rattle.q_peers.specs.Numbered.{any_row, Items, next_such}
use Rattle.q_peers.proofs.Standing.{next_row, no_row}
use Rattle.q_peers.proofs.waiting.Waiting.next.Goals as goal

pub returns-in_err-_row : goal.returns-in_err-_row
returns-in_err-_row c =
    let a = c.self.inside in
    let n = c.args.number in
    c.from_residual.ensures
    ∙ sym (no_row a.rows.rows a.order a.by_peer a.by_site a.live a.room c.self.invariant (λ r. any_row) n (sym c.get.ensures ∙ ap (option_map row_shown) c.in_err-_row.was))
    ∙ ap (λ (v : Items). next_such (λ r. any_row) n v.items) c.self.view_is

pub returns : goal.returns
returns c =
    let a = c.self.inside in
    let n = c.args.number in
    c.next.ensures.is
    ∙ sym (next_row a.rows.rows a.order a.by_peer a.by_site a.live a.room c.self.invariant c.next.ensures.once n (row_shown c.in_ok-_row._row) (sym c.get.ensures ∙ ap (option_map row_shown) c.in_ok-_row.was))
    ∙ ap (λ (v : Items). next_such (λ r. any_row) n v.items) c.self.view_is
