use Rattle.std.proofs.Common.{◌∙◌, ◌%◌, ap, Bool, option_map, refl, sym}
use Rattle.std.specs.Prelude.{find}
use Rattle.q_model.specs.declared.rows.Row.{Row}
use Rattle.q_positions.specs.Rows.{row_shown}
use Rattle.q_peers.specs.Buckets.{site_key}
use Rattle.q_peers.specs.Numbered.{is_at, Items, next_such}
use Rattle.q_chains.specs.Onward.{from_on}
use Rattle.q_chains.specs.Slots.{passes}
use Rattle.q_chains.proofs.Slots.{bucket_below}
use Rattle.q_chains.proofs.Steps.{goes_on}
use Rattle.q_peers.proofs.Keys.{site_bucket}
use Rattle.q_peers.proofs.Standing.{next_in_bucket, no_row, stands_filed}
use Rattle.q_peers.proofs.waiting.Waiting.next_at.Goals as goal

pub returns-in_err-row : goal.returns-in_err-row
returns-in_err-row c =
    let a = c.self.inside in
    let n = c.args.number in
    c.from_residual.ensures
    ∙ sym (no_row a.rows.rows a.order a.by_peer a.by_site a.live a.room c.self.invariant (λ r. is_at r.site) n (sym c.get.ensures ∙ ap (option_map row_shown) c.in_err-row.was))
    ∙ ap (λ (v : Items). next_such (λ r. is_at r.site) n v.items) c.self.view_is

pub next-from-requires : goal.next-from-requires
next-from-requires c =
    let a = c.self.inside in
    let r = row_shown c.in_ok-row.row in
    stands_filed a.rows.rows a.order a.by_peer a.by_site a.live a.room c.self.invariant site_key a.by_site c.self.invariant.by_site c.stand_once.ensures c.args.number r
    (sym c.get.ensures ∙ ap (option_map row_shown) c.in_ok-row.was) (bucket_below (site_key r) a.room c.self.invariant.some)

pub first_at_from-requires : goal.first_at_from-requires
first_at_from-requires c = goes_on c.args.number c.self.inside.by_site c.next-from.result c.next-from.ensures.is

pub returns : goal.returns
returns c =
    let a = c.self.inside in
    let n = c.args.number in
    let r = row_shown c.in_ok-row.row in
    let like : Row → Row → Bool = λ q. is_at q.site in
    c.first_at_from.ensures
    ∙ ap (λ o. find (passes (like r) a.rows.rows) (from_on o a.by_site.lists)) c.next-from.ensures.is
    ∙ next_in_bucket a.rows.rows a.order a.by_peer a.by_site a.live a.room c.self.invariant site_key a.by_site c.self.invariant.by_site c.stand_once.ensures like n r
    (sym c.get.ensures ∙ ap (option_map row_shown) c.in_ok-row.was) (bucket_below (site_key r) a.room c.self.invariant.some)
    (site_bucket r.site a.room (site_key r % a.room) refl)
    ∙ ap (λ (v : Items). next_such like n v.items) c.self.view_is
