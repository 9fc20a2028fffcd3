use Rattle.std.proofs.Common.{◌∙◌, ap}
use Rattle.q_peers.specs.Buckets.{site_key}
use Rattle.std.specs.Prelude.{find}
use Rattle.q_chains.specs.Onward.{from_on}
use Rattle.q_chains.specs.Slots.{passes}
use Rattle.q_peers.specs.Numbered.{first_such, is_at, Items}
use Rattle.q_peers.proofs.Keys.{site_bucket}
use Rattle.q_chains.proofs.Steps.{begins}
use Rattle.q_peers.proofs.Standing.{first_in_bucket}
use Rattle.q_peers.proofs.waiting.Waiting.first_at.Goals as goal

pub first_at_from-requires : goal.first_at_from-requires
first_at_from-requires c = begins c.site_bucket.result c.self.inside.by_site c.first-from.result c.first-from.ensures.is

pub returns : goal.returns
returns c =
    let a = c.self.inside in
    let b = c.site_bucket.result in
    let p = is_at c.args.site.now in
    c.first_at_from.ensures
    ∙ ap (λ o. find (passes p a.rows.rows) (from_on o a.by_site.lists)) c.first-from.ensures.is
    ∙ first_in_bucket a.rows.rows a.order a.by_peer a.by_site a.live a.room c.self.invariant site_key a.by_site c.self.invariant.by_site c.first-from.ensures.once b p c.site_bucket.ensures.below (site_bucket c.args.site.now a.room b c.site_bucket.ensures.is)
    ∙ ap (λ (v : Items). first_such p v.items) c.self.view_is
