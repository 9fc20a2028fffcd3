use Rattle.std.proofs.Common.{◌∙◌, ap}
use Rattle.q_peers.specs.Buckets.{peer_key}
use Rattle.std.specs.Prelude.{find}
use Rattle.q_chains.specs.Onward.{from_on}
use Rattle.q_chains.specs.Slots.{passes}
use Rattle.q_peers.specs.Numbered.{first_such, is_for, Items}
use Rattle.q_peers.proofs.Keys.{bucket_for}
use Rattle.q_chains.proofs.Steps.{begins}
use Rattle.q_peers.proofs.Standing.{first_in_bucket}
use Rattle.q_peers.proofs.waiting.Waiting.first_for.Goals as goal

pub first_for_from-requires : goal.first_for_from-requires
first_for_from-requires c = begins c.peer_bucket.result c.self.inside.by_peer c.first-from.result c.first-from.ensures.is

pub returns : goal.returns
returns c =
    let a = c.self.inside in
    let b = c.peer_bucket.result in
    let p = is_for c.args.id c.args.site.now in
    c.first_for_from.ensures
    ∙ ap (λ o. find (passes p a.rows.rows) (from_on o a.by_peer.lists)) c.first-from.ensures.is
    ∙ first_in_bucket a.rows.rows a.order a.by_peer a.by_site a.live a.room c.self.invariant peer_key a.by_peer c.self.invariant.by_peer c.first-from.ensures.once b p c.peer_bucket.ensures.below (bucket_for c.args.id c.args.site.now a.room b c.peer_bucket.ensures.is)
    ∙ ap (λ (v : Items). first_such p v.items) c.self.view_is
