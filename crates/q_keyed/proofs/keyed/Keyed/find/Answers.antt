use Rattle.std.proofs.Common.{◌∙◌, ◌%◌, ap}
use Rattle.std.specs.Prelude.{find}
use Rattle.q_chains.specs.Onward.{from_on}
use Rattle.q_keyed.specs.Numbered.{first_such, Items}
use Rattle.q_chains.specs.Slots.{passes}
use Rattle.q_chains.proofs.Steps.{begins}
use Rattle.q_keyed.proofs.Standing.{found}
use Rattle.q_keyed.proofs.keyed.Keyed.find.Goals as goal

pub find_from-requires : goal.find_from-requires
find_from-requires g c = begins c.bucket.result c.self.inside.by_key c.first-from.result c.first-from.ensures.is

pub returns-clause-is : goal.returns-clause-is
returns-clause-is g c =
    let a = c.self.inside in
    let k = c.args.key.now in
    let b = c.bucket.result in
    c.find_from.ensures
    ∙ ap (λ o. find (passes (λ t. g.T.HasKey.eq (g.T.HasKey.key_of t) k) a.items.items) (from_on o a.by_key.lists)) c.first-from.ensures.is
    ∙ found g.T.HasKey.eq g.T.HasKey.key_of g.T.HasKey.hash g.met.T.HasKey.is_same g.met.T.HasKey.is_own a.items.items a.order a.by_key a.live a.room c.self.invariant.0 k b (c.bucket.ensures.is ∙ ap (λ h. h % a.room) c.hash_of.ensures) c.bucket.ensures.below c.first-from.ensures.once
    ∙ ap (λ (v : Items g.row.T.Denot). first_such (λ t. g.T.HasKey.eq (g.T.HasKey.key_of t) k) v.items) c.self.view_is
