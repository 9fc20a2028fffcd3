use Rattle.std.proofs.Common.{ap, ◌∙◌, option_map, sym}
use Rattle.std.specs.Option.{option_copied}
use Rattle.std.specs.Prelude.{find, nat_le}
use Rattle.q_pool.proofs.ListLaws.{first_ranked}
use Rattle.q_pool.specs.Pooled.{Pooled}
use Rattle.q_pool.specs.Ranks.{rank_of, value_of}
use Rattle.q_pool.proofs.pool.Pool.first_within.Goals as goal

pub returns-in-Some : goal.returns-in-Some
returns-in-Some c =
    let a = c.self.inside in
    ap (option_map value_of) (ap option_copied (sym c.in-Some.is) ∙ c.first_within.ensures)
    ∙ first_ranked a.sync_limit a.minimum c.args.rank a.register.items c.self.invariant
    ∙ ap (λ (p : Pooled). find (λ k. nat_le (rank_of p.sync_limit p.minimum k) c.args.rank) p.items) c.self.view_is

pub returns-in-None : goal.returns-in-None
returns-in-None c =
    let a = c.self.inside in
    ap (option_map value_of) (ap option_copied (sym c.in-None.is) ∙ c.first_within.ensures)
    ∙ first_ranked a.sync_limit a.minimum c.args.rank a.register.items c.self.invariant
    ∙ ap (λ (p : Pooled). find (λ k. nat_le (rank_of p.sync_limit p.minimum k) c.args.rank) p.items) c.self.view_is
