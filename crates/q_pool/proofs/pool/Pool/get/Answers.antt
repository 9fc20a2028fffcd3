use Rattle.std.proofs.Common.{ap, ◌∙◌, sym, option_map}
use Rattle.std.specs.Option.{option_copied}
use Rattle.std.specs.Prelude.{find}
use Rattle.q_pool.proofs.PoolLaws.{found_value}
use Rattle.q_pool.specs.Kept.{is_of}
use Rattle.q_pool.specs.Pooled.{Pooled}
use Rattle.q_pool.specs.Ranks.{value_of}
use Rattle.q_pool.proofs.pool.Pool.get.Goals as goal

pub returns-in-Some : goal.returns-in-Some
returns-in-Some c =
    let a = c.self.inside in
    ap (option_map value_of) (ap option_copied (sym c.in-Some.is) ∙ c.get.ensures)
    ∙ found_value a.sync_limit a.minimum c.args.id a.register.items c.self.invariant
    ∙ ap (λ (p : Pooled). find (is_of c.args.id) p.items) c.self.view_is

pub returns-in-None : goal.returns-in-None
returns-in-None c =
    let a = c.self.inside in
    ap (option_map value_of) (ap option_copied (sym c.in-None.is) ∙ c.get.ensures)
    ∙ found_value a.sync_limit a.minimum c.args.id a.register.items c.self.invariant
    ∙ ap (λ (p : Pooled). find (is_of c.args.id) p.items) c.self.view_is
