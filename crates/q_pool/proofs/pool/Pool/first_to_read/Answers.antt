use Rattle.std.proofs.Common.{◌+◌, ap, ◌∙◌, find, sym}
use Rattle.std.specs.Option.{option_copied}
use Rattle.std.specs.Prelude.{nat_le}
use Rattle.q_pool.proofs.ListLaws.{first_reader}
use Rattle.q_pool.specs.Ranks.{rank_of}
use Rattle.q_pool.proofs.pool.Pool.first_to_read.Goals as goal

pub returns-in-None : goal.returns-in-None
returns-in-None c =
    let now = c.args.self.now in
    c.first_within-in-None.ensures
    ∙ ap (λ n. find (λ k. nat_le (rank_of now.sync_limit now.minimum k) (3 + n)) now.items) c.from.ensures
    ∙ first_reader now.sync_limit now.minimum c.args.free c.ranges.free.fits now.items (sym c.first_within.ensures ∙ ap option_copied c.in-None.is)
