use Rattle.std.proofs.Common.{◌≡◌, Decides, subst, sym}
use Rattle.std.proofs.lemmas.Slice.Eq.{bytes_eq-Decides}
use Rattle.q_ledger.proofs.same.are_positions.Goals as goal

pub returns : goal.returns
returns c = subst (λ t. Decides t (c.args.a.now ≡ c.args.b.now)) (sym c.same_positions.ensures) (bytes_eq-Decides c.args.a.now c.args.b.now)
