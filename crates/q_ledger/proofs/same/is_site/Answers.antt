use Rattle.std.proofs.Common.{◌≡◌, Decides, subst, sym}
use Rattle.q_model.proofs.IdLaws.{site_eq-Decides}
use Rattle.q_ledger.proofs.same.is_site.Goals as goal

pub returns : goal.returns
returns c = subst (λ t. Decides t (c.args.a.now ≡ c.args.b.now)) (sym c.same_site.ensures) (site_eq-Decides c.args.a.now c.args.b.now)
