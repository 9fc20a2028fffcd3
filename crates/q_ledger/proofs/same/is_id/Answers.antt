use Rattle.std.proofs.Common.{◌≡◌, Decides, subst, sym}
use Rattle.q_model.proofs.IdLaws.{id_eq-Decides}
use Rattle.q_ledger.proofs.same.is_id.Goals as goal

pub returns : goal.returns
returns c = subst (λ t. Decides t (c.args.a ≡ c.args.b)) (sym c.same_id.ensures) (id_eq-Decides c.args.a c.args.b)
