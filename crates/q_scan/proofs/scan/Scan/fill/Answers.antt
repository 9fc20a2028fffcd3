use Rattle.std.proofs.Common.{◌∙◌, ap, arith, inl, refl}
use Rattle.q_scan.specs.Walks.{Walk}
use Rattle.q_scan.proofs.WalkLaws.{some_left}
use Rattle.q_scan.proofs.scan.Scan.fill.Goals as goal

pub returns-then-self-len-clause-filled : goal.returns-then-self-len-clause-filled
returns-then-self-len-clause-filled g c t = inl (refl, λ none. some_left c.self.inside.names c.self.inside.next (omega arith) (ap (λ (w : Walk). w.ahead) c.self.view_is ∙ none))
