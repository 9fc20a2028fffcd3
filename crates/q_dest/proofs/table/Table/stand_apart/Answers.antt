use Rattle.std.proofs.Common.{subst}
use Rattle.q_dest.proofs.Numbered.{apart_dests}
use Rattle.q_dest.specs.Dests.{AreApart, Dests}
use Rattle.q_dest.proofs.table.Table.stand_apart.Goals as goal

pub returns-clause-apart : goal.returns-clause-apart
returns-clause-apart c = subst (λ (p : Dests). AreApart p.items) c.self.view_is (apart_dests c.self.inside.dests.items c.stand_apart.ensures.keys)
