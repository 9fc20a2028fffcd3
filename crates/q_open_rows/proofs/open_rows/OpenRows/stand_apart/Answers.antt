use Rattle.std.proofs.Common.{subst}
use Rattle.q_open_rows.proofs.Numbered.{apart_rows}
use Rattle.q_open_rows.specs.Opened.{AreApart, Opened}
use Rattle.q_open_rows.proofs.open_rows.OpenRows.stand_apart.Goals as goal

pub returns-clause-apart : goal.returns-clause-apart
returns-clause-apart c = subst (λ (o : Opened). AreApart o.items) c.self.view_is (apart_rows c.self.inside.rows.items c.stand_apart.ensures.keys)
