use Rattle.std.proofs.Common.{◌≤◌, length, subst, sym}
use Rattle.std.specs.List.{AllByRecursion}
use Rattle.q_held.proofs.Short.{rows_short}
use Rattle.q_held.proofs.Views.{plain_view}
use Rattle.q_held.specs.Held.{Held, plain, rows_of}
use Rattle.q_peers.specs.Numbered.{AreApart}
use Rattle.q_held.proofs.rows.Rows.stand_apart.Goals as goal

pub returns-clause-apart : goal.returns-clause-apart
returns-clause-apart c =
    let a = c.self.inside in
    subst (λ (v : Held). AreApart (plain v.items)) c.self.view_is
    (subst AreApart (sym (plain_view a.marks.marks a.waiting.items)) c.stand_apart.ensures.apart)

pub returns-clause-short : goal.returns-clause-short
returns-clause-short c =
    let a = c.self.inside in
    subst (λ (v : Held). AllByRecursion (λ r. length r.positions ≤ v.most) (rows_of v.items)) c.self.view_is (rows_short a.waiting.most a.marks.marks a.waiting.items c.stand_apart.ensures.short)
