use Rattle.std.proofs.Common.{subst}
use Rattle.q_transport.specs.Lawful.{IsLawful}
use Rattle.q_transport.specs.Routing.{table_of}
use Rattle.q_transport.proofs.LawfulLaws.{lawful}
use Rattle.q_transport.proofs.table.Table.lawful.Goals as goal

pub returns : goal.returns
returns c = subst (λ contents. IsLawful (table_of contents)) c.self.view_is (lawful _ c.self.invariant)
