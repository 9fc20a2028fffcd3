use Rattle.std.proofs.Common.{ap, refl}
use Rattle.q_ledger.proofs.StepLaws.{begun_holds}
use Rattle.q_ledger.specs.State.{State}
use Rattle.q_ledger.proofs.recount.Recount.new.Goals as goal

pub returns-clause-holds : goal.returns-clause-holds
returns-clause-holds c = begun_holds _ c.fronts_open.ensures c.is_in_range.ensures
    (record { begun = refl; living = refl; messages = ap (λ (s : State). s.ledger.book.messages) c.on_empty_spool.ensures })
