use Rattle.std.proofs.Common.{◌≡◌, arith, subst, sym, true}
use Rattle.q_bare.specs.CountedRows.{may_by}
use Rattle.q_ledger.proofs.FewLaws.{charge_paid}
use Rattle.q_ledger.proofs.SlotLaws.{rest_same}
use Rattle.q_ledger.specs.Accounting.{IsChargedWithin}
use Rattle.q_ledger.specs.Worlds.{world_of}
use Rattle.q_ledger.proofs.ledger.Ledger.charge_fits.Goals as goal

pub returns-in-Preempt : goal.returns-in-Preempt
returns-in-Preempt c = λ n beside few may.
    let w = world_of c.args.world.now in
    let l = c.args.self.now.ledger in
    let p = c.in-Preempt in
    let paid = charge_paid n w l p.child p.parent p.transport p.need (subst (λ e. may_by n w l e ≡ true) p.is may) in
    let left = rest_same c.args.self.now beside.counted p.parent p.transport in
    let begun = few.begun p.parent p.transport in
    let all = few.deliveries in
    let value = c.rest.ensures.value in
    let most = c.rest.ensures.few in
    subst (IsChargedWithin n) (sym p.is) (omega (arith, paid, left, begun, all, value, most))
