use Rattle.std.proofs.Common.{leb, leb-true, leb-false, rules}
use Rattle.std.proofs.lemmas.List.Sorted.{IsPartitionPoint-from_clause, IsPartitionedBy-leb}
use Rattle.q_agent.specs.declared.slot.Slot.{Slot}
use Rattle.q_agent.proofs.slot.place_above.Goals as goal

pub returns-clause-place : goal.returns-clause-place
returns-clause-place c =
    let parted = IsPartitionedBy-leb (λ (e : Slot). e.number) _ c.args.number c.requires in
    let point = IsPartitionPoint-from_clause (λ (e : Slot). leb e.number c.args.number) _ _ c.partition_point.ensures.partitioned parted (λ a r q k. search rules) in
    (λ k d from to. leb-true _ _ (point.0 k d from to), λ k d from to. leb-false _ _ (point.1 k d from to))
