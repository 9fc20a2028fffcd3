use Rattle.std.proofs.Common.{of_calls, rules, sym}
use Rattle.std.proofs.lemmas.List.Sorted.{IsPartitionPoint-from_clause}
use Rattle.std.specs.Prelude.{not}
use Rattle.q_sorted.specs.Blocks.{is_past}
use Rattle.q_sorted.proofs.Cuts.{nothing, tickets_turn, turns_at}
use Rattle.q_sorted.proofs.block.place_of.Goals as goal

pub returns-clause-is : goal.returns-clause-is
returns-clause-is c =
    let cut = c.args.cut.now in
    let xs = c.args.tickets.now in
    let point = IsPartitionPoint-from_clause (λ x. not (is_past cut x)) xs _ c.partition_point.ensures.partitioned (tickets_turn cut xs c.requires) (λ a r q k. search (rules, of_calls)) in
    sym (turns_at (is_past cut) xs c.partition_point.result nothing c.partition_point.ensures.bound point)
