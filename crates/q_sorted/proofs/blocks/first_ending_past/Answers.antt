use Rattle.std.proofs.Common.{[], of_calls, rules, sym}
use Rattle.std.proofs.lemmas.List.Sorted.{IsPartitionPoint-from_clause}
use Rattle.std.specs.Prelude.{not}
use Rattle.q_sorted.specs.Blocks.{ends_past}
use Rattle.q_sorted.proofs.Cuts.{blocks_turn, turns_at}
use Rattle.q_sorted.proofs.blocks.first_ending_past.Goals as goal

pub returns : goal.returns
returns c =
    let cut = c.args.cut.now in
    let lists = c.args.blocks.now in
    let point = IsPartitionPoint-from_clause (λ xs. not (ends_past cut xs)) lists _ c.partition_point.ensures.partitioned (blocks_turn 0 cut lists c.requires.rising c.requires.filled) (λ a r q k. search (rules, of_calls)) in
    sym (turns_at (ends_past cut) lists c.partition_point.result [] c.partition_point.ensures.bound point)
