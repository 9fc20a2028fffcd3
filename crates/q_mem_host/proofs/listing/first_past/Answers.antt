use Rattle.std.proofs.Common.{of_calls, rules, not}
use Rattle.std.proofs.lemmas.List.Sorted.{IsPartitionPoint-from_clause}
use Rattle.q_mem_host.specs.Order.{is_past}
use Rattle.q_mem_host.proofs.Searches.{cut_there, parted}
use Rattle.q_mem_host.proofs.listing.first_past.Goals as goal

pub returns : goal.returns
returns c =
    let a = c.args.area in
    let after = c.args.after.now in
    let es = c.args.files.now in
    let point = IsPartitionPoint-from_clause (λ e. not (is_past a after e)) es _ c.partition_point.ensures.partitioned (parted a after es c.requires) (λ x r f called. search (rules, of_calls)) in
    cut_there a after es c.partition_point.result c.partition_point.ensures.bound point
