use Rattle.q_mem_host.specs.Left.{view_of}
use Rattle.q_load.proofs.Beginning.{new_stands}
use Rattle.q_load.proofs.loading.load.Goals as goal

pub run-requires : goal.run-requires
run-requires c = new_stands (view_of c.new-host.result) c.new-host.ensures.empty c.new-host.ensures.remains
