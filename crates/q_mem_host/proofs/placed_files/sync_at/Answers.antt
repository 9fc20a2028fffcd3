use Rattle.std.proofs.Common.{refl}
use Rattle.q_mem_host.specs.Kept.{synced}
use Rattle.q_mem_host.proofs.Edits.{at_in, file_by, order_set}
use Rattle.q_mem_host.proofs.placed_files.sync_at.Goals as goal

pub returns-in-Some-clause-synced : goal.returns-in-Some-clause-synced
returns-in-Some-clause-synced c = file_by c.args.files.now.items c.in-Some.i c.args.area c.args.name c.requires.order (at_in _ _ _ _ _ c.deref.ensures.value c.in-Some.ensures.some) c.index_mut.result.now c.index_mut.ensures.value synced _ refl refl c.sync.ensures

pub returns-in-Some-clause-order : goal.returns-in-Some-clause-order
returns-in-Some-clause-order c =
    let at = at_in _ c.args.files.now.items _ _ _ c.deref.ensures.value c.in-Some.ensures.some in
    order_set c.args.files.now.items c.in-Some.i c.index_mut.result.now _ c.requires.order at.within c.index_mut.ensures.value refl refl
