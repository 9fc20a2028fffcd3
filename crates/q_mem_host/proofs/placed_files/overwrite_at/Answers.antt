use Rattle.std.proofs.Common.{refl}
use Rattle.q_mem_host.specs.Kept.{overwritten}
use Rattle.q_mem_host.proofs.Edits.{at_in, file_by, file_reaches, file_same, order_set}
use Rattle.q_mem_host.proofs.Results.{on_any_err}
use Rattle.q_mem_host.proofs.placed_files.overwrite_at.Goals as goal

pub overwrite-requires : goal.overwrite-requires
overwrite-requires c = file_reaches c.args.files.now.items c.in-Some.i c.args.area c.args.name c.requires.order (at_in _ _ _ _ _ c.deref.ensures.value c.in-Some.ensures.some) c.index_mut.result.now c.index_mut.ensures.value c.args.at c.requires.reaches

pub returns-in_err-overwrite-clause-err : goal.returns-in_err-overwrite-clause-err
returns-in_err-overwrite-clause-err c = on_any_err c.from_residual.result
    (file_same c.args.files.now.items c.in-Some.i c.args.area c.args.name c.requires.order (at_in _ _ _ _ _ c.deref.ensures.value c.in-Some.ensures.some) c.index_mut.result.now c.index_mut.ensures.value _ refl refl c.in_err-overwrite.ensures.err)

pub returns-in_err-overwrite-clause-order : goal.returns-in_err-overwrite-clause-order
returns-in_err-overwrite-clause-order c =
    let at = at_in _ c.args.files.now.items _ _ _ c.deref.ensures.value c.in-Some.ensures.some in
    order_set c.args.files.now.items c.in-Some.i c.index_mut.result.now _ c.requires.order at.within c.index_mut.ensures.value refl refl

pub returns-in_ok-overwrite-clause-ok : goal.returns-in_ok-overwrite-clause-ok
returns-in_ok-overwrite-clause-ok c =
    file_by c.args.files.now.items c.in-Some.i c.args.area c.args.name c.requires.order (at_in _ _ _ _ _ c.deref.ensures.value c.in-Some.ensures.some) c.index_mut.result.now c.index_mut.ensures.value (overwritten c.args.at c.args.over.now) _ refl refl c.in_ok-overwrite.ensures.ok

pub returns-in_ok-overwrite-clause-order : goal.returns-in_ok-overwrite-clause-order
returns-in_ok-overwrite-clause-order c =
    let at = at_in _ c.args.files.now.items _ _ _ c.deref.ensures.value c.in-Some.ensures.some in
    order_set c.args.files.now.items c.in-Some.i c.index_mut.result.now _ c.requires.order at.within c.index_mut.ensures.value refl refl
