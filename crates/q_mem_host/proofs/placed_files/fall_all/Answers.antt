use Rattle.std.proofs.Common.{arith, ◌∙◌, ap, refl}
use Rattle.std.proofs.Math.ListN.{length-set}
use Rattle.q_mem_host.specs.Kept.{fallen}
use Rattle.q_mem_host.specs.Data.{kept}
use Rattle.q_mem_host.specs.declared.placed_files.PlacedFile.{PlacedFile}
use Rattle.q_mem_host.proofs.Crashes.{fall_more, rest_more, all_fallen}
use Rattle.q_mem_host.proofs.Edits.{order_set}
use Rattle.q_mem_host.proofs.placed_files.fall_all.Goals as goal

pub loop-i-preserved : goal.loop-i-preserved
loop-i-preserved c =
    let e = c.index_mut.result.now in
    let new : PlacedFile = record { area = e.area; name = e.name; file = c.fall.new.self } in
    record {
      done = fall_more c.args.choice c.loop-i.files.items c.args.files.now.items c.loop-i.i e new (omega arith) c.loop-i.invariant.long c.loop-i.invariant.left c.loop-i.invariant.done (ap (λ (x : PlacedFile). x.area) c.index_mut.ensures.value) (ap (λ (x : PlacedFile). x.name) c.index_mut.ensures.value) (c.fall.ensures ∙ ap (λ (x : PlacedFile). fallen c.args.choice (kept x.file)) c.index_mut.ensures.value);
      left = rest_more c.loop-i.files.items c.args.files.now.items c.loop-i.i new c.loop-i.invariant.left;
      long = length-set c.loop-i.files.items c.loop-i.i new ∙ c.loop-i.invariant.long;
      order = order_set c.loop-i.files.items c.loop-i.i e new c.loop-i.invariant.order (omega arith) c.index_mut.ensures.value refl refl;
    }

pub returns-clause-fallen : goal.returns-clause-fallen
returns-clause-fallen c = all_fallen c.args.choice c.loop-i.files.items c.args.files.now.items c.loop-i.i (omega arith) c.loop-i.invariant.long c.loop-i.invariant.done
