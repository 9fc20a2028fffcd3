use Rattle.std.proofs.Common.{◌∙◌, ◌++◌, add-one, ap, sym, take}
use Rattle.q_ledger.proofs.LoadedRows.{part_more}
use Rattle.q_ledger.specs.Loads.{rows_of_loads}
use Rattle.q_ledger.proofs.waiting.load_at.Goals as goal

pub returns : goal.returns
returns c =
    let loads = c.args.loads.now.entries in
    ap (λ n. rows_of_loads (take n loads)) (add-one c.args.i)
    ∙ part_more loads c.args.i c.index.result.now c.index.ensures
    ∙ ap (λ rs. rows_of_loads (take c.args.i loads) ++ rs) (sym c.as_slice.ensures.value)
