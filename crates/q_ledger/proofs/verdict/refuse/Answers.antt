use Rattle.std.proofs.Common.{ap, sym, ◌∙◌}
use Rattle.std.specs.Prelude.{if◌then◌else◌}
use Rattle.q_fronts.specs.Rules.{row_of}
use Rattle.q_ledger.specs.declared.recount.Judged.TheVariants.{Broken}
use Rattle.q_ledger.proofs.verdict.refuse.Goals as goal

pub returns-then-may : goal.returns-then-may
returns-then-may c = λ n k beside accounts begun.
    ap (λ b. Broken (if b then 20 else row_of c.args.entry.now)) (sym c.if-may.true ∙ c.may.ensures n k beside accounts begun)

pub returns-else-may : goal.returns-else-may
returns-else-may c = λ n k beside accounts begun.
    ap Broken c.row_of.ensures
    ∙ ap (λ b. Broken (if b then 20 else row_of c.args.entry.now)) (sym c.if-may.false ∙ c.may.ensures n k beside accounts begun)
