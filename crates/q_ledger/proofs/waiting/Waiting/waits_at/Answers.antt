use Rattle.std.proofs.Common.{◌≡◌, ◌∙◌, ◌+◌, ap, rules, sym, take, true}
use Rattle.std.proofs.lemmas.List.Folds.{list_any-append}
use Rattle.std.specs.List.{list_any}
use Rattle.std.specs.Prelude.{◌||◌}
use Rattle.q_model.specs.Sites.{site_eq}
use Rattle.q_model.specs.declared.rows.Row.{Row}
use Rattle.q_ledger.proofs.LoadedRows.{any_part}
use Rattle.q_ledger.specs.Loads.{rows_of_loads}
use Rattle.q_ledger.proofs.waiting.Waiting.waits_at.Goals as goal

pub returns-then-waits_among : goal.returns-then-waits_among
returns-then-waits_among c =
    let q = λ (r : Row). site_eq r.site c.args.site.now in
    let loads = c.self.inside.loads.entries in
    let i = c.loop-i.i in
    let here : list_any q c.load_at.result.now ≡ true = search rules in
    let part : list_any q (rows_of_loads (take (i + 1) loads)) ≡ true =
    ap (list_any q) c.load_at.ensures
    ∙ list_any-append q (rows_of_loads (take i loads)) c.load_at.result.now
    ∙ ap (λ b. b || list_any q c.load_at.result.now) c.loop-i.invariant ∙ here in
    sym (ap (list_any q) (sym c.self.view_is) ∙ any_part q (i + 1) loads part)
