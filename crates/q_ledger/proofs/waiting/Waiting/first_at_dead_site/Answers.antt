use Rattle.std.proofs.Common.{◌≡◌, ◌∙◌, ◌+◌, ap, find, Some, sym, take}
use Rattle.std.proofs.lemmas.List.Folds.{find-append}
use Rattle.std.specs.Option.{option_or}
use Rattle.q_ledger.proofs.LoadedRows.{find_part}
use Rattle.q_ledger.specs.Loads.{rows_of_loads}
use Rattle.q_ledger.specs.Spaces.{is_dead_by}
use Rattle.q_model.specs.declared.rows.Row.{Row}
use Rattle.q_ledger.proofs.waiting.Waiting.first_at_dead_site.Goals as goal

pub returns-in-Some : goal.returns-in-Some
returns-in-Some c =
    let q = λ (r : Row). is_dead_by c.args.sites.now r.site in
    let loads = c.self.inside.loads.entries in
    let i = c.loop-i.i in
    let part : find q (rows_of_loads (take (i + 1) loads)) ≡ Some c.in-Some.row.now =
    ap (find q) c.load_at.ensures
    ∙ find-append q (rows_of_loads (take i loads)) c.load_at.result.now
    ∙ ap (λ o. option_or o (find q c.load_at.result.now)) c.loop-i.invariant
    ∙ sym c.in-Some.ensures in
    sym (ap (find q) (sym c.self.view_is) ∙ find_part q (i + 1) loads c.in-Some.row.now part)

pub loop-i-preserved : goal.loop-i-preserved
loop-i-preserved c =
    let q = λ (r : Row). is_dead_by c.args.sites.now r.site in
    let loads = c.self.inside.loads.entries in
    let i = c.loop-i.i in
    ap (find q) c.load_at.ensures
    ∙ find-append q (rows_of_loads (take i loads)) c.load_at.result.now
    ∙ ap (λ o. option_or o (find q c.load_at.result.now)) c.loop-i.invariant
    ∙ sym c.in-None.ensures
