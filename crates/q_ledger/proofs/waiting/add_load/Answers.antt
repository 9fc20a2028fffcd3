use Rattle.std.proofs.Common.{ap, ◌∙◌, List}
use Rattle.std.proofs.lemmas.Bool.{and_parts}
use Rattle.std.specs.List.{list_all}
use Rattle.std.specs.Map.{keys_of}
use Rattle.std.specs.Prelude.{Vec}
use Rattle.std.specs.declared.alloc.Global.{Global}
use Rattle.indexmap.proofs.CallerLemmas.{insert_entry-new}
use Rattle.q_model.specs.Ids.{are_distinct}
use Rattle.q_model.specs.contracts.id.IdPartialEq.TheImpl.{eq-value}
use Rattle.q_model.specs.declared.id.Id.{Id}
use Rattle.q_model.specs.declared.rows.Row.{Row}
use Rattle.q_ledger.proofs.KeyLaws.{same_key}
use Rattle.q_ledger.proofs.LoadedRows.{absent, added_loads, added_rows}
use Rattle.q_ledger.specs.Loads.{are_loads, is_load, rows_of_loads}
use Rattle.q_ledger.proofs.waiting.add_load.Goals as goal

pub returns-clause-rows : goal.returns-clause-rows
returns-clause-rows c =
    let loads = c.args.loads.now.entries in
    let each = (and_parts (list_all is_load loads) (are_distinct (keys_of loads)) c.requires.loads).0 in
    let none = (absent (eq-value.it c.args.id) c.args.id loads (same_key c.args.id) each c.requires.fresh).0 in
    ap (λ (ls : List (Id × Vec Row Global)). rows_of_loads ls) (c.in_ok-insert.ensures.entries ∙ insert_entry-new (λ a b. eq-value.it a b) c.args.loads.now c.args.id c.args.rows none)
    ∙ added_rows c.args.id loads c.args.rows

pub returns-clause-loads : goal.returns-clause-loads
returns-clause-loads c =
    let loads = c.args.loads.now.entries in
    let each = (and_parts (list_all is_load loads) (are_distinct (keys_of loads)) c.requires.loads).0 in
    let none = absent (eq-value.it c.args.id) c.args.id loads (same_key c.args.id) each c.requires.fresh in
    ap (λ (ls : List (Id × Vec Row Global)). are_loads ls) (c.in_ok-insert.ensures.entries ∙ insert_entry-new (λ a b. eq-value.it a b) c.args.loads.now c.args.id c.args.rows none.0)
    ∙ added_loads c.args.id loads c.args.rows c.requires.loads (c.requires.some, c.requires.own) none.1
