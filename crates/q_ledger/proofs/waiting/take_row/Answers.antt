use Rattle.std.proofs.Common.{◌≡◌, ◌∙◌, [], ap, sym, find, List, Option, false, length}
use Rattle.std.specs.List.{list_any}
use Rattle.std.specs.Map.{remove_entry}
use Rattle.std.specs.Option.{option_map_or}
use Rattle.std.specs.Prelude.{◌==◌, Vec}
use Rattle.std.specs.declared.alloc.Global.{Global}
use Rattle.indexmap.specs.IndexMap.{IndexMap}
use Rattle.q_model.specs.Starts.{is_row}
use Rattle.q_model.specs.contracts.id.IdPartialEq.TheImpl.{eq-value}
use Rattle.q_model.specs.declared.id.Id.{Id}
use Rattle.q_model.specs.declared.rows.Row.{Row}
use Rattle.q_ledger.proofs.KeyLaws.{same_key}
use Rattle.q_ledger.proofs.LoadedRows.{any_in_load, emptied_rows, found_in_load, left_loads, no_items, set_and_gone, taken_left, taken_loads}
use Rattle.q_ledger.proofs.PartLaws.{nothing_dropped}
use Rattle.q_ledger.proofs.RowLaws.{row_is_own}
use Rattle.q_ledger.specs.Loads.{are_loads, rows_of_loads}
use Rattle.q_ledger.proofs.waiting.take_row.Goals as goal

abbrev items : Option (Vec Row Global) → List Row
items o = option_map_or (λ (rows : Vec Row Global). rows.items) o []

abbrev rows : List (Id × Vec Row Global) → List Row
rows loads = rows_of_loads loads

pub returns-in-None-clause-row : goal.returns-in-None-clause-row
returns-in-None-clause-row c =
    let p = is_row c.args.id c.args.site.now c.args.positions.now in
    ap (λ o. find p (items o)) c.in-None.ensures.value
    ∙ sym (found_in_load (eq-value.it c.args.id) c.args.id p c.args.loads.now.entries (same_key c.args.id) (row_is_own c.args.id c.args.site.now c.args.positions.now) c.requires)

pub returns-in-None-clause-left : goal.returns-in-None-clause-left
returns-in-None-clause-left c =
    let p = is_row c.args.id c.args.site.now c.args.positions.now in
    let loads = c.args.loads.now.entries in
    let none : list_any p (rows loads) ≡ false =
    any_in_load (eq-value.it c.args.id) c.args.id p loads (same_key c.args.id) (row_is_own c.args.id c.args.site.now c.args.positions.now) c.requires
    ∙ ap (λ o. list_any p (items o)) (sym c.in-None.ensures.value) in
    ap (λ (m : IndexMap Id (Vec Row Global) _). rows m.entries) c.get_mut.follows.holds-at-none ∙ sym (nothing_dropped p (rows loads) none)

pub returns-then-is_empty-clause-row : goal.returns-then-is_empty-clause-row
returns-then-is_empty-clause-row c =
    let p = is_row c.args.id c.args.site.now c.args.positions.now in
    c.take_from-row.ensures.row
    ∙ ap (λ o. find p (items o)) c.in-Some.ensures.value
    ∙ sym (found_in_load (eq-value.it c.args.id) c.args.id p c.args.loads.now.entries (same_key c.args.id) (row_is_own c.args.id c.args.site.now c.args.positions.now) c.requires)

pub returns-then-is_empty-clause-left : goal.returns-then-is_empty-clause-left
returns-then-is_empty-clause-left c =
    let p = is_row c.args.id c.args.site.now c.args.positions.now in
    let test = eq-value.it c.args.id in
    let loads = c.args.loads.now.entries in
    let w = c.take_from-row.new.rows in
    let none : w.items ≡ [] = no_items w.items (sym (c.is_empty.ensures ∙ ap (λ (rs : List Row). length rs == 0) c.as_slice.ensures.value) ∙ c.if-is_empty.true) in
    ap rows (c.shift_remove.ensures.entries ∙ ap (λ ls. remove_entry test ls) (c.get_mut.follows.holds w).0 ∙ set_and_gone test loads w)
    ∙ emptied_rows test loads w none
    ∙ taken_left test c.args.id p loads c.in-Some.rows.now w (same_key c.args.id) (row_is_own c.args.id c.args.site.now c.args.positions.now) c.requires (sym c.in-Some.ensures.value) c.take_from-row.ensures.left

pub returns-then-is_empty-clause-loads : goal.returns-then-is_empty-clause-loads
returns-then-is_empty-clause-loads c =
    let test = eq-value.it c.args.id in
    let loads = c.args.loads.now.entries in
    let w = c.take_from-row.new.rows in
    ap (λ (ls : List (Id × Vec Row Global)). are_loads ls) (c.shift_remove.ensures.entries ∙ ap (λ ls. remove_entry test ls) (c.get_mut.follows.holds w).0 ∙ set_and_gone test loads w)
    ∙ left_loads test loads c.requires

pub returns-else-is_empty-clause-row : goal.returns-else-is_empty-clause-row
returns-else-is_empty-clause-row c =
    let p = is_row c.args.id c.args.site.now c.args.positions.now in
    c.take_from-row.ensures.row
    ∙ ap (λ o. find p (items o)) c.in-Some.ensures.value
    ∙ sym (found_in_load (eq-value.it c.args.id) c.args.id p c.args.loads.now.entries (same_key c.args.id) (row_is_own c.args.id c.args.site.now c.args.positions.now) c.requires)

pub returns-else-is_empty-clause-left : goal.returns-else-is_empty-clause-left
returns-else-is_empty-clause-left c =
    let p = is_row c.args.id c.args.site.now c.args.positions.now in
    let test = eq-value.it c.args.id in
    let loads = c.args.loads.now.entries in
    let w = c.take_from-row.new.rows in
    ap rows (c.get_mut.follows.holds w).0
    ∙ taken_left test c.args.id p loads c.in-Some.rows.now w (same_key c.args.id) (row_is_own c.args.id c.args.site.now c.args.positions.now) c.requires (sym c.in-Some.ensures.value) c.take_from-row.ensures.left

pub returns-else-is_empty-clause-loads : goal.returns-else-is_empty-clause-loads
returns-else-is_empty-clause-loads c =
    let p = is_row c.args.id c.args.site.now c.args.positions.now in
    let test = eq-value.it c.args.id in
    let loads = c.args.loads.now.entries in
    let w = c.take_from-row.new.rows in
    ap (λ (ls : List (Id × Vec Row Global)). are_loads ls) (c.get_mut.follows.holds w).0
    ∙ taken_loads test c.args.id p loads c.in-Some.rows.now w (same_key c.args.id) c.requires (sym c.in-Some.ensures.value) c.take_from-row.ensures.left (sym (c.is_empty.ensures ∙ ap (λ (rs : List Row). length rs == 0) c.as_slice.ensures.value) ∙ c.if-is_empty.false)
