use Rattle.std.proofs.Common.{[], ◌∙◌, ap, sym, List, Option}
use Rattle.std.specs.Option.{option_map_or}
use Rattle.std.specs.Prelude.{Vec}
use Rattle.std.specs.declared.alloc.Global.{Global}
use Rattle.q_model.specs.contracts.id.IdPartialEq.TheImpl.{eq-value}
use Rattle.q_model.specs.declared.rows.Row.{Row}
use Rattle.q_ledger.proofs.KeyLaws.{same_key}
use Rattle.q_ledger.proofs.LoadedRows.{of_message}
use Rattle.q_ledger.proofs.waiting.rows_of.Goals as goal

abbrev items : Option (Vec Row Global) → List Row
items o = option_map_or (λ (rows : Vec Row Global). rows.items) o []

pub returns-in-Some : goal.returns-in-Some
returns-in-Some c =
    c.as_slice.ensures.value
    ∙ ap items c.in-Some.ensures.value
    ∙ sym (of_message (eq-value.it c.args.id) c.args.id c.args.loads.now.entries (same_key c.args.id) c.requires)

pub returns-in-None : goal.returns-in-None
returns-in-None c =
    ap items c.in-None.ensures.value
    ∙ sym (of_message (eq-value.it c.args.id) c.args.id c.args.loads.now.entries (same_key c.args.id) c.requires)
