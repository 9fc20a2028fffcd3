use Rattle.std.proofs.Common.{◌≡◌, ◌++◌, flat_map, List, take}
use Rattle.q_shape.specs.declared.options.ShapeOptions.{ShapeOptions}
use Rattle.q_shape.specs.Counts.{Count}
use Rattle.q_shape.specs.Rows.{HasCounted}
use Rattle.q_shape.proofs.TextLaws.{seen_line}
use Rattle.q_shape.proofs.age_table.AgeTable.add_rows.Given as goal

abbrev pub invariant-loop-name : goal.invariant-loop-name
invariant-loop-name l = record {
  text : (o : ShapeOptions) (cs : List Count) → HasCounted o cs l.self → l.text.items ≡ l.fn.text.items ++ flat_map (seen_line o cs) (take l.name-index l.ranks);
}
