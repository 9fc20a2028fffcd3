-- What is added to a table, message by message.
use Rattle.std.specs.Prelude.{◌++◌, List, None, Option, Some}
use Rattle.q_model.specs.Message.{Message, pending}
use Rattle.q_model.specs.SpoolFiles.{Files}
use Rattle.q_pending.specs.declared.pending.Pending.{Pending}
use Rattle.q_pending.specs.Readings.{IsPendingAhead}
use Rattle.q_shape.specs.Counted.{CanBeCounted}
use Rattle.q_shape.specs.Counts.{Count}
use Rattle.q_shape.specs.declared.age_table.AgeTable.{AgeTable}
use Rattle.q_shape.specs.declared.options.ShapeOptions.{ShapeOptions}
use Rattle.q_shape.specs.Rows.{HasCounted}

-- the one table has counted what the other has, and behind it this, where all can be counted
abbrev pub Adds : List Count → AgeTable → AgeTable → Type 0
Adds more old new = (o : ShapeOptions) (cs : List Count) → HasCounted o cs old
    → CanBeCounted (cs ++ more) → HasCounted o (cs ++ more) new

-- all pending recipients of the message are ahead of the reader, which there is
abbrev pub IsOpened : Files → Message → Option Pending → Type 0
IsOpened f m None = ⊥
IsOpened f m (Some p) = IsPendingAhead f m p (pending m)
