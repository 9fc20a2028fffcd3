-- Whether a recipient's mark is set, and whether it is sure to outlive a crash.
use Rattle.std.specs.Prelude.{Bool, false, true}
use Rattle.q_model.specs.declared.rows.Mark.{Mark}
use Rattle.q_model.specs.declared.rows.Mark.TheVariants as marks

-- the mark is set
abbrev pub is_marked : Mark → Bool
is_marked marks.Unmarked = false
is_marked marks.Written = true
is_marked marks.Synced = true

-- the mark is set, and a crash may still lose it
abbrev pub is_written : Mark → Bool
is_written marks.Unmarked = false
is_written marks.Written = true
is_written marks.Synced = false

-- a mark that is set is sure to outlive a crash
abbrev pub sync_mark : Mark → Mark
sync_mark marks.Unmarked = marks.Unmarked
sync_mark marks.Written = marks.Synced
sync_mark marks.Synced = marks.Synced
