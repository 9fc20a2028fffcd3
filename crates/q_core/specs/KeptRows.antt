-- Whether a message has rows, by their counts.
use Rattle.std.specs.Prelude.{◌==◌, Bool, not, ◌||◌}
use Rattle.q_pool.specs.declared.kept.Kept.{Kept}

-- a row of the message is left
abbrev pub has_rows : Kept → Bool
has_rows k = not (k.waiting == 0) || not (k.flying == 0) || not (k.unsettled == 0)
