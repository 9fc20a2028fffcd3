use Rattle.std.proofs.Common.{◌≡◌, ◌+◌, ◌++◌, length, take}
use Rattle.q_core.specs.Ties.{goes_to_dead}
use Rattle.q_held.specs.Held.{AreHeldBy, rows_of}
use Rattle.q_core.proofs.rows.add_all.Given as goal

abbrev pub invariant-loop-place : goal.invariant-loop-place
invariant-loop-place l =
    (rows_of l.waiting.items ≡ rows_of l.fn.waiting.items ++ take l.place l.rows.rows)
    × (l.waiting.room ≡ l.fn.waiting.room)
    × (l.waiting.most ≡ l.fn.waiting.most)
    × (length l.waiting.items ≡ length l.fn.waiting.items + l.place)
    × (AreHeldBy (goes_to_dead l.sites.items) l.fn.waiting.items → AreHeldBy (goes_to_dead l.sites.items) l.waiting.items)
