-- No row has more positions than have room, held back or not.
use Rattle.std.proofs.Common.{◌≤◌, ◌∷◌, [], Bool, length, List, ℕ}
use Rattle.std.specs.List.{AllByRecursion}
use Rattle.q_held.specs.Held.{rows_of}
use Rattle.q_held.specs.Sound.{with_marks}
use Rattle.q_peers.specs.Numbered.{AreShort, Numbered}

pub rows_short : (most : ℕ) (marks : List Bool) (ks : List Numbered) → AreShort most ks → AllByRecursion (λ r. length r.positions ≤ most) (rows_of (with_marks marks ks))
rows_short most marks [] h = tt
rows_short most marks (k ∷ ks) h = (h.0, rows_short most marks ks h.1)
