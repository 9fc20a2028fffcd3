-- How often links may still answer `NotYet`, where that is known.
use Rattle.std.specs.Prelude.{◌+◌, ◌≡◌, ◌≤◌, None, Option, Some, ℕ}
use Rattle.q_link.specs.Views.{ForRead, ForWrite, NoWait, Wait}

-- of two together, where it is known of both
abbrev pub waits_sum : Option ℕ → Option ℕ → Option ℕ
waits_sum (Some a) (Some b) = Some (a + b)
waits_sum (Some a) None = None
waits_sum None b = None

-- Where it was known it still is, and at least so many fewer are left.
abbrev pub Spares : ℕ → Option ℕ → Option ℕ → Type 0
Spares count None new = Unit {0}
Spares count (Some before) new = (left : ℕ) × (new ≡ Some left) × (left + count ≤ before)

-- how many are spent by a call that leaves a link waiting so
abbrev pub waits_spent : Wait → ℕ
waits_spent NoWait = 0
waits_spent ForRead = 1
waits_spent ForWrite = 1
