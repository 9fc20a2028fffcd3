-- What a host tells of a moment, and how its moments go on.
use Rattle.std.specs.Prelude.{◌≤◌, ◌⊎◌, ℕ, Bool, IsTrue, List}
use Rattle.q_model.specs.SpoolFiles.{Files}

-- what a crash leaves: the files, and what was told
pub record Remains : Type 0 where
  pub files : Files
  pub told : List ℕ

-- what a host tells of a moment
pub record View : Type 1 where
  -- what reads give, and what was told
  pub files : Files
  pub told : List ℕ
  -- what a crash at this moment may leave
  pub may_leave : Remains → Type 0
  -- a number that doesn't fall
  pub moment : ℕ
  -- what a crash at some moment from that one on may have left
  pub left_since : ℕ → Remains → Type 0

-- What a crash may leave now, it may have left since any moment up to now.
abbrev pub CountsNow : View → Type 0
CountsNow v = (t : ℕ) (c : Remains) → t ≤ v.moment → v.may_leave c → v.left_since t c

-- where a host tells, its views before and after a call have this relation
abbrev pub Told : {H : Type 0} → Bool → (H → View) → H → H → (View → View → Type 0) → Type 0
Told tells view before after R = IsTrue tells → R (view before) (view after)

-- what is there now
abbrev pub now : View → Remains
now v = record { files = v.files; told = v.told }

-- how what remains after a step comes from what might have remained before it
abbrev pub Step : Type 1
Step = Remains → Remains → Type 0

-- what may remain after a step is what might have remained before it
abbrev pub After : Step → (Remains → Type 0) → Remains → Type 0
After step before c = (d : Remains) × before d × step d c

-- Time goes on. What a crash may leave now comes by this step from what it might have left before;
-- what it may have left meanwhile, from what it might have left before or by the other step.
pub record Goes (step meanwhile : Step) (old new : View) : Type 0 where
  pub later : old.moment ≤ new.moment
  pub crash : (c : Remains) → new.may_leave c → After step old.may_leave c
  pub nothing_else : (t : ℕ) (c : Remains) → t ≤ old.moment → new.left_since t c
      → old.left_since t c ⊎ After meanwhile old.may_leave c
  pub keeps : (t : ℕ) (c : Remains) → t ≤ old.moment → old.left_since t c → new.left_since t c

-- A crash at any moment since old leaves what has P.
pub record LeavesOnly (old new : View) (P : Remains → Type 0) : Type 0 where
  pub later : old.moment ≤ new.moment
  pub each : (c : Remains) → new.left_since old.moment c → P c
  -- for a run that began earlier
  pub before : (t : ℕ) (c : Remains) → t ≤ old.moment → new.left_since t c → old.left_since t c ⊎ P c
