-- What a script says of the reads and writes of a link.
use Rattle.std.specs.Prelude.{◌∷◌, ◌==◌, ◌-◌, ◌^◌, [], drop, filter, if◌then◌else◌, length, List, min, nat_lt, ◌++◌, Bool, None, Option, Some, ℕ}
use Rattle.std.specs.List.{list_any}
use Rattle.q_link.specs.declared.link.Got.{Got}
use Rattle.q_link.specs.declared.link.Got.TheVariants as got
use Rattle.q_link.specs.declared.link.Put.{Put}
use Rattle.q_link.specs.declared.link.Put.TheVariants as put
use Rattle.q_link.specs.Records.{counted}
use Rattle.q_link.specs.WaitsLeft.{waits_sum}

-- what a read meets: bytes, nothing yet, the end, or a failure
pub data Step : Type 0 where
  piece : List ℕ → Step
  not_yet : Step
  end : Step
  failure : Step

-- The numbers of the writes that answer `NotYet` and of those that fail, counted from 1, and how
-- many writes there were.
pub record WritePlan : Type 0 where
  pub not_yet : List ℕ
  pub failing : List ℕ
  pub calls : ℕ

-- what reads meet, one after another, and what writes do
pub record Script : Type 0 where
  pub steps : List Step
  pub writes : WritePlan

-- nothing comes, and each write is taken
abbrev pub empty_script : Script
empty_script = record { steps = []; writes = record { not_yet = []; failing = []; calls = 0 } }

-- one step more
abbrev pub with_step : Step → Script → Script
with_step step s = record s { steps = s.steps ++ step ∷ [] }

-- one write more that answers `NotYet`
abbrev pub with_not_yet_write : ℕ → Script → Script
with_not_yet_write call s = record s {
  writes = record s.writes { not_yet = s.writes.not_yet ++ call ∷ [] };
}

-- one write more that fails
abbrev pub with_failing_write : ℕ → Script → Script
with_failing_write call s = record s {
  writes = record s.writes { failing = s.writes.failing ++ call ∷ [] };
}

-- the bytes of the next step
abbrev pub next_bytes : List Step → List ℕ
next_bytes [] = []
next_bytes (piece bytes ∷ steps) = bytes
next_bytes (not_yet ∷ steps) = []
next_bytes (end ∷ steps) = []
next_bytes (failure ∷ steps) = []

-- what a read into a buffer of so many bytes answers; behind the last step nothing comes yet
abbrev pub read_answer : List Step → ℕ → Got
read_answer [] room = got.NotYet
read_answer (piece bytes ∷ steps) room = got.Took (min room (length bytes))
read_answer (not_yet ∷ steps) room = got.NotYet
read_answer (end ∷ steps) room = got.End
read_answer (failure ∷ steps) room = got.Failed

-- the steps after it; what doesn't fit of a piece is the next one
abbrev pub steps_after : List Step → ℕ → List Step
steps_after [] room = []
steps_after (piece bytes ∷ steps) room =
    if nat_lt room (length bytes) then piece (drop room bytes) ∷ steps else steps
steps_after (not_yet ∷ steps) room = steps
steps_after (end ∷ steps) room = steps
steps_after (failure ∷ steps) room = steps

-- one write more
abbrev pub writes_after : WritePlan → WritePlan
writes_after w = record w { calls = counted w.calls 1 }

-- whether a number is among these
abbrev pub is_named : List ℕ → ℕ → Bool
is_named numbers n = list_any (λ k. k == n) numbers

-- what the next write answers, of so many bytes; one that is named twice fails
abbrev pub write_answer : WritePlan → ℕ → Put
write_answer w count =
    if is_named w.failing (counted w.calls 1) then put.Failed
    else if is_named w.not_yet (counted w.calls 1) then put.NotYet
    else put.Gave count

-- how often reads may still answer `NotYet`; behind the last step each does
abbrev pub steps_waits : List Step → Option ℕ
steps_waits [] = None
steps_waits (piece bytes ∷ steps) = steps_waits steps
steps_waits (not_yet ∷ steps) = waits_sum (Some 1) (steps_waits steps)
steps_waits (end ∷ steps) = Some 0
steps_waits (failure ∷ steps) = Some 0

-- How often writes may: so many numbers are still to come. The count of writes stands at its last
-- value, so where that is named each write from there on may.
abbrev pub writes_waits : WritePlan → Option ℕ
writes_waits w =
    if is_named w.not_yet (2 ^ 64 - 1) then None
    else Some (length (filter (λ k. nat_lt w.calls k) w.not_yet))

-- how often a link that follows this may
abbrev pub script_waits : Script → Option ℕ
script_waits s = waits_sum (steps_waits s.steps) (writes_waits s.writes)

-- how often links that follow these may, one after another; with none left a connect fails
abbrev pub scripts_waits : List Script → Option ℕ
scripts_waits [] = Some 0
scripts_waits (script ∷ scripts) = waits_sum (script_waits script) (scripts_waits scripts)
