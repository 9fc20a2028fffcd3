-- Which moments entries may give, and how many recipients.
use Rattle.std.specs.Prelude.{◌≤◌, length}
use Rattle.q_model.specs.declared.entry.Entry.{Entry}
use Rattle.q_model.specs.declared.entry.Entry.TheVariants as entries

-- a moment that the entry gives is one that a clock may give, and a message has no more recipients than
-- a line of a trace
abbrev pub HasTime : Entry → Type 0
HasTime (entries.At t) = t ≤ 999990000000
HasTime (entries.Arrive id sender to content) = length to ≤ 50000
HasTime e = Unit {0}
