-- Which rule an entry breaks that doesn't go on from a ledger.
use Rattle.std.specs.Prelude.{if◌then◌else◌, ℕ}
use Rattle.q_model.specs.declared.entry.Entry.{Entry}
use Rattle.q_model.specs.Ledger.{Ledger}
use Rattle.q_model.specs.Past.{has_entries, is_living}
use Rattle.q_model.specs.Settings.{World}
use Rattle.q_model.specs.Step.{may}
use Rattle.q_model.specs.declared.entry.Entry.TheVariants as entries

-- the number of the row that says where an entry of this kind is allowed
abbrev pub row_of : Entry → ℕ
row_of (entries.Life generation mode) = 1
row_of (entries.At t) = 2
row_of (entries.Arrive id sender to content) = 3
row_of (entries.Trigger kind) = 4
row_of (entries.Reply number state outcomes) = 5
row_of (entries.Skip id site positions) = 6
row_of (entries.Log id failure) = 7
row_of (entries.Mark id position) = 8
row_of (entries.Sync id) = 9
row_of (entries.Admit id) = 10
row_of (entries.Load id from to) = 11
row_of (entries.Preempt child parent transport need) = 12
row_of (entries.Start number id site positions) = 13
row_of (entries.Defer id due) = 14
row_of (entries.Back id) = 15
row_of (entries.Bounce id) = 16
row_of (entries.Remove id) = 17
row_of (entries.Corrupt id) = 18
row_of entries.End = 19

-- The number of its row where that doesn't allow it, and else 20, since it isn't what comes next. Before
-- the first life it is the row of `life`, and behind `end` that of `end`, whatever the entry is.
abbrev pub rule_in : World → Ledger → Entry → ℕ
rule_in w l e =
    if is_living l then (if may w l e then 20 else row_of e)
    else if has_entries l then 19 else 1
