-- How many looks may come in a row.
use Rattle.std.specs.Prelude.{◌&&◌, ◌+◌, Bool, false, is_some, None, not, Option, Some, ℕ, ◌≡◌, ◌<◌, true}
use Rattle.q_model.specs.declared.rows.Request.{Request}
use Rattle.q_model.specs.declared.rows.Scan.{Scan}
use Rattle.q_core.specs.Changes.{is_known}
use Rattle.q_core.specs.declared.state.Core.{Core}
use Rattle.q_core.specs.declared.state.Question.{Question}
use Rattle.q_core.specs.declared.state.Question.TheVariants.{Active, Deferred, Incoming, Nothing, Recipients}
use Rattle.q_core.specs.declared.state.Seen.{Seen}
use Rattle.q_core.specs.declared.state.Seen.TheVariants.{Known, Unknown}

-- one, where nothing is known
abbrev pub unseen : Seen → ℕ
unseen Unknown = 1
unseen (Known found) = 0

-- of a scan, and of the one that is asked for meanwhile
abbrev pub unseen_scan : Seen → Option Scan → Option Request → ℕ
unseen_scan deferred None asked = 0
unseen_scan (Known found) (Some scan) asked = 0
unseen_scan Unknown (Some scan) None = 1
unseen_scan Unknown (Some scan) (Some request) = 2

-- how many looks may come before the next entry: at most four
abbrev pub looks_left : Core → ℕ
looks_left c = unseen c.active + unseen c.incoming + unseen_scan c.deferred c.scan c.asked

-- what a look asks for isn't known yet
abbrev pub is_unseen : Question → Core → Bool
is_unseen Nothing c = false
is_unseen Active c = not (is_known c.active)
is_unseen Incoming c = not (is_known c.incoming)
is_unseen Deferred c = is_some c.scan && not (is_known c.deferred)
is_unseen (Recipients id from max) c = false

-- where what was asked for was unseen, fewer looks are to come
abbrev pub LeavesFewer : Core → Core → Type 0
LeavesFewer old new = is_unseen old.question old ≡ true → looks_left new < looks_left old
