-- How far an event list is read.
use Rattle.std.specs.Prelude.{[], Bool, false, List, ℕ}

-- a reader of a list: the bytes that were taken and stand behind the last line, how many more the list may
-- have, how many lines were read, and whether `end` was among them
pub record EventsState : Type 0 where
  pub buffered : List ℕ
  pub budget : ℕ
  pub lines : ℕ
  pub ended : Bool

-- before the first line of a list, which may have 2^40 bytes
abbrev pub unread_list : EventsState
unread_list = record { buffered = []; budget = 1099511627776; lines = 0; ended = false }
