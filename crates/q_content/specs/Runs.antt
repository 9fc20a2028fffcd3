-- Bytes within a line that are sent as they are.
use Rattle.std.specs.Prelude.{◌≡◌, ◌||◌, ◌==◌, Bool, List, ℕ}
use Rattle.q_content.specs.Encoding.{behind_bytes, sent_bytes}
use Rattle.q_content.specs.declared.encoding.ContentLine.{ContentLine}

-- a CR or an LF
abbrev pub ends_run : ℕ → Bool
ends_run b = (b == 10) || (b == 13)

-- bytes that are sent as they are, and leave the line as it was
pub record IsPlain (l : ContentLine) (bytes : List ℕ) : Type 0 where
  pub sent : sent_bytes l bytes ≡ bytes
  pub line : behind_bytes l bytes ≡ l
