-- Content as it is sent, byte by byte (RFC 5321, section 4.5.2).
use Rattle.std.specs.Prelude.{◌&&◌, ◌++◌, ◌==◌, [], false, if◌then◌else◌, List, not, true, ℕ, ◌∷◌}
use Rattle.q_smtp.specs.ContentLines.{crlf}
use Rattle.q_content.specs.declared.encoding.ContentLine.{ContentLine}

-- no byte of a line came yet
abbrev pub line_start : ContentLine
line_start = record { begun = false; held = false }

-- a byte of it was sent, and nothing is held back
abbrev pub within_line : ContentLine
within_line = record { begun = true; held = false }

-- a CR that was held back
abbrev pub held_back : ContentLine → List ℕ
held_back l = if l.held then 13 ∷ [] else []

-- what a byte adds
abbrev pub sent_byte : ContentLine → ℕ → List ℕ
sent_byte l b =
    if b == 10 then crlf
    else (if b == 13 then held_back l
    else (if (b == 46) && not l.begun then held_back l ++ 46 ∷ b ∷ [] else held_back l ++ b ∷ []))

-- the line behind a byte
abbrev pub behind_byte : ContentLine → ℕ → ContentLine
behind_byte l b =
    if b == 10 then line_start else (if b == 13 then record { begun = true; held = true } else within_line)

-- what ends a line that has begun
abbrev pub line_end : ContentLine → List ℕ
line_end l = if l.begun then crlf else []

-- what the end of the content adds
abbrev pub sent_end : ContentLine → List ℕ
sent_end l = held_back l ++ line_end l ++ 46 ∷ crlf

-- what bytes add
unfoldable pub sent_bytes : ContentLine → List ℕ → List ℕ
sent_bytes l [] = []
sent_bytes l (b ∷ bytes) = sent_byte l b ++ sent_bytes (behind_byte l b) bytes

-- the line behind bytes
unfoldable pub behind_bytes : ContentLine → List ℕ → ContentLine
behind_bytes l [] = l
behind_bytes l (b ∷ bytes) = behind_bytes (behind_byte l b) bytes

-- what the rest of the content adds, and its end
abbrev pub sent_rest : ContentLine → List ℕ → List ℕ
sent_rest l bytes = sent_bytes l bytes ++ sent_end (behind_bytes l bytes)
