-- Addresses in angle brackets (RFC 5321, section 4.1.2).
use Rattle.std.specs.Prelude.{◌==◌, [], codes, drop, if◌then◌else◌, length, List, None, Option, take, ℕ, ◌∷◌}
use Rattle.q_numbers.specs.Pieces.{cut}
use Rattle.q_smtpd.specs.Verbs.{reads_as}

-- the text without the spaces in front
unfoldable pub behind_spaces : List ℕ → List ℕ
behind_spaces [] = []
behind_spaces (b ∷ text) = if b == 32 then behind_spaces text else b ∷ text

-- what stands between `<` in front and the first `>`, and behind that
abbrev pub bracketed : List ℕ → Option (List ℕ × List ℕ)
bracketed [] = None
bracketed (b ∷ text) = if b == 60 then cut 62 text else None

-- The text begins with this word and a colon; spaces may stand behind it.
abbrev pub path_behind : List ℕ → List ℕ → Option (List ℕ × List ℕ)
path_behind word text = if reads_as word (take (length word) text)
    then bracketed (behind_spaces (drop (length word) text)) else None

-- `FROM:<S>`, and `TO:<A>`, with what stands behind
abbrev pub from_path : List ℕ → Option (List ℕ × List ℕ)
from_path text = path_behind (codes "from:") text

abbrev pub to_path : List ℕ → Option (List ℕ × List ℕ)
to_path text = path_behind (codes "to:") text
