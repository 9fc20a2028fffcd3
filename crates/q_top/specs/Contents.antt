-- The content that a source has for a message.
use Rattle.std.specs.Prelude.{ℕ}

-- the most bytes of a content
abbrev pub most_content : ℕ
most_content = 10240000
