-- How far a text is read.
use Rattle.std.specs.Prelude.{◌++◌, List, Option, option_map, ℕ}

-- a reader of lines: the bytes that were taken and stand behind the last line, and how many more the text
-- may have
pub record ReaderState : Type 0 where
  pub buffered : List ℕ
  pub budget : ℕ

-- what is left of a text: these bytes, and those that the source has
abbrev pub text_left : List ℕ → Option (List ℕ) → Option (List ℕ)
text_left buffered source = option_map (λ rest. buffered ++ rest) source
