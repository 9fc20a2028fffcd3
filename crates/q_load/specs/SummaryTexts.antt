-- The summary of a load as it is told.
use Rattle.std.specs.Prelude.{◌++◌, codes, decimal, List, ℕ}
use Rattle.q_load.specs.declared.summary.Summary.{Summary}
use Rattle.q_model.specs.Text.{spaced}
use Rattle.q_model.specs.TextParts.{text_line}

-- a word and a count
abbrev pub count_line : List ℕ → ℕ → List ℕ
count_line word count = text_line (word ++ spaced (decimal count))

abbrev pub summary_text : Summary → List ℕ
summary_text s = count_line (codes "messages") s.messages
    ++ count_line (codes "recipients") s.recipients
    ++ count_line (codes "starts") s.starts
    ++ count_line (codes "preempts") s.preempts
    ++ count_line (codes "left") s.left
