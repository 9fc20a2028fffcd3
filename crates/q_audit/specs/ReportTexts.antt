-- The texts of a report.
use Rattle.std.specs.Prelude.{◌++◌, [], codes, decimal, flat_map, List, ℕ, ◌∷◌}
use Rattle.q_audit.specs.Delays.{Delay}
use Rattle.q_model.specs.IdTexts.{id_text}
use Rattle.q_model.specs.Settings.{Table}
use Rattle.q_model.specs.Text.{joined, transport_text}
use Rattle.q_model.specs.TextParts.{text_line}

-- `job ID TRANSPORT R P`: the recipients of its message, and the deliveries that went before it
abbrev pub job_line : Table → Delay → List ℕ
job_line table d = text_line (joined (codes "job" ∷ id_text d.id ∷ transport_text table d.transport
    ∷ decimal d.recipients ∷ decimal d.starts ∷ []))

-- `lawful N`, N being the number of entries, and a line for each job that was preempted
abbrev pub lawful_text : Table → ℕ → List Delay → List ℕ
lawful_text table count ds =
    text_line (joined (codes "lawful" ∷ decimal count ∷ [])) ++ flat_map (job_line table) ds

-- `broken L RULE`
abbrev pub broken_text : ℕ → ℕ → List ℕ
broken_text line rule = text_line (joined (codes "broken" ∷ decimal line ∷ decimal rule ∷ []))
