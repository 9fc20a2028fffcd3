-- The lines that queue tools tell behind a life: each has the word of an act and a message that was acted on.
use Rattle.std.specs.List.{AllByRecursion, list_any}
use Rattle.std.specs.Prelude.{◌++◌, ◌≡◌, ◌∷◌, [], Bool, bytes_eq, codes, List, take, true, ℕ}
use Rattle.q_model.specs.declared.id.Id.{Id}
use Rattle.q_model.specs.Ids.{id_eq}
use Rattle.q_model.specs.IdTexts.{id_text}
use Rattle.q_model.specs.Text.{spaced}
use Rattle.q_model.specs.TextParts.{text_line}
use Rattle.q_model.specs.ToolSteps.{fails, moves, ToolStep}

pub record ToolLine : Type 0 where
  pub word : List ℕ
  pub id : Id

-- `WORD ID`
abbrev pub tool_line : ToolLine → List ℕ
tool_line l = text_line (l.word ++ spaced (id_text l.id))

-- these lines, one behind another
abbrev pub tool_text : List ToolLine → List ℕ
tool_text [] = []
tool_text (l ∷ ls) = tool_line l ++ tool_text ls

-- the words of acts
abbrev pub is_act_word : List ℕ → Bool
is_act_word word = list_any (bytes_eq word)
    (codes "hold" ∷ codes "release" ∷ codes "requeue" ∷ codes "expire" ∷ codes "flush" ∷ [])

-- the step was done with the message
abbrev pub is_step_of : Id → ToolStep → Bool
is_step_of id (moves other place) = id_eq other id
is_step_of id (fails other position) = id_eq other id

-- the line names an act, and a message with which one of these steps was done
pub record NamesDone (steps : List ToolStep) (l : ToolLine) : Type 0 where
  pub word : is_act_word l.word ≡ true
  pub done : list_any (is_step_of l.id) steps ≡ true

-- Such lines were told, or some first part of their text.
pub record AreToolLines (steps : List ToolStep) (told : List ℕ) : Type 0 where
  pub lines : List ToolLine
  pub each : AllByRecursion (NamesDone steps) lines
  pub part : ℕ
  pub told_is : told ≡ take part (tool_text lines)
