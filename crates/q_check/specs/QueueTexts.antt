-- What is told of the files in queues.
use Rattle.std.specs.Prelude.{◌++◌, ◌≡◌, ◌⊎◌, ◌∷◌, [], codes, List, ℕ}
use Rattle.q_check.specs.declared.queues.Look.{Look}
use Rattle.q_check.specs.declared.queues.Look.TheVariants as looks
use Rattle.q_check.specs.Lines.{file_line}
use Rattle.q_check.specs.FileNames.{IsFileName, IsNoFileName}
use Rattle.q_model.specs.declared.spot.Area.{Area}
use Rattle.q_model.specs.SpoolFiles.{Files}
use Rattle.q_restart.specs.Walks.{AreAllNames}

-- what is told
abbrev pub verdict : Look → List ℕ
verdict looks.PassedOver = codes "no queue file, passed over"
verdict looks.Damaged = codes "damaged message"

-- of a name that a message's file may have
abbrev pub text_of_file : Look → Area → List ℕ → List ℕ
text_of_file looks.PassedOver area name = []
text_of_file looks.Damaged area name = file_line area name (verdict looks.Damaged)

-- of any other name
abbrev pub text_of_other : Look → Area → List ℕ → List ℕ
text_of_other looks.PassedOver area name = file_line area name (verdict looks.PassedOver)
text_of_other looks.Damaged area name = []

-- what is told of a file
abbrev pub IsFileText : Look → Area → List ℕ → List ℕ → Type 0
IsFileText look area name text = (IsFileName area name × (text ≡ text_of_file look area name))
    ⊎ (IsNoFileName area name × (text ≡ text_of_other look area name))

-- the texts of these, one behind another
abbrev pub AreTexts : {A : Type 0} → (A → List ℕ → Type 0) → List A → List ℕ → Type 0
AreTexts is [] text = text ≡ []
AreTexts is (x ∷ xs) text = (first : List ℕ) × (rest : List ℕ) × is x first
    × (text ≡ first ++ rest) × AreTexts is xs rest

-- what is told of the files of a queue, in the order of their names
pub record IsQueueText (f : Files) (look : Look) (area : Area) (text : List ℕ) : Type 0 where
  pub names : List (List ℕ)
  pub listed : AreAllNames (f area) names
  pub texts : AreTexts (IsFileText look area) names text
