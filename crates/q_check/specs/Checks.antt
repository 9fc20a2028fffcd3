-- All that is wrong with a spool and its conf, as text.
use Rattle.std.specs.Prelude.{◌++◌, ◌≡◌, ◌∷◌, [], codes, flat_map, List, None, Option, Some, ℕ}
use Rattle.q_conf.specs.Confs.{conf_bytes}
use Rattle.q_conf.specs.declared.error.ConfFile.{ConfFile}
use Rattle.q_conf.specs.declared.error.ConfFile.TheVariants as conf_files
use Rattle.q_check.specs.Faults.{faults}
use Rattle.q_check.specs.Lines.{conf_line, fault_text, file_line, refusal}
use Rattle.q_check.specs.NextHops.{hop_lines}
use Rattle.q_check.specs.QueueTexts.{AreTexts, IsQueueText}
use Rattle.q_check.specs.SpoolDamages.{IsDamageIn}
use Rattle.q_check.specs.declared.queues.Look.TheVariants as looks
use Rattle.q_model.specs.Values.{Spot}
use Rattle.q_model.specs.declared.spot.Area.{Area}
use Rattle.q_model.specs.declared.spot.Area.TheVariants as areas
use Rattle.q_model.specs.SpoolFiles.{Files}

-- a line at fault
abbrev pub bad_line : ConfFile → ℕ → List ℕ
bad_line file n = conf_line file n fault_text

-- the lines at fault in a file of conf that has these bytes, the first hundred of them
abbrev pub bad_lines : ConfFile → List ℕ → List ℕ
bad_lines file bytes = flat_map (bad_line file) (faults file 100 bytes)

-- the damage for which no life can begin
abbrev pub damage_line : Spot → List ℕ
damage_line spot = file_line spot.area spot.name refusal

-- the same, if there is one
abbrev pub text_of_damage : Option Spot → List ℕ
text_of_damage None = []
text_of_damage (Some spot) = damage_line spot

-- both files of conf, the parameters first
abbrev pub conf_text : Files → List ℕ
conf_text f = bad_lines conf_files.Parameters (conf_bytes f (codes "params"))
    ++ bad_lines conf_files.Table (conf_bytes f (codes "transport"))
    ++ hop_lines (conf_bytes f (codes "transport"))

-- the queues, in the order in which they are gone through
abbrev pub queues : List Area
queues = areas.Incoming ∷ areas.Active ∷ areas.Deferred ∷ areas.Hold ∷ areas.Corrupt ∷ []

-- What is told of the files of a spool: those that are passed over, the damaged messages, and the damage.
pub record IsFilesText (f : Files) (damage : Option Spot) (text : List ℕ) : Type 0 where
  pub passed : List ℕ
  pub are_passed : AreTexts (IsQueueText f looks.PassedOver) queues passed
  pub damaged : List ℕ
  pub are_damaged : IsQueueText f looks.Damaged areas.Corrupt damaged
  pub is_damage : IsDamageIn f damage
  pub whole : text ≡ passed ++ damaged ++ text_of_damage damage

-- All that is wrong with a spool of these files: with those of conf, and with the others.
pub record IsCheckText (f : Files) (text : List ℕ) : Type 0 where
  pub damage : Option Spot
  pub files : List ℕ
  pub are_files : IsFilesText f damage files
  pub whole : text ≡ conf_text f ++ files
