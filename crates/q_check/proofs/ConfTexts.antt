-- What is told of the files of conf and of the others, one behind another.
use Rattle.std.proofs.Common.{◌≡◌, ◌++◌, ◌∙◌, [], List, Option, ap, append_assoc, codes, refl, subst, ℕ}
use Rattle.q_conf.specs.Confs.{conf_bytes}
use Rattle.q_conf.specs.declared.error.ConfFile.TheVariants.{Parameters, Table}
use Rattle.q_model.specs.SpoolFiles.{Files}
use Rattle.q_model.specs.Values.{Spot}
use Rattle.q_model.specs.declared.spot.Area.TheVariants.{Corrupt}
use Rattle.q_check.specs.Checks.{bad_lines, conf_text, IsCheckText, IsFilesText, queues, text_of_damage}
use Rattle.q_check.specs.QueueTexts.{AreTexts, IsQueueText}
use Rattle.q_check.specs.SpoolDamages.{IsDamageIn}
use Rattle.q_check.specs.declared.queues.Look.TheVariants.{Damaged, PassedOver}
use Rattle.q_check.specs.NextHops.{hop_lines}

pub conf-added : (f g h : Files) (old a b c : List ℕ) → g ≡ f → h ≡ f → a ≡ old ++ bad_lines Parameters (conf_bytes f (codes "params")) → b ≡ a ++ bad_lines Table (conf_bytes g (codes "transport"))
    → c ≡ b ++ hop_lines (conf_bytes h (codes "transport")) → c ≡ old ++ conf_text f
conf-added f g h old a b c same again first second third =
    let params = bad_lines Parameters (conf_bytes f (codes "params")) in
    let table = bad_lines Table (conf_bytes f (codes "transport")) in
    let hops = hop_lines (conf_bytes f (codes "transport")) in
    third ∙ ap (λ (x : Files). b ++ hop_lines (conf_bytes x (codes "transport"))) again
    ∙ ap (λ (t : List ℕ). t ++ hops) (second ∙ ap (λ (x : Files). a ++ bad_lines Table (conf_bytes x (codes "transport"))) same ∙ ap (λ (t : List ℕ). t ++ table) first ∙ append_assoc old params table)
    ∙ append_assoc old (params ++ table) hops

-- what is told of the other files
pub files-added : (f g h : Files) (damage : Option Spot) (old a b c passed damaged : List ℕ) → g ≡ f → h ≡ f → AreTexts (IsQueueText f PassedOver) queues passed → a ≡ old ++ passed → IsQueueText g Damaged Corrupt damaged → b ≡ a ++ damaged
    → IsDamageIn h damage → c ≡ b ++ text_of_damage damage → (lines : List ℕ) × IsFilesText f damage lines × (c ≡ old ++ lines)
files-added f g h damage old a b c passed damaged same again are_passed first are_damaged second is_damage third =
    let last = text_of_damage damage in (
      passed ++ damaged ++ last,
      record {
        passed = passed;
        are_passed = are_passed;
        damaged = damaged;
        are_damaged = subst (λ (x : Files). IsQueueText x Damaged Corrupt damaged) same are_damaged;
        is_damage = subst (λ (x : Files). IsDamageIn x damage) again is_damage;
        whole = refl;
      },
      third ∙ ap (λ (t : List ℕ). t ++ last) (second ∙ ap (λ (t : List ℕ). t ++ damaged) first ∙ append_assoc old passed damaged)
          ∙ append_assoc old (passed ++ damaged) last,
    )

-- the whole
pub check-added : (f g : Files) (damage : Option Spot) (old a b lines : List ℕ) → g ≡ f → old ≡ [] → a ≡ old ++ conf_text f → IsFilesText g damage lines → b ≡ a ++ lines → IsCheckText f b
check-added f g damage old a b lines same none first are second = record {
  damage = damage;
  files = lines;
  are_files = subst (λ (x : Files). IsFilesText x damage lines) same are;
  whole = second ∙ ap (λ (t : List ℕ). t ++ lines) (first ∙ ap (λ (t : List ℕ). t ++ conf_text f) none);
}
