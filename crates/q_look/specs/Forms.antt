-- What an answer to a look keeps to on every host, also on one that doesn't tell its files.
use Rattle.std.specs.Prelude.{◌<◌, ◌^◌, ◌≤◌, ℕ}
use Rattle.q_core.specs.declared.decision.Found.{Found}
use Rattle.q_core.specs.declared.decision.Found.TheVariants.{Damaged, Nothing, Whole}
use Rattle.q_model.specs.declared.id.Id.{Id}
use Rattle.q_model.specs.IdTexts.{IsId}
use Rattle.q_model.specs.Values.{FileHead}

-- an id that a file may be named by, and a due time of 12 digits
pub record IsFileName (id : Id) (due : ℕ) : Type 0 where
  pub form : IsId id
  pub digits : due < 10 ^ 12

-- as many recipients as a queue file may have
pub record IsRecipientCount (n : ℕ) : Type 0 where
  pub some : 1 ≤ n
  pub few : n ≤ 50000

abbrev pub HasRecipients : FileHead → Type 0
HasRecipients head = IsRecipientCount head.recipients

-- the file's id and due time can stand in a name, and a queue file has 1 to 50,000 recipients
abbrev pub IsLookedAt : Found → Type 0
IsLookedAt Nothing = Unit {0}
IsLookedAt (Damaged id due alone) = IsFileName id due
IsLookedAt (Whole id due file) = IsFileName id due × IsRecipientCount file.recipients
