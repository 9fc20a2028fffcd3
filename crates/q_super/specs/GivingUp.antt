-- The recipients of a message that are given up.
use Rattle.std.specs.Prelude.{◌≡◌, IsSome, IsSomeAnd, List, true, ℕ}
use Rattle.q_model.specs.declared.id.Id.{Id}
use Rattle.q_model.specs.Book.{Book, message_of}
use Rattle.q_model.specs.FilesStand.{MessageStands}
use Rattle.q_model.specs.Message.{Message}
use Rattle.q_model.specs.Orderly.{has_firm_failures}
use Rattle.q_model.specs.QueueFile.{queue_file}
use Rattle.q_model.specs.SpoolFiles.{file_at, Files}
use Rattle.q_model.specs.ToolSteps.{may_steps}
use Rattle.q_super.specs.declared.standing.Standing.{Standing}
use Rattle.q_super.specs.Deeds.{failing, steps_in}

-- each of these recipients may be given up in turn, and no crash may lose a failure of the message
pub record MayFail (b : Book) (id : Id) (positions : List ℕ) : Type 0 where
  pub may : may_steps b (steps_in (failing id positions)) ≡ true
  pub firm : IsSomeAnd (message_of b id) (λ m. has_firm_failures m ≡ true)

-- the file is that of the message
pub record IsFileOf (f : Files) (s : Standing) (m : Message) : Type 0 where
  pub stands : MessageStands f m
  pub id : m.id ≡ s.id
  pub place : m.place ≡ s.place

-- the bytes that stand there are a queue file
abbrev pub IsQueueFile : Files → Standing → Type 0
IsQueueFile f s = IsSomeAnd (file_at f s.place s.id) (λ bytes. IsSome (queue_file bytes))
