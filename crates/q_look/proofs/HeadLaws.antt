-- What reading a head says of the file, and the recipients that a queue file has.
use Rattle.std.proofs.Common.{◌≡◌, ◌≤◌, ℕ, List, length, Option, Some, None, sym, ap, subst}
use Rattle.std.specs.Option.{IfSome, option_map}
use Rattle.q_message.specs.FileHeads.{head_of, IsFault, IsHead}
use Rattle.q_message.proofs.PendingLaws.{recipients_few, recipients_some}
use Rattle.q_model.specs.QueueFile.{queue_file}
use Rattle.q_model.specs.Values.{FileHead}
use Rattle.q_model.proofs.RecordLaws.{map_some}

-- a head with another number of recipients is none of a queue file
pub no_count : (o : Option (List ℕ)) (head : FileHead) (P : List ℕ → Type 0) → (1 ≤ head.recipients → head.recipients ≤ 50000 → ⊥) → IfSome o (IsHead head) → IfSome o P
no_count None head P none reads = tt
no_count (Some bytes) head P none reads =
    let m = map_some head_of (queue_file bytes) head reads in
    let count : length (m.0).recipients ≡ head.recipients = ap (λ (h : FileHead). h.recipients) m.2 in
    absurd (none (subst (λ (n : ℕ). 1 ≤ n) count (recipients_some bytes m.0 m.1)) (subst (λ (n : ℕ). n ≤ 50000) count (recipients_few bytes m.0 m.1)))

-- a file that breaks the form
pub no_head : (o : Option (List ℕ)) (place : ℕ) → IfSome o (IsFault place) → IfSome o (λ bytes. None ≡ option_map head_of (queue_file bytes))
no_head None place fault = tt
no_head (Some bytes) place fault = ap (option_map head_of) (sym fault.0)

-- what is read
pub a_head : (o : Option (List ℕ)) (head : FileHead) → IfSome o (IsHead head) → IfSome o (λ bytes. Some head ≡ option_map head_of (queue_file bytes))
a_head None head reads = tt
a_head (Some bytes) head reads = sym reads
