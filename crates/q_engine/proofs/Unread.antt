-- Queue files that can't be read: none is that of a message of the book.
use Rattle.std.proofs.Common.{◌≡◌, ◌∙◌, List, None, Option, Some, ap, length, map, refl, subst, sym, ℕ}
use Rattle.std.proofs.lemmas.List.{length-map}
use Rattle.std.specs.Option.{IfSome, IsSome}
use Rattle.std.specs.Prelude.{IfNone, IfOk, IsErrOf, Result, option_map}
use Rattle.q_books.specs.HostStands.{HostStands}
use Rattle.q_books.specs.Spots.{IsFileAt}
use Rattle.q_host.specs.View.{View}
use Rattle.q_host.specs.declared.error.HostError.{HostError}
use Rattle.q_message.specs.FileHeads.{IsFault, IsHead, head_of}
use Rattle.q_message.specs.Names.{AreNames, receiver_in}
use Rattle.q_message.specs.Told.{bytes_at}
use Rattle.q_message.specs.declared.error.MessageError.{MessageError}
use Rattle.q_message.specs.declared.error.MessageError.TheVariants as errors
use Rattle.q_model.proofs.QueueFileLaws.{queue_file_again}
use Rattle.q_model.proofs.StandChanges.{Stands-message}
use Rattle.q_model.specs.Book.{Book}
use Rattle.q_model.specs.FilesStand.{file_message}
use Rattle.q_model.specs.Message.{Message}
use Rattle.q_model.specs.QueueFile.{FileMessage, queue_file}
use Rattle.q_model.specs.SpoolFiles.{file_at}
use Rattle.q_model.specs.Values.{FileHead, Receiver, Spot}
use Rattle.q_model.specs.declared.id.Id.{Id}
use Rattle.q_engine.specs.ReadFaults.{unless_damaged}

-- the file of a message is a queue file
pub not_unread : (v : View) (b : Book) (id : Id) (m : Message) (s : Spot) → HostStands v b → IsFileAt b id m s → IfSome (bytes_at v s) (λ bytes. queue_file bytes ≡ None) → ⊥
not_unread v b id m s h file none =
    let old = Stands-message v.files b id m h.reads file.found in
    let bytes = old.0.bytes in
    let there : bytes_at v s ≡ Some bytes = ap (λ (t : Spot). v.files t.area t.name) file.spot ∙ sym (ap (file_at v.files m.place) old.1) ∙ old.0.there in
    let read : queue_file bytes ≡ Some (file_message m) = ap queue_file old.0.reads.written ∙ queue_file_again (file_message m) old.0.reads.marks old.0.reads.lawful old.0.reads.agree in
    let broken : queue_file bytes ≡ None = subst (λ (o : Option (List ℕ)). IfSome o (λ x. queue_file x ≡ None)) there none in
    let bad : None ≡ Some (file_message m) = sym broken ∙ read in
    cc

-- one that breaks the form is none
pub none_read : (o : Option (List ℕ)) (place : ℕ) → IfSome o (IsFault place) → IfSome o (λ bytes. queue_file bytes ≡ None)
none_read None place h = tt
none_read (Some bytes) place h = h.0

-- an error that is another
pub err_same : {X E : Type 0} (r : Result X E) (e x : E) → IsErrOf r e → e ≡ x → IsErrOf r x
err_same r e x h same = subst (λ y. IsErrOf r y) same h

unless_by : {T : Type 0} (e : MessageError) (P : Option T → Type 0) → ((place : ℕ) → e ≡ errors.NotAMessage place → P None) → IfOk (unless_damaged e) P
unless_by errors.Disk P none = tt
unless_by errors.NoMemory P none = tt
unless_by (errors.NotAMessage place) P none = none place refl

-- what isn't read is nothing
pub unless_none : {T : Type 0} (r : Result (Option T) HostError) (e : MessageError) (P : Option T → Type 0) → r ≡ unless_damaged e → ((place : ℕ) → e ≡ errors.NotAMessage place → P None) → IfOk r P
unless_none {T} r e P is none = subst (λ (x : Result (Option T) HostError). IfOk x P) (sym is) (unless_by e P none)

-- what holds where there is nothing
pub if_none : {A : Type 0} (o : Option A) (P : Type 0) → (o ≡ None → P) → IfNone o P
if_none None P h = h refl
if_none (Some x) P h = tt

-- there are as many names as positions
many_in : (q : Option FileMessage) (head : FileHead) (positions : List ℕ) (names : List Receiver) → option_map head_of q ≡ Some head → IfSome q (λ m. names ≡ map (receiver_in m) positions) → length names ≡ length positions
many_in None head positions names some are = absurd cc
many_in (Some m) head positions names some are = ap length are ∙ length-map positions (receiver_in m)

pub as_many : (o : Option (List ℕ)) (head : FileHead) (positions : List ℕ) (names : List Receiver) → IsSome o → IfSome o (IsHead head) → IfSome o (AreNames positions names) → length names ≡ length positions
as_many None head positions names there some are = absurd cc
as_many (Some bytes) head positions names there some are = many_in (queue_file bytes) head positions names some are
