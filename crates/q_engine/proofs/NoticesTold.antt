-- What was read for a notice is the message's.
use Rattle.std.proofs.Common.{◌≡◌, ◌∷◌, ◌∙◌, [], ap, length, List, map, None, Option, refl, Some, subst, sym, ℕ}
use Rattle.std.specs.Option.{IfSome, option_and_then, option_map, option_map_or}
use Rattle.std.specs.Prelude.{slice_get}
use Rattle.std.proofs.lemmas.List.{length-map}
use Rattle.std.proofs.lemmas.Option.{slice_get-map}
use Rattle.q_model.specs.declared.id.Id.{Id}
use Rattle.q_model.specs.declared.outcome.Failure.{Failure}
use Rattle.q_model.specs.Book.{Book}
use Rattle.q_model.specs.FailureLog.{failures_of}
use Rattle.q_model.specs.FilesStand.{file_message, file_recipient}
use Rattle.q_model.specs.Message.{Logged, Message, Recipient}
use Rattle.q_model.specs.QueueFile.{FileMessage, FileRecipient, queue_file}
use Rattle.q_model.specs.SpoolFiles.{file_at, logged_in}
use Rattle.q_model.specs.Values.{FileHead, Receiver, Spot}
use Rattle.q_model.proofs.QueueFileLaws.{queue_file_again}
use Rattle.q_model.proofs.StandChanges.{Stands-message}
use Rattle.q_host.specs.View.{View}
use Rattle.q_books.specs.HostStands.{HostStands}
use Rattle.q_books.specs.Spots.{IsFileAt}
use Rattle.q_message.specs.FileHeads.{IsHead}
use Rattle.q_message.specs.Names.{receiver_in, AreNames}
use Rattle.q_message.specs.Told.{bytes_at}
use Rattle.q_notice.specs.NoticeTexts.{IsToldOf, receiver_at}
use Rattle.q_engine.specs.BounceTexts.{IsContentFront}
use Rattle.q_engine.proofs.ContentFronts.{head_is}

-- a recipient of the file without its mark, or none
abbrev named : Option FileRecipient → Receiver
named o = option_map_or (λ (r : FileRecipient). record { address = r.address; original = r.original }) o (record { address = []; original = None })

receiver_same : (m : Message) (p : ℕ) → receiver_in (file_message m) p ≡ receiver_at m p
receiver_same m p = ap named (slice_get-map file_recipient m.recipients p) ∙ by (slice_get m.recipients p)
  where
    by : (o : Option Recipient) → named (option_map file_recipient o) ≡ record { address = option_map_or (λ (r : Recipient). r.address) o []; original = option_and_then (λ (r : Recipient). r.original) o }
    by None = refl
    by (Some r) = refl

names_same : (m : Message) (ls : List Logged) → map (receiver_in (file_message m)) (map (λ (f : Failure). f.position) (map (λ (l : Logged). l.failure) ls)) ≡ map (λ (l : Logged). receiver_at m l.failure.position) ls
names_same m [] = refl
names_same m (l ∷ ls) =
    ap (λ (a : Receiver). a ∷ map (receiver_in (file_message m)) (map (λ (f : Failure). f.position) (map (λ (l : Logged). l.failure) ls))) (receiver_same m l.failure.position)
    ∙ ap (λ (xs : List Receiver). receiver_at m l.failure.position ∷ xs) (names_same m ls)

module _ (v : View) (b : Book) (id : Id) (m : Message) (s : Spot) (h : HostStands v b) (file : IsFileAt b id m s) where
  pub told_of : (sender : List ℕ) (head : FileHead) (failures : List Failure) (positions : List ℕ) (names : List Receiver) (front : List ℕ) → m.sender ≡ Some sender → IfSome (bytes_at v s) (IsHead head)
      → failures ≡ failures_of head.recipients (logged_in v.files id) → positions ≡ map (λ (f : Failure). f.position) failures → IfSome (bytes_at v s) (AreNames positions names) → IfSome (bytes_at v s) (IsContentFront front)
      → IsToldOf m id sender failures names head.content_len front
  told_of sender head failures positions names front has reading failed at named begins =
      let old = Stands-message v.files b id m h.reads file.found in
      let bytes = old.0.bytes in
      let there : bytes_at v s ≡ Some bytes = ap (λ (t : Spot). v.files t.area t.name) file.spot ∙ sym (ap (file_at v.files m.place) old.1) ∙ old.0.there in
      let read : queue_file bytes ≡ Some (file_message m) = ap queue_file old.0.reads.written ∙ queue_file_again (file_message m) old.0.reads.marks old.0.reads.lawful old.0.reads.agree in
      let same = head_is bytes head (file_message m) (subst (λ (o : Option (List ℕ)). IfSome o (IsHead head)) there reading) old.0.reads in
      let count : length m.recipients ≡ head.recipients = sym (length-map m.recipients file_recipient) ∙ ap (λ (x : FileHead). x.recipients) same in
      let mine : map (λ (l : Logged). l.failure) m.failures ≡ failures = old.0.failures ∙ ap (λ (n : ℕ). failures_of n (logged_in v.files m.id)) count ∙ ap (λ (i : Id). failures_of head.recipients (logged_in v.files i)) old.1 ∙ sym failed in
      let called : names ≡ map (receiver_in (file_message m)) positions = subst (λ (o : Option FileMessage). IfSome o (λ x. names ≡ map (receiver_in x) positions)) read (subst (λ (o : Option (List ℕ)). IfSome o (AreNames positions names)) there named) in
      record {
        id_is = old.1;
        sender_is = has;
        failures_are = mine;
        names_are = sym (names_same m m.failures) ∙ ap (λ (fs : List Failure). map (receiver_in (file_message m)) (map (λ (f : Failure). f.position) fs)) mine ∙ ap (map (receiver_in (file_message m))) (sym at) ∙ sym called;
        size_is = ap (λ (x : FileHead). x.content_len) same;
        front_is = sym (subst (λ (o : Option (List ℕ)). IfSome o (IsContentFront front)) there begins (file_message m) old.0.reads);
      }

-- the same by other names of the size and the front
pub told_by : (m : Message) (id : Id) (sender : List ℕ) (failures : List Failure) (names : List Receiver) (size other : ℕ) (front begins : List ℕ) → other ≡ size → begins ≡ front → IsToldOf m id sender failures names size front → IsToldOf m id sender failures names other begins
told_by m id sender failures names size other front begins same is h =
    subst (λ (n : ℕ). IsToldOf m id sender failures names n begins) (sym same) (subst (λ (x : List ℕ). IsToldOf m id sender failures names size x) (sym is) h)
