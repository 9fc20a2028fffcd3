-- What reading a queue file gives of the mail that it says.
use Rattle.std.proofs.Common.{◌≡◌, ℕ, zero, suc, ◌<◌, Bool, IsTrue, List, [], ◌∷◌, length, map, slice_get, unwrap_or, Option, Some, None, Result, Ok, Err, refl, sym, ap, subst, ◌∙◌, arith, get_or}
use Rattle.std.proofs.lemmas.List.{length-map}
use Rattle.std.specs.List.{AllByRecursion}
use Rattle.std.specs.Option.{option_and_then, option_map, option_map_or}
use Rattle.std.specs.Prelude.{All, IfSome, IsErrOf}
use Rattle.q_host.specs.Calls.{Stays}
use Rattle.q_host.specs.View.{View}
use Rattle.q_message.specs.FileHeads.{IsFault, IsHead, head_of}
use Rattle.q_message.specs.Names.{AreNames, receiver_in}
use Rattle.q_message.specs.declared.error.MessageError.{MessageError}
use Rattle.q_message.specs.declared.error.MessageError.TheVariants.{Disk, NoMemory, NotAMessage}
use Rattle.q_model.specs.QueueFile.{FileMessage, FileRecipient, queue_file}
use Rattle.q_model.specs.SpoolFiles.{Files}
use Rattle.q_model.specs.Values.{FileHead, Receiver, Spot}
use Rattle.q_session.specs.Mails.{IsHeadOf, Mail, mail_of}
use Rattle.q_session.proofs.ContentPlaces.{head_of_mail}
use Rattle.q_agent.specs.Readings.{IsLetter, readable}
use Rattle.q_agent.specs.Requests.{addresses_at}
use Rattle.q_agent.proofs.Splits.{each_at}

-- ---- what a reader answered

pub read_none : {T : Type 0} (r : Result T MessageError) → readable r ≡ Ok None → (place : ℕ) × IsErrOf r (NotAMessage place)
read_none (Ok x) h = absurd cc
read_none (Err Disk) h = absurd cc
read_none (Err NoMemory) h = absurd cc
read_none (Err (NotAMessage place)) h = (place, refl)

pub read_some : {T : Type 0} (r : Result T MessageError) (x : T) → readable r ≡ Ok (Some x) → r ≡ Ok x
read_some (Ok y) x h = cc
read_some (Err Disk) x h = absurd cc
read_some (Err NoMemory) x h = absurd cc
read_some (Err (NotAMessage place)) x h = absurd cc

-- ---- the file that says a mail

pub record Says (found : Option (List ℕ)) (mail : Mail) : Type 0 where
  pub bytes : List ℕ
  pub message : FileMessage
  pub here : found ≡ Some bytes
  pub reads : queue_file bytes ≡ Some message
  pub is : mail_of message ≡ mail

says_by : (bytes : List ℕ) (mail : Mail) (m : Option FileMessage) → queue_file bytes ≡ m → option_map mail_of m ≡ Some mail → Says (Some bytes) mail
says_by bytes mail None reads h = absurd cc
says_by bytes mail (Some m) reads h = record { bytes = bytes; message = m; here = refl; reads = reads; is = cc }

pub says : (found : Option (List ℕ)) (mail : Mail) → option_map mail_of (option_and_then queue_file found) ≡ Some mail → Says found mail
says None mail h = absurd cc
says (Some bytes) mail h = says_by bytes mail (queue_file bytes) refl h

-- it is a queue file
pub no_fault : (found : Option (List ℕ)) (mail : Mail) (place : ℕ) → Says found mail → IfSome found (IsFault place) → ⊥
no_fault found mail place s h =
    let fault = subst (λ (o : Option (List ℕ)). IfSome o (IsFault place)) s.here h in
    let never : Some s.message ≡ None = sym s.reads ∙ fault.0 in
    absurd cc

-- its head is that of its message
head_is : (found : Option (List ℕ)) (mail : Mail) (head : FileHead) (s : Says found mail) → IfSome found (IsHead head) → head_of s.message ≡ head
head_is found mail head s h =
    let same : Some (head_of s.message) ≡ Some head = ap (option_map head_of) (sym s.reads) ∙ subst (λ (o : Option (List ℕ)). IfSome o (IsHead head)) s.here h in
    cc

pub head_says : (found : Option (List ℕ)) (mail : Mail) (head : FileHead) → Says found mail → IfSome found (IsHead head) → IsHeadOf mail head
head_says found mail head s h = subst (λ (x : FileHead). IsHeadOf mail x) (head_is found mail head s h) (subst (λ (x : Mail). IsHeadOf x (head_of s.message)) s.is (head_of_mail s.message (head_of s.message) refl refl refl))

-- the positions of its recipients are below the number of them
pub count_says : (found : Option (List ℕ)) (mail : Mail) (head : FileHead) → Says found mail → IfSome found (IsHead head) → head.recipients ≡ length mail.addresses
count_says found mail head s h =
    ap (λ (x : FileHead). x.recipients) (sym (head_is found mail head s h))
    ∙ sym (length-map s.message.recipients (λ (r : FileRecipient). r.address))
    ∙ ap (λ (x : Mail). length x.addresses) s.is

pub all_below : (n count : ℕ) (positions : List ℕ) → count ≡ n → AllByRecursion (λ (p : ℕ). p < n) positions → All (λ (p : ℕ). p < count) positions
all_below n count positions same each = λ k d within. let below : get_or positions k d < n = each_at (λ (p : ℕ). p < n) positions k d each within in omega (arith, below, same)

-- ---- the addresses at positions of it

-- a recipient without its mark, or none
abbrev found_in : List FileRecipient → ℕ → Receiver
found_in rs p = option_map_or (λ (r : FileRecipient). record { address = r.address; original = r.original }) (slice_get rs p) (record { address = []; original = None })

address_mapped : (rs : List FileRecipient) (p : ℕ) → (found_in rs p).address ≡ unwrap_or (slice_get (map (λ (r : FileRecipient). r.address) rs) p) []
address_mapped [] zero = refl
address_mapped [] (suc p) = refl
address_mapped (r ∷ rs) zero = refl
address_mapped (r ∷ rs) (suc p) = address_mapped rs p

-- their addresses
abbrev addresses : List Receiver → List (List ℕ)
addresses to = map (λ r. r.address) to

addresses_mapped : (m : FileMessage) (positions : List ℕ) → addresses (map (receiver_in m) positions) ≡ addresses_at (mail_of m) positions
addresses_mapped m [] = refl
addresses_mapped m (p ∷ ps) =
    ap (λ (a : List ℕ). a ∷ addresses (map (receiver_in m) ps)) (address_mapped m.recipients p)
    ∙ ap (λ (others : List (List ℕ)). unwrap_or (slice_get (mail_of m).addresses p) [] ∷ others) (addresses_mapped m ps)

pub names_say : (found : Option (List ℕ)) (mail : Mail) (positions : List ℕ) (to : List Receiver) → Says found mail → IfSome found (AreNames positions to) → addresses to ≡ addresses_at mail positions
names_say found mail positions to s h =
    let named = subst (λ (o : Option (List ℕ)). IfSome o (AreNames positions to)) s.here h in
    ap addresses (subst (λ (o : Option FileMessage). IfSome o (λ (m : FileMessage). to ≡ map (receiver_in m) positions)) s.reads named)
    ∙ addresses_mapped s.message positions
    ∙ ap (λ (x : Mail). addresses_at x positions) s.is

pub letter_of : (tells : Bool) (v w : View) (spot : Spot) (positions : List ℕ) (file : FileHead) (to : List Receiver)
    → (IsTrue tells → IfSome (v.files spot.area spot.name) (IsHead file)) → (IsTrue tells → Stays v w) → (IsTrue tells → IfSome (w.files spot.area spot.name) (AreNames positions to)) → length to ≡ length positions
    → IsLetter tells v spot positions (record { file = file; to = to })
letter_of tells v w spot positions file to head stays names count = record {
  count = count;
  head = λ mail stands is. head_says (v.files spot.area spot.name) mail file (says (v.files spot.area spot.name) mail (stands is)) (head is);
  addresses = λ mail stands is. names_say (v.files spot.area spot.name) mail positions to (says (v.files spot.area spot.name) mail (stands is))
      (subst (λ (f : Files). IfSome (f spot.area spot.name) (AreNames positions to)) (stays is).files (names is));
}
