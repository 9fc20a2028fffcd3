-- Files stand for a book: what is read from them is what the book says.
use Rattle.std.specs.List.{AllByRecursion}
use Rattle.std.specs.Prelude.{◌&&◌, ◌^◌, bytes_eq, false, is_some, length, List, map, nat_lt, None, Some, true, ℕ, ◌<◌, ◌≡◌}
use Rattle.q_model.specs.declared.id.Id.{Id}
use Rattle.q_model.specs.declared.rows.Place.{Place}
use Rattle.q_model.specs.Book.{all_ids, Book, Damaged, stands_in}
use Rattle.q_model.specs.FailureLog.{failures_of}
use Rattle.q_model.specs.Ids.{are_distinct}
use Rattle.q_model.specs.IdTexts.{hex, IsId}
use Rattle.q_model.specs.Marks.{is_marked}
use Rattle.q_model.specs.Message.{Message, Recipient}
use Rattle.q_model.specs.QueueFile.{FileMessage, FileRecipient, queue_file}
use Rattle.q_model.specs.QueueFileBytes.{IsFileOf}
use Rattle.q_model.specs.SpoolFiles.{file_at, Files, IsPlace, logged_in}
use Rattle.q_model.specs.Places.{is_corrupt, place_eq}
use Rattle.q_model.specs.Texts.{is_name}
use Rattle.q_model.specs.declared.spot.Area.TheVariants as areas

-- Boot has one name, the generation in eight digits; without a generation it has none.
pub record BootStands (f : Files) (generation : ℕ) : Type 0 where
  pub fits : generation < 2 ^ 32
  pub names : (n : List ℕ) → is_name n ≡ true
      → is_some (f areas.Boot n) ≡ (nat_lt 0 generation && bytes_eq n (hex 8 generation))

-- what the file says of a recipient: its mark is set where the recipient's is, sure or not
abbrev pub file_recipient : Recipient → FileRecipient
file_recipient r = record { address = r.address; original = r.original; marked = is_marked r.mark }

-- what the file of a message says
abbrev pub file_message : Message → FileMessage
file_message m = record {
  version = m.version;
  sender = m.sender;
  arrival = m.arrival;
  content = m.content;
  recipients = map file_recipient m.recipients;
}

-- the message's queue file stands at its place, and its failures are those of its log
pub record MessageStands (f : Files) (m : Message) : Type 0 where
  pub id : IsId m.id
  pub place : IsPlace m.place
  pub not_corrupt : is_corrupt m.place ≡ false
  pub bytes : List ℕ
  pub there : file_at f m.place m.id ≡ Some bytes
  pub reads : IsFileOf bytes (file_message m)
  pub failures : map (λ l. l.failure) m.failures ≡ failures_of (length m.recipients) (logged_in f m.id)

-- a file stands at the place, which is corrupt or the file is no queue file
pub record DamagedStands (f : Files) (d : Damaged) : Type 0 where
  pub id : IsId d.id
  pub place : IsPlace d.place
  pub bytes : List ℕ
  pub there : file_at f d.place d.id ≡ Some bytes
  pub unread : is_corrupt d.place ≡ false → queue_file bytes ≡ None

-- The files stand for the book. Files in Tmp and Conf, deferral logs, and logs whose id stands nowhere may be any.
pub record Stands (f : Files) (b : Book) : Type 0 where
  pub boot : BootStands f b.generation
  pub distinct : are_distinct (all_ids b) ≡ true
  pub messages : AllByRecursion (MessageStands f) b.messages
  pub damaged : AllByRecursion (DamagedStands f) b.damaged
  pub nothing_else : (place : Place) (id : Id) (bytes : List ℕ) → IsId id → IsPlace place
      → file_at f place id ≡ Some bytes → stands_in (place_eq place) b id ≡ true
