-- A message that was acknowledged stands in exactly one queue file until it leaves.
use Rattle.std.specs.List.{list_any}
use Rattle.std.specs.Prelude.{◌++◌, ◌≡◌, ◌⊎◌, Bool, count_by, false, List, map, None, Option, Some, true, ℕ, ◌∷◌}
use Rattle.q_model.specs.declared.entry.Entry.{Entry}
use Rattle.q_model.specs.declared.id.Id.{Id}
use Rattle.q_model.specs.Book.{all_ids, Book, damaged_of, message_of}
use Rattle.q_model.specs.Ids.{bounce_of, id_eq}
use Rattle.q_model.specs.Message.{Message, receiver_of}
use Rattle.q_model.specs.declared.entry.Entry.TheVariants as entries
use Rattle.q_model.specs.Values.{Receiver}

-- the message leaves
abbrev pub is_remove_of : Id → Entry → Bool
is_remove_of id (entries.Remove other) = id_eq other id
is_remove_of id _ = false

-- the message has the sender, the recipients and the content with which it arrived
pub record IsAsArrived
    (m : Message) (sender : Option (List ℕ)) (to : List Receiver) (content : List ℕ) : Type 0 where
  pub same_sender : m.sender ≡ sender
  pub same_recipients : map receiver_of m.recipients ≡ to
  pub same_content : m.content ≡ content

-- the id has one file of all queues, which can be read, and in it stands the message that arrived
pub record StandsOnce
    (b : Book) (id : Id)
    (sender : Option (List ℕ)) (to : List Receiver) (content : List ℕ) : Type 0 where
  pub once : count_by (id_eq id) (all_ids b) ≡ 1
  pub readable : damaged_of b id ≡ None
  pub message : Message
  pub there : message_of b id ≡ Some message
  pub as_arrived : IsAsArrived message sender to content

-- it stands so in the book, or it leaves in these entries
abbrev pub StandsOrLeaves :
    Id → Option (List ℕ) → List Receiver → List ℕ → List Entry → Book → Type 0
StandsOrLeaves id sender to content es b =
    StandsOnce b id sender to content ⊎ (list_any (is_remove_of id) es ≡ true)

-- the bounce of the message stands so, whatever it says, or it leaves in these entries
abbrev pub BounceStandsOrLeaves : Id → List Entry → Book → Type 0
BounceStandsOrLeaves id es b =
    (to : List Receiver) × (content : List ℕ) × StandsOrLeaves (bounce_of id) None to content es b

-- Each message that stood at first, and each that arrived or was stored as a bounce in these
-- entries, stands in exactly one queue file of the book that is left, or it left.
pub record StandsOnceOrLeft (first : Book) (es : List Entry) (left : Book) : Type 0 where
  pub stood :
      (m : Message) → message_of first m.id ≡ Some m →
      StandsOrLeaves m.id m.sender (map receiver_of m.recipients) m.content es left
  pub arrived :
      (before later : List Entry) (id : Id) →
      (sender : Option (List ℕ)) (to : List Receiver) (content : List ℕ) →
      es ≡ before ++ (entries.Arrive id sender to content ∷ later) →
      StandsOrLeaves id sender to content later left
  pub bounced :
      (before later : List Entry) (id : Id) →
      es ≡ before ++ (entries.Bounce id ∷ later) → BounceStandsOrLeaves id later left
