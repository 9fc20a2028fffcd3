-- What a crash may make of a book: what wasn't sure is gone, or is sure.
use Rattle.std.specs.Prelude.{◌≡◌, ◌⊎◌, [], false, List, true, ◌∷◌}
use Rattle.q_model.specs.declared.rows.Mark.{Mark}
use Rattle.q_model.specs.Book.{Book}
use Rattle.q_model.specs.Message.{Logged, Message, Recipient}
use Rattle.q_model.specs.declared.rows.Mark.TheVariants as marks

-- the first has R to the second at each place, and they are as long as one another
abbrev pub EachTo : {A : Type 0} → (A → A → Type 0) → List A → List A → Type 0
EachTo R [] [] = Unit {0}
EachTo R [] (y ∷ ys) = ⊥
EachTo R (x ∷ xs) [] = ⊥
EachTo R (x ∷ xs) (y ∷ ys) = R x y × EachTo R xs ys

-- a mark that was only written is gone, or sure
abbrev pub MarkAfter : Mark → Mark → Type 0
MarkAfter marks.Unmarked mark = mark ≡ marks.Unmarked
MarkAfter marks.Written mark = (mark ≡ marks.Unmarked) ⊎ (mark ≡ marks.Synced)
MarkAfter marks.Synced mark = mark ≡ marks.Synced

-- the same addresses, and what became of its mark
pub record RecipientAfter (old new : Recipient) : Type 0 where
  pub address : new.address ≡ old.address
  pub original : new.original ≡ old.original
  pub mark : MarkAfter old.mark new.mark

-- a failure that is kept is sure
abbrev firm : Logged → Logged
firm f = record f { firm = true }

-- each failure is kept, or left out where it wasn't sure
abbrev pub FailuresAfter : List Logged → List Logged → Type 0
FailuresAfter [] new = new ≡ []
FailuresAfter (f ∷ fs) new =
    ((rest : List Logged) × (new ≡ firm f ∷ rest) × FailuresAfter fs rest) ⊎ ((f.firm ≡ false) × FailuresAfter fs new)

pub record MessageAfter (old new : Message) : Type 0 where
  pub id : new.id ≡ old.id
  pub version : new.version ≡ old.version
  pub sender : new.sender ≡ old.sender
  pub arrival : new.arrival ≡ old.arrival
  pub content : new.content ≡ old.content
  pub place : new.place ≡ old.place
  pub recipients : EachTo RecipientAfter old.recipients new.recipients
  pub failures : FailuresAfter old.failures new.failures

-- the second book is one that a crash may leave of the first
pub record IsCrashOf (old new : Book) : Type 0 where
  pub generation : new.generation ≡ old.generation
  pub damaged : new.damaged ≡ old.damaged
  pub messages : EachTo MessageAfter old.messages new.messages
