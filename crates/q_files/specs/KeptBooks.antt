-- Calls that change only files of which a book says nothing: deferral logs, and the failure log of
-- an id that stands nowhere.
use Rattle.std.specs.Prelude.{◌≡◌, Bool, false, IsTrue, List, None, ℕ}
use Rattle.q_model.specs.declared.id.Id.{Id}
use Rattle.q_model.specs.declared.spot.Area.{Area}
use Rattle.q_model.specs.declared.spot.Area.TheVariants as areas
use Rattle.q_model.specs.Book.{Book, message_of}
use Rattle.q_model.specs.IdTexts.{IsId}
use Rattle.q_model.specs.SpoolFiles.{Files}
use Rattle.q_host.specs.Files.{same_place}
use Rattle.q_host.specs.View.{View}
use Rattle.q_books.specs.HostStands.{HostStands, Takes}

-- Where a host tells and stands for a book, a call leaves it with this book.
abbrev pub KeepsBook : {H : Type 0} → Bool → (H → View) → H → H → Type 0
KeepsBook tells view before after =
    IsTrue tells → (b : Book) → HostStands (view before) b → Takes b b (view before) (view after)

-- the same for a book without a message of this id
abbrev pub KeepsBookWithout : {H : Type 0} → Id → Bool → (H → View) → H → H → Type 0
KeepsBookWithout id tells view before after =
    IsTrue tells → (b : Book) → IsId id → message_of b id ≡ None → HostStands (view before) b
    → Takes b b (view before) (view after)

-- no file changed but the two logs of this name
abbrev pub SameButLogs : List ℕ → Files → Files → Type 0
SameButLogs name f g = (a : Area) (n : List ℕ) → same_place areas.Bounce name a n ≡ false
    → same_place areas.Defer name a n ≡ false → g a n ≡ f a n
