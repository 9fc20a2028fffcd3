-- A message that wants a bounce had one when it left, however often its finishing was cut off, and
-- no message ever has two.
use Rattle.std.specs.Prelude.{◌+◌, ◌++◌, ◌≡◌, ◌≤◌, [], Bool, count_by, false, List, Some, true, ℕ, ◌∷◌}
use Rattle.q_model.specs.declared.entry.Entry.{Entry}
use Rattle.q_model.specs.declared.id.Id.{Id}
use Rattle.q_model.specs.Book.{all_ids, Book, message_of}
use Rattle.q_model.specs.Finishing.{wants_bounce}
use Rattle.q_model.specs.Ids.{bounce_of, id_eq}
use Rattle.q_model.specs.Ledger.{Ledger, opening}
use Rattle.q_model.specs.Message.{Message}
use Rattle.q_model.specs.Settings.{World}
use Rattle.q_model.specs.Step.{after}
use Rattle.q_lives.specs.Lives.{Life, life_entries}
use Rattle.q_model.specs.declared.entry.Entry.TheVariants as entries

-- the bounce of the message is stored
abbrev pub is_bounce_entry : Id → Entry → Bool
is_bounce_entry id (entries.Bounce other) = id_eq other id
is_bounce_entry id _ = false

-- the bounces of a message: those stored in these entries, and one that stood in the first book
abbrev pub bounces : Book → Id → List Entry → ℕ
bounces first id es =
    count_by (is_bounce_entry id) es + count_by (id_eq (bounce_of id)) (all_ids first)

-- a message that leaves and wants a bounce has had exactly one; `done` are the entries before
abbrev pub BouncedOnce : Book → List Entry → Ledger → Entry → Type 0
BouncedOnce first done l (entries.Remove id) =
    (m : Message) → message_of l.book id ≡ Some m →
    wants_bounce m ≡ true → bounces first id done ≡ 1
BouncedOnce first done l _ = Unit {0}

-- so of each entry, by the entries and the ledger before it
abbrev pub BouncedAtEach : Book → List Entry → World → Ledger → List Entry → Type 0
BouncedAtEach first done w l [] = Unit {0}
BouncedAtEach first done w l (e ∷ es) =
    BouncedOnce first done l e × BouncedAtEach first (done ++ e ∷ []) w (after w l e) es

-- so of each entry of a life on a book
abbrev pub BouncedAtEachOf : Book → List Entry → Book → Life → Type 0
BouncedAtEachOf first done book life =
    BouncedAtEach first done life.world (opening life.mode book) (life_entries book life)

-- so of each entry of each life
abbrev pub BouncedThroughout : Book → List Entry → Book → List Life → Type 0
BouncedThroughout first done book [] = Unit {0}
BouncedThroughout first done book (life ∷ lives) =
    BouncedAtEachOf first done book life
    × BouncedThroughout first (done ++ life_entries book life) life.left lives

-- no message has two bounces
abbrev pub BouncedAtMostOnce : Book → List Entry → Type 0
BouncedAtMostOnce first es = (id : Id) → bounces first id es ≤ 1
