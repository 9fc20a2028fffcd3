-- A restart repeats only recipients whose mark wasn't synced.
use Rattle.std.specs.List.{list_any}
use Rattle.std.specs.Prelude.{◌++◌, ◌==◌, ◌≡◌, Bool, false, List, true, ℕ, ◌∷◌}
use Rattle.q_model.specs.declared.entry.Entry.{Entry}
use Rattle.q_model.specs.declared.id.Id.{Id}
use Rattle.q_model.specs.Past.{is_life}
use Rattle.q_model.specs.Values.{Site}
use Rattle.q_lives.specs.Causes.{IsReported}
use Rattle.q_model.specs.declared.entry.Entry.TheVariants as entries

-- the recipient is one of these
abbrev pub names : ℕ → List ℕ → Bool
names position positions = list_any (λ p. p == position) positions

-- In these entries the recipient was marked, and later in the same life the marks of its message
-- were synced.
pub record IsMarkedForGood (id : Id) (position : ℕ) (es : List Entry) : Type 0 where
  pub before : List Entry
  pub between : List Entry
  pub later : List Entry
  pub entries : es ≡ before ++ (entries.Mark id position ∷ (between ++ (entries.Sync id ∷ later)))
  pub same_life : list_any is_life between ≡ false

-- What lies between the report of a delivery and a start that repeats it: another life began, and
-- the recipient's mark wasn't synced in the life that wrote it.
pub record IsUnsynced (id : Id) (position : ℕ) (meanwhile : List Entry) : Type 0 where
  pub another_life : list_any is_life meanwhile ≡ true
  pub not_for_good : IsMarkedForGood id position meanwhile → ⊥

-- In these entries each start that names a recipient whose delivery was reported is such a repeat.
abbrev pub RepeatsUnsynced : List Entry → Type 0
RepeatsUnsynced es =
    (id : Id) (position : ℕ) (meanwhile later : List Entry) →
    (number : ℕ) (site : Site) (positions : List ℕ) →
    IsReported id position es (meanwhile ++ (entries.Start number id site positions ∷ later)) →
    names position positions ≡ true → IsUnsynced id position meanwhile
