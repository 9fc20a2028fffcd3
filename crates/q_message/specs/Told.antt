-- What a host tells of a queue file that is read.
use Rattle.std.specs.Prelude.{◌≡◌, ℕ, Bool, IfSome, IsErrOf, IsSome, IsTrue, List, Option, Result, Some}
use Rattle.q_model.specs.Values.{Spot}
use Rattle.q_host.specs.View.{View}
use Rattle.q_message.specs.declared.error.MessageError.{MessageError}
use Rattle.q_message.specs.declared.error.MessageError.TheVariants.{NotAMessage}
use Rattle.q_message.specs.Windows.{Seen, Shows}

-- the bytes of the file at a place, if there is one
abbrev pub bytes_at : View → Spot → Option (List ℕ)
bytes_at v spot = v.files spot.area spot.name

-- where the host tells its files, there is one at the place
abbrev pub IsThere : Bool → View → Spot → Type 0
IsThere tells v spot = IsTrue tells → IsSome (bytes_at v spot)

-- where the host tells its files, that at the place has this
abbrev pub TellsOf : Bool → View → Spot → (List ℕ → Type 0) → Type 0
TellsOf tells v spot P = IsTrue tells → IfSome (bytes_at v spot) P

-- the same, for each file that may stand there
abbrev pub TellsEach : Bool → View → Spot → (List ℕ → Type 0) → Type 0
TellsEach tells v spot P = IsTrue tells → (file : List ℕ) → bytes_at v spot ≡ Some file → P file

-- the same, where the window shows the file
abbrev pub TellsShown : Bool → View → Spot → Seen → (List ℕ → Type 0) → Type 0
TellsShown tells v spot w P = TellsEach tells v spot (λ file. Shows file w → P file)

-- the same, of what the window passed
abbrev pub TellsPassed : Bool → View → Spot → Seen → Seen → (ℕ → ℕ → List ℕ → Type 0) → Type 0
TellsPassed tells v spot before after P = TellsShown tells v spot before (P before.at after.at)

-- where the window showed the file, it shows it still
abbrev pub StaysShown : Bool → View → Spot → Seen → Seen → Type 0
StaysShown tells v spot before after = TellsShown tells v spot before (λ file. Shows file after)

-- where the call answers that the file is no queue file, and at which offset
abbrev pub OnNoMessage : {T : Type 0} → Result T MessageError → (ℕ → Type 0) → Type 0
OnNoMessage result P = (place : ℕ) → IsErrOf result (NotAMessage place) → P place
