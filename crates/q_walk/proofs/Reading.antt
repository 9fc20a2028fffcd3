-- What a host tells of the file of a place and an id.
use Rattle.std.proofs.Common.{◌≡◌, ◌∙◌, ℕ, List, Option, Some, None, ap, subst}
use Rattle.std.specs.Prelude.{IfSome}
use Rattle.q_books.specs.Spots.{spot_of}
use Rattle.q_host.specs.View.{View}
use Rattle.q_message.specs.FileHeads.{IsFault}
use Rattle.q_message.specs.Told.{bytes_at}
use Rattle.q_model.specs.declared.id.Id.{Id}
use Rattle.q_model.specs.declared.rows.Place.{Place}
use Rattle.q_model.specs.QueueFile.{queue_file}
use Rattle.q_model.specs.SpoolFiles.{file_at, Files}
use Rattle.q_model.specs.Values.{Spot}

-- a file that breaks the form is no queue file
pub fault_read : (v w : View) (spot : Spot) (place : Place) (id : Id) (bytes : List ℕ) (n : ℕ) → w.files ≡ v.files → spot ≡ spot_of place id → file_at v.files place id ≡ Some bytes
    → IfSome (bytes_at w spot) (IsFault n) → queue_file bytes ≡ None
fault_read v w spot place id bytes n same is there fault =
    let here : bytes_at w spot ≡ Some bytes = ap (λ (f : Files). f spot.area spot.name) same ∙ ap (λ (s : Spot). v.files s.area s.name) is ∙ there in
    (subst (λ (o : Option (List ℕ)). IfSome o (IsFault n)) here fault).0
