-- What the data of a host in memory stand for.
use Rattle.std.specs.Prelude.{◌≡◌, ℕ, List, [], ◌∷◌, if◌then◌else◌, Some, None, Vec, unwrap_or}
use Rattle.q_model.specs.declared.spot.Area.{Area}
use Rattle.std.specs.Option.{option_map}
use Rattle.std.specs.declared.alloc.Global.{Global}
use Rattle.q_host.specs.Files.{put, same_place, Placed}
use Rattle.q_mem_host.specs.Kept.{Kept}
use Rattle.q_mem_host.specs.Event.{Event, host_state_of}
use Rattle.q_mem_host.specs.Order.{InOrder}
use Rattle.q_mem_host.specs.declared.file.File.{File}
use Rattle.q_mem_host.specs.declared.placed_files.PlacedFile.{PlacedFile}

-- the items of a `Vec`
abbrev pub items_of : Vec ℕ Global → List ℕ
items_of v = v.items

-- a file without its memory
abbrev pub kept : File → Kept
kept f = record {
  bytes = f.bytes.items;
  soft = f.soft.items;
  synced = unwrap_or (option_map items_of f.synced) f.bytes.items;
}

-- the first file of each place counts
abbrev pub table : List PlacedFile → Placed Kept
table [] a n = None
table (e ∷ es) a n = if same_place e.area e.name a n then Some (kept e.file) else table es a n

-- the file of the place is changed by a function, and all else is as before
abbrev pub IsChanged : Area → List ℕ → (Kept → Kept) → List PlacedFile → List PlacedFile → Type 0
IsChanged a n change old new = table new ≡ put (table old) a n (option_map change (table old a n))

-- the file of the first place stands at the second, and all else is as before
abbrev pub IsMoved : Area → List ℕ → Area → List ℕ → List PlacedFile → List PlacedFile → Type 0
IsMoved a n b m old new = table new ≡ put (put (table old) a n None) b m (table old a n)

-- the files stand in order, and the files and the told bytes are those that the history leads to
pub record KeepsUp (files : List PlacedFile) (bytes : List ℕ) (h : List Event) : Type 0 where
  pub order : InOrder files
  pub disk : table files ≡ (host_state_of h).disk
  pub told : bytes ≡ (host_state_of h).told
