-- Which file is picked next: incoming and deferred alternate (qmgr(8), "fairness").
use Rattle.std.specs.Option.{option_map_or}
use Rattle.std.specs.Prelude.{Bool, false, if◌then◌else◌, Option, option_and_then, option_map, Some, true, None}
use Rattle.q_model.specs.declared.id.Id.{Id}
use Rattle.q_model.specs.declared.rows.DeferredName.{DeferredName}
use Rattle.q_model.specs.declared.rows.Scan.{Scan}
use Rattle.q_model.specs.Book.{ids_at}
use Rattle.q_model.specs.Ids.{id_before, id_eq}
use Rattle.q_model.specs.Ledger.{Ledger}
use Rattle.q_model.specs.Lists.{least}
use Rattle.q_model.specs.Places.{is_incoming}
use Rattle.q_model.specs.Scans.{scan_next}

-- which queue gives, and the name that it gives
pub data Pick : Type 0 where
  from_incoming : Id → Pick
  from_deferred : DeferredName → Pick

-- the id of what is picked next
abbrev pub pick_id : Pick → Id
pick_id (from_incoming id) = id
pick_id (from_deferred name) = name.id

-- the least id in incoming
abbrev pub incoming_next : Ledger → Option Id
incoming_next l = least id_before (ids_at is_incoming l.book)

-- the scan's next name
abbrev pub deferred_next : Ledger → Option DeferredName
deferred_next l = option_and_then (λ s. scan_next l.book s) l.scan

-- an id in incoming is picked where the scan has no next name, or incoming follows
abbrev pub pick_with : Bool → Id → Option DeferredName → Pick
pick_with deferred_follows id None = from_incoming id
pick_with deferred_follows id (Some name) = if deferred_follows then from_deferred name else from_incoming id

-- the queue that follows gives; else the one that has a message
abbrev pub pick_of : Bool → Option Id → Option DeferredName → Option Pick
pick_of deferred_follows None scanned = option_map (λ name. from_deferred name) scanned
pick_of deferred_follows (Some id) scanned = Some (pick_with deferred_follows id scanned)

-- what is picked next
abbrev pub pick : Ledger → Option Pick
pick l = pick_of l.deferred_follows (incoming_next l) (deferred_next l)

-- the id is the one picked next
abbrev pub is_pick : Ledger → Id → Bool
is_pick l id = option_map_or (λ p. id_eq (pick_id p) id) (pick l) false

-- the other queue follows, and the walk of deferred goes on behind the name
abbrev pub passed : Pick → Ledger → Ledger
passed (from_incoming id) l = record l { deferred_follows = true }
passed (from_deferred name) l =
    record l { deferred_follows = false; scan = option_map (λ (s : Scan). record s { place = Some name }) l.scan }

-- which queue follows, and the scan, after a file was picked
abbrev pub after_pick : Ledger → Ledger
after_pick l = option_map_or (λ p. passed p l) (pick l) l
