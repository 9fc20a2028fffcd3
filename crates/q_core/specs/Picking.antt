-- The file that is taken next, and which queue follows.
use Rattle.q_core.specs.Changes.{is_known}
use Rattle.q_core.specs.Facts.{shows_damaged, file_pending, is_nothing, picked}
use Rattle.q_model.specs.declared.id.Id.{Id}
use Rattle.std.specs.Prelude.{◌&&◌, ◌++◌, ◌≡◌, [], ◌∷◌, Bool, false, if◌then◌else◌, nat_lt, not, Option, option_map, None, Some, true, ◌||◌}
use Rattle.q_model.specs.declared.rows.DeferredName.{DeferredName}
use Rattle.q_model.specs.declared.rows.Scan.{Scan}
use Rattle.q_core.specs.declared.decision.Found.{Found}
use Rattle.q_pool.specs.declared.slot.Slot.{Slot}
use Rattle.q_core.specs.declared.state.Core.{Core}
use Rattle.q_core.specs.declared.state.Seen.{Seen}
use Rattle.q_core.specs.declared.decision.Found.TheVariants.{Damaged, Nothing, Whole}
use Rattle.q_core.specs.declared.state.Seen.TheVariants.{Known, Unknown}

-- what a look has shown
abbrev pub shown : Seen → Found
shown Unknown = Nothing
shown (Known found) = found

-- what the scan gives
abbrev pub scanned_in : Option Scan → Seen → Found
scanned_in None seen = Nothing
scanned_in (Some scan) seen = shown seen

-- the file that is taken next
abbrev pub picked_in : Core → Found
picked_in c = picked c.deferred_follows (shown c.incoming) (scanned_in c.scan c.deferred)

-- it is deferred that gives it
abbrev pub is_from_deferred : Bool → Found → Found → Bool
is_from_deferred deferred_follows i d = is_nothing i || (not (is_nothing d) && deferred_follows)

abbrev pub from_deferred_in : Core → Bool
from_deferred_in c = is_from_deferred c.deferred_follows (shown c.incoming)
    (scanned_in c.scan c.deferred)

-- the name of a file
abbrev pub found_name : Found → DeferredName
found_name Nothing = record { due = 0; id = record { generation = 0; serial = 0; bounce = false } }
found_name (Damaged id due alone) = record { due = due; id = id }
found_name (Whole id due f) = record { due = due; id = id }

-- the slot of a message that comes into memory
abbrev pub found_slot : Found → Slot
found_slot Nothing = record {
  id = record { generation = 0; serial = 0; bounce = false };
  arrival = 0;
  null_sender = false;
  recipients = 0;
  unread = 0;
  marks = 0;
  pending = 0;
  logged = false;
  failed = false;
  bounced = false;
  damaged = false;
}
found_slot (Damaged id due alone) = record {
  id = id;
  arrival = 0;
  null_sender = false;
  recipients = 0;
  unread = 0;
  marks = 0;
  pending = 0;
  logged = false;
  failed = false;
  bounced = false;
  damaged = false;
}
found_slot (Whole id due f) = record {
  id = id;
  arrival = f.arrival;
  null_sender = f.null_sender;
  recipients = f.recipients;
  unread = 0;
  marks = 0;
  pending = file_pending f;
  logged = false;
  failed = nat_lt 0 f.failures;
  bounced = false;
  damaged = false;
}

-- the scan goes on behind the name
abbrev pub scan_moved_on : DeferredName → Option Scan → Option Scan
scan_moved_on name o = option_map (λ (s : Scan). record s { place = Some name }) o

-- the queue that didn't give follows, and the other is to be looked at anew
abbrev pub passed_in : Bool → DeferredName → Core → Core
passed_in from_deferred name c = if from_deferred
    then record c { deferred_follows = false; scan = scan_moved_on name c.scan; deferred = Unknown }
    else record c { deferred_follows = true; incoming = Unknown }

-- the message comes last
pub record IsEntered (old new : Core) (found : Found) : Type 0 where
  pub rest : new ≡ record old { admitted = new.admitted }
  pub admitted : new.admitted ≡ old.admitted ++ found_slot found ∷ []

-- active and incoming were looked at, and active shows no damaged file of this id
pub record IsHidden (c : Core) (id : Id) : Type 0 where
  pub incoming : is_known c.incoming ≡ true
  pub active : is_known c.active ≡ true
  pub hidden : shows_damaged c.active id ≡ false
