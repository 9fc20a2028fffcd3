-- What is picked next, found message by message.
use Rattle.std.specs.Prelude.{if◌then◌else◌, None, Option, option_and_then, Some}
use Rattle.q_model.specs.Alternation.{from_deferred, from_incoming, Pick}
use Rattle.q_model.specs.declared.id.Id.{Id}
use Rattle.q_model.specs.declared.rows.DeferredName.{DeferredName}
use Rattle.q_model.specs.declared.rows.Scan.{Scan}
use Rattle.q_model.specs.Message.{Message}
use Rattle.q_model.specs.Places.{is_incoming}
use Rattle.q_model.specs.Scans.{deferred_name, is_ahead}
use Rattle.q_ledger.specs.declared.picking.Picked.{Picked}
use Rattle.q_ledger.specs.declared.picking.Picked.TheVariants as picks

-- the id of a message in incoming
abbrev pub incoming_id : Message → Option Id
incoming_id m = if is_incoming m.place then Some m.id else None

-- the name, where the scan hasn't come to it and takes it
abbrev pub if_ahead : Scan → DeferredName → Option DeferredName
if_ahead s n = if is_ahead s n then Some n else None

-- the name of a message in deferred that is ahead of the scan
abbrev pub name_ahead : Scan → Message → Option DeferredName
name_ahead s m = option_and_then (if_ahead s) (deferred_name m.place m.id)

-- what the code picked
abbrev pub pick_is : Picked → Pick
pick_is (picks.Incoming id) = from_incoming id
pick_is (picks.Deferred name) = from_deferred name
