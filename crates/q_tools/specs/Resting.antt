-- A spool of which no message stands in active.
use Rattle.std.specs.Prelude.{◌≡◌, false, is_some}
use Rattle.q_model.specs.declared.id.Id.{Id}
use Rattle.q_model.specs.IdTexts.{id_text, IsId}
use Rattle.q_model.specs.SpoolFiles.{Files}
use Rattle.q_model.specs.declared.spot.Area.TheVariants as areas

abbrev pub HasNoneActive : Files → Type 0
HasNoneActive f = (id : Id) → IsId id → is_some (f areas.Active (id_text id)) ≡ false
