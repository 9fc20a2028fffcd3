-- The folders of a spool, by the areas that they hold.
use Rattle.std.specs.Prelude.{◌≡◌, codes, List, ℕ}
use Rattle.q_model.specs.declared.spot.Area.{Area}
use Rattle.q_model.specs.declared.spot.Area.TheVariants as areas

-- the name of an area's folder
abbrev pub folder_name : Area → List ℕ
folder_name areas.Boot = codes "boot"
folder_name areas.Conf = codes "conf"
folder_name areas.Tmp = codes "tmp"
folder_name areas.Incoming = codes "incoming"
folder_name areas.Active = codes "active"
folder_name areas.Deferred = codes "deferred"
folder_name areas.Hold = codes "hold"
folder_name areas.Corrupt = codes "corrupt"
folder_name areas.Bounce = codes "bounce"
folder_name areas.Defer = codes "defer"

-- no two areas have the same folder
abbrev pub AreFoldersApart : Type 0
AreFoldersApart = (a b : Area) → folder_name a ≡ folder_name b → a ≡ b
