-- A link that is open is called, and left open or closed.
use Rattle.std.proofs.Common.{◌≡◌, ◌≢◌, ap, ◌∙◌}
use Rattle.q_link.specs.Reads.{Writes}
use Rattle.q_link.specs.Usages.{usage_called, usage_closed}
use Rattle.q_link.specs.Views.{View}
use Rattle.q_link.specs.declared.link.Put.{Put}
use Rattle.q_link.specs.declared.link.Put.TheVariants as put
use Rattle.q_link.specs.declared.usage.Usage.{Usage}
use Rattle.q_link.specs.declared.usage.Usage.TheVariants.{Closed, Misused, Open}
use Rattle.std.proofs.Common.{List, ℕ}

pub open_unmisused : (u : Usage) → u ≡ Open → u ≢ Misused
open_unmisused u usable misused = cc

closed_unmisused : (u : Usage) → u ≡ Closed → u ≢ Misused
closed_unmisused u closed misused = cc

-- it stays open
pub called_open : (u v : Usage) → u ≡ Open → v ≡ usage_called u → v ≡ Open
called_open u v usable is = is ∙ ap usage_called usable

-- it is closed
pub closed_once : (u v : Usage) → u ≡ Open → v ≡ usage_closed u → v ≢ Misused
closed_once u v usable is = closed_unmisused v (is ∙ ap usage_closed usable)

-- a write, whatever it answers
pub written_once : (old new : View) (came : Put) (bytes : List ℕ) → Writes old new came bytes → old.usage ≡ Open → new.usage ≢ Misused
written_once old new (put.Gave n) bytes h usable = open_unmisused new.usage (called_open old.usage new.usage usable h.2.usage)
written_once old new put.NotYet bytes h usable = open_unmisused new.usage (called_open old.usage new.usage usable h.usage)
written_once old new put.Failed bytes h usable = closed_once old.usage new.usage usable h.usage
