-- What holds of the ledger after a front.
use Rattle.std.specs.List.{list_all, list_any}
use Rattle.std.specs.Prelude.{◌&&◌, ◌≡◌, Bool, List, true, ◌∷◌}
use Rattle.q_fronts.specs.Fronts.{IsLedgerAfter}
use Rattle.q_laws.specs.Consistency.{IsConsistent, IsUsable}
use Rattle.q_laws.specs.SitesConsistency.{IsOpen, IsSitesConsistent}
use Rattle.q_model.specs.declared.entry.Entry.{Entry}
use Rattle.q_model.specs.declared.rows.Row.{Row}
use Rattle.q_model.specs.declared.rows.Served.{Served}
use Rattle.q_model.specs.Ids.{id_eq}
use Rattle.q_model.specs.Ledger.{Ledger}
use Rattle.q_model.specs.Settings.{World}
use Rattle.q_model.specs.Sites.{site_eq}

-- one of these rows is of the message and the site
abbrev pub is_awaited : List Row → Served → Bool
is_awaited rows s = list_any (λ r. id_eq r.id s.id && site_eq r.site s.site) rows

-- All fits together, and where a message was last sent to a site, a row of it still waits there.
pub record IsFitting (w : World) (l : Ledger) : Type 0 where
  pub consistent : IsConsistent w l
  pub sites : IsSitesConsistent w l
  pub served : list_all (is_awaited l.waiting) l.served ≡ true

-- So it is after each front that has begun, by settings that let messages be read, marks be synced and
-- windows be open.
abbrev pub FrontsFit : Type 0
FrontsFit = (w : World) (first : Entry) (es : List Entry) (l : Ledger)
    → IsUsable w → IsOpen w → IsLedgerAfter w (first ∷ es) l → IsFitting w l
