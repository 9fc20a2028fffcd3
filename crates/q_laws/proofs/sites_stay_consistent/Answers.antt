use Rattle.q_laws.proofs.SiteEntries.{sites_at_entry}
use Rattle.q_laws.proofs.sites_stay_consistent.Goals as goal

pub returns : goal.returns
returns c = λ w l e consistent entry_of sites. sites_at_entry w l e consistent sites entry_of
