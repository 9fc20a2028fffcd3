use Rattle.q_laws.proofs.SiteEntries.{sites_at_life}
use Rattle.q_laws.proofs.sites_begin.Goals as goal

pub returns : goal.returns
returns c = λ w l generation mode windows. sites_at_life w l generation mode windows
