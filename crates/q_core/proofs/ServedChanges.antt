-- Served rows of which no row waits leave before the core is tidied.
use Rattle.std.proofs.Common.{◌≡◌, ◌∙◌, ap, List}
use Rattle.q_core.proofs.UsedLaws.{filter_twice}
use Rattle.q_core.specs.Changes.{HasLeftSite, IsTidied, with_served}
use Rattle.q_core.specs.Sending.{IsStarted}
use Rattle.q_core.specs.Tidied.{tidied_served, waits_at_site}
use Rattle.q_core.specs.declared.state.Core.{Core}
use Rattle.q_model.specs.declared.id.Id.{Id}
use Rattle.q_model.specs.Values.{Served, Site}
use Rattle.std.specs.Prelude.{ℕ}

module _ (served : List Served) where
  pub left_before : (c d : Core) (site : Site) → HasLeftSite c d site → HasLeftSite (with_served served c) (with_served served d) site
  left_before c d site h = record { rest = ap (with_served served) h.rest; sites = h.sites }

  pub started_before : (c d : Core) (id : Id) (transport : ℕ) → IsStarted c d id transport → IsStarted (with_served served c) (with_served served d) id transport
  started_before c d id transport h = record { rest = ap (with_served served) h.rest; lines = h.lines }

  -- the same comes of tidying
  pub tidied_before : (c d : Core) → c.served ≡ tidied_served c.waiting served → IsTidied c d → IsTidied (with_served served c) d
  tidied_before c d is h = record {
    rest = h.rest;
    lines = h.lines;
    served = h.served ∙ ap (tidied_served c.waiting) is ∙ filter_twice (λ (s : Served). waits_at_site c.waiting s.id s.site) served;
    sites = h.sites;
  }
