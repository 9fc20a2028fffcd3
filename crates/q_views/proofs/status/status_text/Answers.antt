use Rattle.std.proofs.Common.{◌∙◌, ◌++◌, List, ap, ℕ}
use Rattle.q_views.specs.declared.figures.Figures.{Figures}
use Rattle.q_views.specs.Metrics.{figures_text}
use Rattle.q_views.proofs.status.status_text.Goals as goal

pub returns-clause-text : goal.returns-clause-text
returns-clause-text g c t b stands =
    c.in_ok-add_figures.ensures ∙ ap (λ (x : List ℕ). x ++ figures_text c.in_ok-figures.figures) c.new-text.ensures.items
    ∙ ap (λ (s : Figures). figures_text s) (c.in_ok-figures.ensures.figures t b stands)
