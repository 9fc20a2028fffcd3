use Rattle.std.proofs.Common.{◌≡◌, ◌++◌, subst, ℕ}
use Rattle.std.specs.Prelude.{codes, OnOk}
use Rattle.q_views.specs.Metrics.{generation_text, value_text}
use Rattle.q_views.proofs.metrics.add_generation.Goals as goal

pub returns : goal.returns
unfolding generation_text
returns c = subst (λ (value : ℕ). OnOk c.add_value_text.result (c.add_value_text.new.text.items ≡ c.args.text.now.items
    ++ value_text (codes "qmgr_generation") (codes "Generation of the last life, 0 before the first.") value)) c.from.ensures c.add_value_text.ensures
