use Rattle.std.proofs.Common.{◌∙◌, ap, sym}
use Rattle.q_places.specs.Kept.{kept_file}
use Rattle.q_engine.proofs.KeptPlaces.{none_some, same_some}
use Rattle.q_engine.proofs.engine.Engine.forget_left.Goals as goal

pub returns-in_default-clause-fewer : goal.returns-in_default-clause-fewer
returns-in_default-clause-fewer c = record { marks = λ id position at k. k; progress = λ id p k. k }

pub returns-in_default-clause-gone : goal.returns-in_default-clause-gone
returns-in_default-clause-gone c id left = absurd (none_some id (sym c.in_default.is ∙ (c.left_by.ensures ∙ left)))

pub returns-clause-gone : goal.returns-clause-gone
returns-clause-gone c id left = ap (kept_file c.forget.new.self) (same_some id c.in-Some.id (sym (c.left_by.ensures ∙ left) ∙ c.in-Some.is)) ∙ c.forget.ensures.gone
