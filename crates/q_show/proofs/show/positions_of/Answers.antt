use Rattle.std.proofs.Common.{◌∙◌, ◌++◌, ◌∷◌, [], List, ap, sym, ℕ}
use Rattle.q_show.proofs.LineLaws.{range_next}
use Rattle.q_show.proofs.show.positions_of.Goals as goal

pub loop-position-preserved : goal.loop-position-preserved
loop-position-preserved c =
    let loop = c.loop-position in
    record { positions = c.in_ok-push.ensures.ok ∙ ap (λ (xs : List ℕ). xs ++ loop.position ∷ []) loop.invariant.positions ∙ sym (range_next loop.position) }
