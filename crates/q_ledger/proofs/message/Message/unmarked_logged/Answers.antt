use Rattle.std.proofs.Common.{◌≡◌, ◌∙◌, ap, false, slice_get, sym, true}
use Rattle.q_ledger.proofs.PlaceLaws.{none_here, one_here, passes_at}
use Rattle.q_ledger.specs.Pending.{lacks_mark}
use Rattle.q_ledger.proofs.message.Message.unmarked_logged.Goals as goal

pub returns-then-lacks_mark-clause-is : goal.returns-then-lacks_mark-clause-is
returns-then-lacks_mark-clause-is c =
    let m = c.args.self.now in
    let i = c.loop-position.position in
    let passes : passes_at (lacks_mark m) i (slice_get m.recipients i) ≡ true = sym c.lacks_mark.ensures.is ∙ c.if-lacks_mark.true in
    sym (c.loop-position.invariant ∙ ap (λ ps. slice_get ps 0) (one_here (lacks_mark m) i m.recipients passes))

pub loop-position-preserved : goal.loop-position-preserved
loop-position-preserved c =
    let m = c.args.self.now in
    let i = c.loop-position.position in
    let fails : passes_at (lacks_mark m) i (slice_get m.recipients i) ≡ false = sym c.lacks_mark.ensures.is ∙ c.if-lacks_mark.false in
    c.loop-position.invariant ∙ ap (λ ps. slice_get ps 0) (none_here (lacks_mark m) i m.recipients fails)
